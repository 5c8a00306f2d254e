-- The laws of the tables, in words.
use Rattle.std.specs.Prelude.{◌≡◌, ℕ, ℤ, pos, ◌+◌, ◌+ℤ◌, ◌<ℤ◌, ◌≤ℤ◌, ◌⊎◌, List, [], codes, true, Some, None}
use Rattle.std.specs.List.{Contains}
use Rattle.serde_json.specs.Data.{Data, string, Members}
use Rattle.jwt_mac.specs.declared.algorithm.Alg.{Alg}
use Rattle.jwt_mac.specs.Algorithm.{name_of}
use Rattle.jwt_mac.specs.Verifying.{Meaning}
use Rattle.jwt_text.specs.Rows.{NoRow}
use Rattle.jwt_text.specs.Members.{has, text_at, list_at, whole_at}
use Rattle.jwt_jws.specs.Token.{SignatureParts, kid}
use Rattle.jwt_keys.specs.Keys.{KeyParts}
use Rattle.jwt_policy.specs.Settings.{Settings}
use Rattle.jwt_policy.specs.Bars.{alg, can_verify, bar_rows}
use Rattle.jwt_policy.specs.Eligible.{suits}

-- The signature has no bar, and names an algorithm that the key suits and that is HMAC or named by a verifier; the key's
-- `alg`, `use` and `key_ops`, where they are there, are that algorithm's name, `sig`, and a list that holds `verify`; where the
-- signature has a `kid`, it is the key's, or the key has none, thumbprints count, and it is the key's thumbprint.
pub record IsEligible (p : Settings) (s : SignatureParts) (key : KeyParts) (verifiers : List Meaning) : Type 0 where
  pub unbarred : NoRow (bar_rows p s verifiers)
  pub algorithm : Alg
  pub named : alg s ≡ Some algorithm
  pub has_verifier : can_verify verifiers algorithm ≡ true
  pub suited : suits algorithm key.octets ≡ true
  pub key_alg : (name : List ℕ) → key.alg ≡ Some name → name ≡ name_of algorithm
  pub key_use : (name : List ℕ) → key.key_use ≡ Some name → name ≡ codes "sig"
  pub key_ops : (names : List (List ℕ)) → key.key_ops ≡ Some names → Contains names (codes "verify")
  pub answers : (name : List ℕ) → kid s ≡ Some name
      → (key.kid ≡ Some name) ⊎ ((key.kid ≡ None) × (p.header.thumb_kid ≡ true) × (key.thumbprint ≡ name))

-- The required claims are there; where the policy names issuers, `iss` is one of them; where `aud` is there, it is one of the
-- policy's audiences, or holds one (RFC 7519, section 4.1.3); `exp`, where it is there, is later than now, the leeway added to it
-- (section 4.1.4); `nbf`, where it is there, is not later than now and the leeway (section 4.1.5); where the policy has a greatest
-- age, `iat` is there, is not later than now and the leeway, and is not older than that age and the leeway (section 4.1.6).
pub record ClaimsHold (p : Settings) (ms : Members) (now : ℤ) : Type 0 where
  pub required : (name : List ℕ) → Contains p.claims.required name → has name ms ≡ true
  pub issuer : (p.claims.issuers ≡ []) ⊎ ((name : List ℕ) × (text_at (codes "iss") ms ≡ Some name) × Contains p.claims.issuers name)
  pub audience : has (codes "aud") ms ≡ true → (name : List ℕ)
      × ((text_at (codes "aud") ms ≡ Some name) ⊎ ((ds : List Data) × (list_at (codes "aud") ms ≡ Some ds) × Contains ds (string name)))
      × Contains p.claims.audiences name
  pub exp : (exp : ℤ) → whole_at (codes "exp") ms ≡ Some exp → now <ℤ (exp +ℤ pos p.claims.leeway)
  pub nbf : (nbf : ℤ) → whole_at (codes "nbf") ms ≡ Some nbf → nbf ≤ℤ (now +ℤ pos p.claims.leeway)
  pub iat_is_there : (age : ℕ) → p.claims.max_age ≡ Some age → has (codes "iat") ms ≡ true
  pub iat_least : (age : ℕ) (iat : ℤ) → p.claims.max_age ≡ Some age → whole_at (codes "iat") ms ≡ Some iat → iat ≤ℤ (now +ℤ pos p.claims.leeway)
  pub iat_most : (age : ℕ) (iat : ℤ) → p.claims.max_age ≡ Some age → whole_at (codes "iat") ms ≡ Some iat → now ≤ℤ (iat +ℤ pos (age + p.claims.leeway))
