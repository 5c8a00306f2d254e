-- The pairs of a signed token and a list of keys, in words.
use Rattle.std.specs.Prelude.{ℕ, ◌≡◌, ◌⊎◌, ◌↔◌, ◌<◌, ◌≤◌, true, false, List, length, slice_get, Some}
use Rattle.jwt_mac.specs.declared.algorithm.Alg.{Alg}
use Rattle.jwt_mac.specs.Algorithm.{is_hmac_alg, tag_of, try_cost}
use Rattle.jwt_mac.specs.Verifying.{Meaning, OctKey, MessageOctets, signing_input, first_naming}
use Rattle.jwt_text.specs.Rows.{IsFirstRow}
use Rattle.jwt_jws.specs.Token.{Token, SignatureParts, message_of}
use Rattle.jwt_jws.specs.SignedToken.{IsSignedToken}
use Rattle.jwt_keys.specs.Keys.{KeyParts}
use Rattle.jwt_policy.specs.declared.sig_fault.SigFault.{SigFault}
use Rattle.jwt_policy.specs.Settings.{Settings}
use Rattle.jwt_policy.specs.Bars.{alg, bar_rows}
use Rattle.jwt_policy.specs.Laws.{IsEligible}
use Rattle.jwt_verify.specs.Table.{Table}
use Rattle.jwt_verify.specs.Verdict.{Terms, without_line_feed}

-- ---- one pair

-- for another algorithm the first handed-in verifier that names it is asked
abbrev pub IsToAsk : List Meaning → Alg → Meaning → Type 0
IsToAsk verifiers algorithm verifier = (is_hmac_alg algorithm ≡ false) × (first_naming verifiers algorithm ≡ Some verifier)

-- The signature is valid by the key (RFC 7515, section 5.2, step 8): by HMAC the key is a secret, and the signature is the tag of the
-- signing input under it (RFC 2104; RFC 7518, section 3.2); by another algorithm the verifier that is asked accepts it.
abbrev pub IsValid : List Meaning → MessageOctets → SignatureParts → KeyParts → Type 0
IsValid verifiers message signature key = (algorithm : Alg) × (alg signature ≡ Some algorithm)
    × (((is_hmac_alg algorithm ≡ true) × ((secret : List ℕ) × (key.octets ≡ OctKey secret) × (signature.octets ≡ tag_of algorithm secret (signing_input message)))) ⊎ ((verifier : Meaning) × IsToAsk verifiers algorithm verifier × (verifier.accepts algorithm key.octets message signature.octets ≡ true)))

-- A try by HMAC, for which the key is a secret, costs the octets that are fed (RFC 2104, section 2); any other costs none.
abbrev pub IsCost : MessageOctets → SignatureParts → KeyParts → ℕ → Type 0
IsCost message signature key cost = (algorithm : Alg) × (secret : List ℕ) × (alg signature ≡ Some algorithm) × (key.octets ≡ OctKey secret) × (cost ≡ try_cost algorithm (length secret) (length (signing_input message)))

-- ---- all pairs

-- the signature and the key of these numbers are there, and this holds of the two
abbrev pub AtPair : Token → List KeyParts → ℕ → ℕ → (SignatureParts → KeyParts → Type 0) → Type 0
AtPair token keys signature key P = (s : SignatureParts) × (k : KeyParts) × (slice_get token.signatures signature ≡ Some s) × (slice_get keys key ≡ Some k) × P s k

-- The table of the token's signatures and the keys: their numbers and the mode; the bar of each signature, which is the first row
-- that holds; for each pair whether it is eligible, whether it is valid, whether a verifier may lack memory for it, and its cost,
-- where it costs anything.
pub record IsTableOf (terms : Terms) (token : Token) (table : Table) : Type 0 where
  pub signatures : table.signatures ≡ length token.signatures
  pub keys : table.keys ≡ length terms.keys
  pub mode : table.mode ≡ terms.policy.run.mode
  pub bar : (i : ℕ) (fault : SigFault) → (table.bar i ≡ Some fault) ↔ ((s : SignatureParts) × (slice_get token.signatures i ≡ Some s) × IsFirstRow (bar_rows terms.policy s terms.verifiers) fault)
  pub eligible : (i j : ℕ) → (table.eligible i j ≡ true) ↔ AtPair token terms.keys i j (λ s key. IsEligible terms.policy s key terms.verifiers)
  pub valid : (i j : ℕ) → (table.valid i j ≡ true) ↔ AtPair token terms.keys i j (λ s key. IsValid terms.verifiers (message_of token s) s key)
  pub may_lack : (i j : ℕ) → (table.may_lack i j ≡ true) ↔ AtPair token terms.keys i j (λ s key.
      (a : Alg) × (alg s ≡ Some a) × ((v : Meaning) × IsToAsk terms.verifiers a v × (v.may_lack a key.octets (message_of token s) s.octets ≡ true)))
  pub cost : (i j n : ℕ) → 0 < n → (table.cost i j ≡ n) ↔ AtPair token terms.keys i j (λ s key. IsCost (message_of token s) s key n)

-- the octets aren't too long and, without one line feed at their end where the policy drops it, are this signed token (RFC 7515, section 7)
abbrev pub IsToken : Settings → List ℕ → Token → Type 0
IsToken policy octets token = (length octets ≤ policy.run.limit) × IsSignedToken policy.run.max_signatures (without_line_feed policy.run.line_feed octets) token

-- the octets are this signed token, and this is its table
abbrev pub IsTokenWithTable : Terms → List ℕ → Token → Table → Type 0
IsTokenWithTable terms octets token table = IsToken terms.policy octets token × IsTableOf terms token table
