-- The policies for proofs (RFC 9449, sections 4.2 and 4.3).
use Rattle.std.specs.Prelude.{◌≡◌, ℕ, List, [], ◌∷◌, Bool, false, not, ◌&&◌, codes, Some, Ok, Err, is_none}
use Rattle.std.specs.List.{Contains, list_any}
use Rattle.std.specs.Str.{bytes_eq}
use Rattle.jwt_mac.specs.declared.algorithm.Alg.{Alg}
use Rattle.jwt_mac.specs.Algorithm.{is_hmac_alg}
use Rattle.jwt_text.specs.Rows.{Row, ◌⇒◌, first_row}
use Rattle.jwt_policy.specs.Settings.{Settings}
use Rattle.jwt_policy.specs.Texts.{some_passes, is_among}
use Rattle.jwt_policy.specs.Document.{policy_of}
use Rattle.jwt_policy.specs.declared.policy_fault.PolicyFault.TheVariants.{OutOfMemory}
use Rattle.jwt_possession.specs.declared.policy.PolicyLack.{PolicyLack}
use Rattle.jwt_possession.specs.declared.policy.PolicyLack.TheVariants.{Typ, SharedSecret, Required, MaxAge}
use Rattle.jwt_possession.specs.declared.policy.ProofPolicyFault.{ProofPolicyFault}
use Rattle.jwt_possession.specs.declared.policy.ProofPolicyFault.TheVariants.{Document, Lacks}

-- In words: the `typ` of section 4.2, step 4 of section 4.3; no algorithm by a shared secret, step 5; the claims that a proof has, step 3;
-- an age for `iat`, step 11.
pub record IsProofPolicy (policy : Settings) : Type 0 where
  pub typ : policy.header.typ ≡ Some (codes "dpop+jwt")
  pub asymmetric : (alg : Alg) → Contains policy.run.algs alg → is_hmac_alg alg ≡ false
  pub jti : Contains policy.claims.required (codes "jti")
  pub htm : Contains policy.claims.required (codes "htm")
  pub htu : Contains policy.claims.required (codes "htu")
  pub iat : Contains policy.claims.required (codes "iat")
  pub aged : (age : ℕ) × (policy.claims.max_age ≡ Some age)

-- ---- the same as a table

-- the policy requires the claims that each proof has (section 4.2)
abbrev pub requires_all : Settings → Bool
requires_all policy = let names = policy.claims.required in
    is_among names (codes "jti") && (is_among names (codes "htm") && (is_among names (codes "htu") && is_among names (codes "iat")))

-- what a policy lacks that is to be one
abbrev pub policy_rows : Settings → List (Row PolicyLack)
policy_rows policy =
    (not (some_passes (λ typ. bytes_eq typ (codes "dpop+jwt")) policy.header.typ) ⇒ Typ)
    ∷ (list_any is_hmac_alg policy.run.algs ⇒ SharedSecret)
    ∷ (not (requires_all policy) ⇒ Required)
    ∷ (is_none policy.claims.max_age ⇒ MaxAge)
    ∷ []

-- why a document is no policy for proofs
abbrev pub IsProofPolicyFault : List ℕ → ProofPolicyFault → Type 0
IsProofPolicyFault document (Document OutOfMemory) = Unit {0}
IsProofPolicyFault document (Document fault) = policy_of document ≡ Err fault
IsProofPolicyFault document (Lacks lack) = (policy : Settings) × (policy_of document ≡ Ok policy) × (first_row (policy_rows policy) ≡ Some lack)
