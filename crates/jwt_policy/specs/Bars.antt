-- The bars of a signature, under a policy and the verifiers that were handed in.
use Rattle.std.specs.Prelude.{◌≡◌, ℕ, List, [], ◌∷◌, Bool, false, not, ◌||◌, ◌&&◌, codes, length, nat_lt, Option, Some, is_some, is_none, option_and_then}
use Rattle.std.specs.List.{list_any}
use Rattle.std.specs.Str.{bytes_eq}
use Rattle.serde_json.specs.Data.{Data}
use Rattle.jwt_mac.specs.declared.algorithm.Alg.{Alg}
use Rattle.jwt_mac.specs.Algorithm.{is_hmac_alg, name_of, alg_named}
use Rattle.jwt_mac.specs.Verifying.{Meaning, first_naming}
use Rattle.jwt_text.specs.Members.{has, text_at, list_at, is_no_text}
use Rattle.jwt_text.specs.Rows.{Row, ◌⇒◌, first_row}
use Rattle.jwt_jws.specs.Token.{SignatureParts, in_unprotected, in_header, alg_text, kid}
use Rattle.jwt_jws.specs.Crit.{crit_repeats}
use Rattle.jwt_policy.specs.Settings.{Settings}
use Rattle.jwt_policy.specs.Texts.{some_passes, is_among, any_text, each_text, same_media_type}
use Rattle.jwt_policy.specs.declared.sig_fault.SigFault.{SigFault}
use Rattle.jwt_policy.specs.declared.sig_fault.SigFault.TheVariants.{AlgMissing, AlgNone, AlgUnknown, AlgNotAllowed, NoVerifier, KeyUrl, EncHeader, Unencoded, CritShape, CritUnknown, TypShape, TypMismatch, Nested, KidShape, KidMissing}

-- ---- the algorithm (RFC 7515, section 4.1.1; RFC 8725, sections 3.1 and 3.2)

-- the algorithm that the protected header names, where it is known
abbrev pub alg : SignatureParts → Option Alg
alg signature = option_and_then alg_named (alg_text signature)

-- signatures by the algorithm can be verified: it is HMAC, or a verifier names it
abbrev pub can_verify : List Meaning → Alg → Bool
can_verify verifiers named = is_hmac_alg named || is_some (first_naming verifiers named)

-- ---- `crit` (RFC 7515, section 4.1.11)

-- the header names of RFC 7515, section 4.1
abbrev pub registered_names : List (List ℕ)
registered_names =
    codes "alg" ∷ codes "jku" ∷ codes "jwk" ∷ codes "kid" ∷ codes "x5u" ∷ codes "x5c" ∷ codes "x5t" ∷ codes "x5t#S256"
    ∷ codes "typ" ∷ codes "cty" ∷ codes "crit" ∷ []

-- the list may be `crit`: it isn't empty, each element is the name of a header of the signature and none of those, and no name
-- stands twice
abbrev pub is_name_list : SignatureParts → List Data → Bool
is_name_list signature elements = nat_lt 0 (length elements) && each_text (λ name. in_header name signature && not (is_among registered_names name)) elements && not (crit_repeats signature.protected)

-- ---- the tests of a signature, one a bar

-- the protected header has no text `alg` (RFC 7515, section 4.1.1)
abbrev pub lacks_alg : SignatureParts → Bool
lacks_alg signature = is_none (alg_text signature)

-- (RFC 8725, section 3.2)
abbrev pub is_alg_none : SignatureParts → Bool
is_alg_none signature = some_passes (λ name. bytes_eq name (codes "none")) (alg_text signature)

-- (RFC 8725, section 3.1)
abbrev pub is_alg_unknown : SignatureParts → Bool
is_alg_unknown signature = is_none (alg signature)

-- the policy doesn't list the algorithm (RFC 8725, section 3.1)
abbrev pub is_alg_not_allowed : Settings → SignatureParts → Bool
is_alg_not_allowed policy signature = not (some_passes (λ named. list_any (λ allowed. bytes_eq (name_of allowed) (name_of named)) policy.run.algs) (alg signature))

abbrev pub lacks_verifier : List Meaning → SignatureParts → Bool
lacks_verifier verifiers signature = not (some_passes (can_verify verifiers) (alg signature))

-- a key by URL (RFC 7515, sections 4.1.2 and 4.1.5; RFC 8725, section 3.10)
abbrev pub has_key_url : SignatureParts → Bool
has_key_url signature = in_header (codes "jku") signature || in_header (codes "x5u") signature

-- encryption (RFC 7516, section 4.1.2)
abbrev pub has_enc : SignatureParts → Bool
has_enc signature = in_header (codes "enc") signature

-- the payload may be no base64url (RFC 7797, section 3)
abbrev pub is_unencoded : SignatureParts → Bool
is_unencoded signature = in_header (codes "b64") signature

-- `crit` stands in the unprotected header, or it is there and no list that it may be (RFC 7515, section 4.1.11)
abbrev pub is_crit_misshapen : SignatureParts → Bool
is_crit_misshapen signature =
    in_unprotected (codes "crit") signature
    || (has (codes "crit") signature.protected && not (some_passes (is_name_list signature) (list_at (codes "crit") signature.protected)))

-- `crit` names a header that the policy doesn't understand (RFC 7515, section 4.1.11)
abbrev pub is_crit_unknown : Settings → SignatureParts → Bool
is_crit_unknown policy signature = some_passes (any_text (λ name. not (is_among policy.header.understood name))) (list_at (codes "crit") signature.protected)

-- `typ` or `cty` is there and no text (RFC 7515, sections 4.1.9 and 4.1.10)
abbrev pub is_typ_misshapen : SignatureParts → Bool
is_typ_misshapen signature = is_no_text (codes "typ") signature.protected || is_no_text (codes "cty") signature.protected

-- the policy has a `typ`, and that of the header is absent or another media type (RFC 8725, section 3.11)
abbrev pub is_typ_mismatched : Settings → SignatureParts → Bool
is_typ_mismatched policy signature = some_passes (λ wanted. not (some_passes (same_media_type wanted) (text_at (codes "typ") signature.protected))) policy.header.typ

-- the payload is a token again (RFC 7519, sections 5.1 and 5.2)
abbrev pub is_nested : SignatureParts → Bool
is_nested signature = some_passes (same_media_type (codes "application/jwt")) (text_at (codes "cty") signature.protected)

-- `kid` is there and no text (RFC 7515, section 4.1.4)
abbrev pub is_kid_misshapen : SignatureParts → Bool
is_kid_misshapen signature = in_header (codes "kid") signature && is_none (kid signature)

-- the policy wants a `kid`, and there is none
abbrev pub lacks_kid : Settings → SignatureParts → Bool
lacks_kid policy signature = policy.header.need_kid && not (in_header (codes "kid") signature)

-- ---- the table

abbrev pub bar_rows : Settings → SignatureParts → List Meaning → List (Row SigFault)
bar_rows policy signature verifiers =
    (lacks_alg signature ⇒ AlgMissing)
    ∷ (is_alg_none signature ⇒ AlgNone)
    ∷ (is_alg_unknown signature ⇒ AlgUnknown)
    ∷ (is_alg_not_allowed policy signature ⇒ AlgNotAllowed)
    ∷ (lacks_verifier verifiers signature ⇒ NoVerifier)
    ∷ (has_key_url signature ⇒ KeyUrl)
    ∷ (has_enc signature ⇒ EncHeader)
    ∷ (is_unencoded signature ⇒ Unencoded)
    ∷ (is_crit_misshapen signature ⇒ CritShape)
    ∷ (is_crit_unknown policy signature ⇒ CritUnknown)
    ∷ (is_typ_misshapen signature ⇒ TypShape)
    ∷ (is_typ_mismatched policy signature ⇒ TypMismatch)
    ∷ (is_nested signature ⇒ Nested)
    ∷ (is_kid_misshapen signature ⇒ KidShape)
    ∷ (lacks_kid policy signature ⇒ KidMissing)
    ∷ []

-- the bar of a signature: the first row that holds, if any
unfoldable pub bar_of : Settings → SignatureParts → List Meaning → Option SigFault
bar_of policy signature verifiers = first_row (bar_rows policy signature verifiers)

-- ---- Cited by contracts of private functions alone

-- the protected header names this algorithm, and none of the rows on `alg` holds
pub record IsServed (policy : Settings) (signature : SignatureParts) (verifiers : List Meaning) (algorithm : Alg) : Type 0 where
  pub named : alg signature ≡ Some algorithm
  pub there : lacks_alg signature ≡ false
  pub not_none : is_alg_none signature ≡ false
  pub known : is_alg_unknown signature ≡ false
  pub allowed : is_alg_not_allowed policy signature ≡ false
  pub verified : lacks_verifier verifiers signature ≡ false
