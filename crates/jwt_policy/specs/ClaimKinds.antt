-- The kinds of the registered claims (RFC 7519, section 4.1), and the claims of a payload.
use Rattle.std.specs.Prelude.{ℕ, List, [], ◌∷◌, codes, Bool, not, ◌&&◌, is_none, option_and_then, Option, Result, Ok}
use Rattle.serde_json.specs.Data.{Members}
use Rattle.serde_json.specs.Find.{get_member, as_number}
use Rattle.jwt_text.specs.Answers.{or_fault, ◌>>=◌, unless}
use Rattle.jwt_text.specs.Members.{has, list_at, whole_at, are_texts, is_no_text}
use Rattle.jwt_text.specs.ObjectText.{object_of}
use Rattle.jwt_text.specs.Rows.{Row, ◌⇒◌, first_row}
use Rattle.jwt_policy.specs.Texts.{some_passes}
use Rattle.jwt_policy.specs.declared.claim_fault.Claim.{Claim}
use Rattle.jwt_policy.specs.declared.claim_fault.Claim.TheVariants.{Iss, Sub, Aud, Exp, Nbf, Iat, Jti}
use Rattle.jwt_policy.specs.declared.claim_fault.ClaimFault.{ClaimFault}
use Rattle.jwt_policy.specs.declared.claim_fault.ClaimFault.TheVariants.{ClaimsShape, ClaimKind, ClaimDate}

-- the names (RFC 7519, sections 4.1.1 to 4.1.7)
abbrev pub claim_name : Claim → List ℕ
claim_name Iss = codes "iss"
claim_name Sub = codes "sub"
claim_name Aud = codes "aud"
claim_name Exp = codes "exp"
claim_name Nbf = codes "nbf"
claim_name Iat = codes "iat"
claim_name Jti = codes "jti"

-- a date is there, and is no number
abbrev pub is_no_number : List ℕ → Members → Bool
is_no_number name ms = has name ms && is_none (option_and_then as_number (get_member name ms))

-- a date is there, and is no whole number within 64 signed bits
abbrev pub is_no_date : List ℕ → Members → Bool
is_no_date name ms = has name ms && is_none (whole_at name ms)

-- `aud` is there, and neither a text nor a list of texts (RFC 7519, section 4.1.3)
abbrev pub is_no_audience : Members → Bool
is_no_audience ms = is_no_text (codes "aud") ms && not (some_passes are_texts (list_at (codes "aud") ms))

-- ---- the table, claim by claim

abbrev pub kind_rows : Members → List (Row ClaimFault)
kind_rows ms =
    (is_no_text (codes "iss") ms ⇒ ClaimKind Iss)
    ∷ (is_no_text (codes "sub") ms ⇒ ClaimKind Sub)
    ∷ (is_no_audience ms ⇒ ClaimKind Aud)
    ∷ (is_no_number (codes "exp") ms ⇒ ClaimKind Exp)
    ∷ (is_no_date (codes "exp") ms ⇒ ClaimDate Exp)
    ∷ (is_no_number (codes "nbf") ms ⇒ ClaimKind Nbf)
    ∷ (is_no_date (codes "nbf") ms ⇒ ClaimDate Nbf)
    ∷ (is_no_number (codes "iat") ms ⇒ ClaimKind Iat)
    ∷ (is_no_date (codes "iat") ms ⇒ ClaimDate Iat)
    ∷ (is_no_text (codes "jti") ms ⇒ ClaimKind Jti)
    ∷ []

-- the first claim of another kind, if any
unfoldable pub kind_fault : Members → Option ClaimFault
kind_fault ms = first_row (kind_rows ms)

-- the claims of a payload: its object, whose registered claims have their kinds; or the first cause to refuse it
unfoldable pub claims_of : List ℕ → Result Members ClaimFault
claims_of payload = or_fault ClaimsShape (object_of payload) >>= λ ms. unless (kind_fault ms) (Ok ms)
