-- What one call knows of the claims of the last acceptance.
use Rattle.std.specs.Prelude.{◌≡◌, ◌≢◌, ◌⊎◌, ℕ, List, Option, Some, None, if◌then◌else◌, option_and_then, slice_get, Result, Ok, Err}
use Rattle.std.specs.Str.{bytes_eq}
use Rattle.serde_json.specs.Data.{Data, string, Members}
use Rattle.jwt_mac.specs.declared.algorithm.Alg.{Alg}
use Rattle.jwt_jws.specs.Token.{Token}
use Rattle.jwt_policy.specs.Bars.{alg}
use Rattle.jwt_access.specs.Granted.{IsClaim}
use Rattle.jwt_verify.specs.declared.report.Fault.{Fault}
use Rattle.jwt_verify.specs.declared.report.SigState.{SigState}
use Rattle.jwt_verify.specs.declared.report.SigState.TheVariants.{Verified}
use Rattle.jwt_access.specs.expected.Expected.{half_hash}
use Rattle.jwt_handles.specs.declared.state.Last.{Last}
use Rattle.jwt_handles.specs.declared.status.TheConstants.{FOW_OK, FOW_ABSENT, FOW_NOT_EXPECTED}
use Rattle.jwt_handles.specs.Evidence.{states_kept, claims_kept, payload_kept}

-- ---- a claim that has to be a text

-- the claim has no value
abbrev pub IsClaimless : Members → List ℕ → Type 0
IsClaimless members claim = (value : Data) → ¬ IsClaim claim members value

-- the claim is there, and isn't that text
abbrev pub IsClaimOther : Members → List ℕ → List ℕ → Type 0
IsClaimOther members claim text = (value : Data) × IsClaim claim members value × (value ≢ string text)

-- FOW_OK where the claim is that very text, else FOW_NOT_EXPECTED: 1 where it is absent, 2 where it is another; FOW_ABSENT where there are no claims
abbrev pub SaysText : Option Members → List ℕ → List ℕ → ℕ → ℕ → Type 0
SaysText None claim text status unmet = status ≡ FOW_ABSENT
SaysText (Some members) claim text status unmet =
    (status ≡ FOW_OK → IsClaim claim members (string text))
    × (status ≢ FOW_OK → (status ≡ FOW_NOT_EXPECTED)
    × (((unmet ≡ 1) × IsClaimless members claim) ⊎ ((unmet ≡ 2) × IsClaimOther members claim text)))

-- ---- a claim that has to be the half of a hash

-- the algorithm of the signature of this number, which verified, of a token with this payload
abbrev pub alg_beside : Token → Option (List ℕ) → Option SigState → ℕ → Option Alg
alg_beside signed (Some payload) (Some (Verified key)) signature =
    if bytes_eq signed.payload payload then option_and_then alg (slice_get signed.signatures signature) else None
alg_beside signed _ _ signature = None

-- the same of the token that was accepted last; none where these octets are another one, or that signature didn't verify
abbrev pub alg_of_last : Result Token Fault → Last → ℕ → Option Alg
alg_of_last (Ok signed) last signature = alg_beside signed (payload_kept last) (slice_get (states_kept last) signature) signature
alg_of_last (Err fault) last signature = None

-- the claim has to be base64url of the left half of these octets' hash, by this algorithm (OpenID Connect Core 1.0, sections 3.1.3.6 and 3.3.2.11);
-- FOW_ABSENT where there is none
abbrev pub SaysHashBy : Option Alg → Option Members → List ℕ → List ℕ → ℕ → ℕ → Type 0
SaysHashBy None claims claim octets status unmet = status ≡ FOW_ABSENT
SaysHashBy (Some named) claims claim octets status unmet = SaysText claims claim (half_hash named octets) status unmet

-- the same by the algorithm of that signature of the token that was accepted last
abbrev pub SaysHalfHash : Result Token Fault → Last → ℕ → List ℕ → List ℕ → ℕ → ℕ → Type 0
SaysHalfHash token last signature claim octets status unmet =
    SaysHashBy (alg_of_last token last signature) (claims_kept last) claim octets status unmet
