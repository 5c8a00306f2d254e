-- The octets that are written for the caller, by the status.
use Rattle.std.specs.Prelude.{◌≡◌, ◌≢◌, ◌<◌, ℕ, ℤ, ◌++◌, List, [], ◌∷◌, length, drop, slice_get, Option, Some, None, option_and_then, Result, Ok, Err}
use Rattle.serde_json.specs.Data.{Members}
use Rattle.jwt_text.specs.Base64url.{octets_of}
use Rattle.jwt_text.specs.Members.{compact_at, whole_at}
use Rattle.jwt_jws.specs.Token.{Token}
use Rattle.jwt_policy.specs.Settings.{Settings}
use Rattle.jwt_policy.specs.declared.policy_fault.PolicyFault.{PolicyFault}
use Rattle.jwt_policy.specs.declared.policy_fault.PolicyFault.TheVariants as policy
use Rattle.jwt_verify.specs.declared.report.Fault.{Fault}
use Rattle.jwt_verify.specs.declared.report.SigState.{SigState}
use Rattle.jwt_verify.specs.declared.report.Try.{Try}
use Rattle.jwt_handles.specs.declared.report.FowState.{FowState}
use Rattle.jwt_handles.specs.declared.report.FowTry.{FowTry}
use Rattle.jwt_handles.specs.declared.status.TheConstants.{FOW_OK, FOW_OUT_OF_MEMORY, FOW_TOO_SHORT, FOW_ABSENT}
use Rattle.jwt_handles.specs.Reports.{state_parts, state_numbers, try_of, try_parts}

-- these octets stand at the front, and what stood behind them still does
abbrev pub written_over : List ℕ → List ℕ → List ℕ
written_over octets old = octets ++ drop (length octets) old

-- these octets are written, and the size is their number; or there is too little room for them
abbrev pub Puts : List ℕ → ℕ → ℕ → List ℕ → List ℕ → Type 0
Puts octets status size old out = (status ≡ FOW_OK → (size ≡ length octets) × (out ≡ written_over octets old)) × (status ≢ FOW_OK → (status ≡ FOW_TOO_SHORT) × (length old < length octets))

-- there is nothing to be written, unless memory was refused
abbrev pub IsAbsent : ℕ → Type 0
IsAbsent status = status ≢ FOW_OUT_OF_MEMORY → status ≡ FOW_ABSENT

-- the payload is written, unless memory was refused
abbrev pub PutsPayload : Result Token Fault → ℕ → ℕ → List ℕ → List ℕ → Type 0
PutsPayload (Err fault) status size old out = IsAbsent status
PutsPayload (Ok signed) status size old out = status ≢ FOW_OUT_OF_MEMORY → Puts signed.payload status size old out

-- the octets of the protected header of the signature of this index; none where the octets are no token, or it has no such signature
abbrev pub header_octets_at : Result Token Fault → ℕ → Option (List ℕ)
header_octets_at (Ok signed) index = option_and_then (λ signature. octets_of signature.protected_text) (slice_get signed.signatures index)
header_octets_at (Err fault) index = None

-- the member for which a policy is refused
abbrev pub refused_member : Result Settings PolicyFault → Option (List ℕ)
refused_member (Err (policy.Member name)) = Some name
refused_member (Err (policy.Range name)) = Some name
refused_member _ = None

-- the name is written, where it isn't empty
abbrev pub PutsName : List ℕ → ℕ → ℕ → List ℕ → List ℕ → Type 0
PutsName [] status size old out = status ≡ FOW_ABSENT
PutsName (first ∷ rest) status size old out = Puts (first ∷ rest) status size old out

-- the state, where there is one
abbrev pub IsState : Option SigState → ℕ → FowState → Type 0
IsState None status written = status ≡ FOW_ABSENT
IsState (Some known) status written = (status ≡ FOW_OK) × (state_parts written ≡ state_numbers known)

-- the try, where there is one
abbrev pub IsTry : Option Try → ℕ → FowTry → Type 0
IsTry None status written = status ≡ FOW_ABSENT
IsTry (Some known) status written = (status ≡ FOW_OK) × (try_of written ≡ try_parts known)

-- the compact JSON text of a claim, a text or a list of texts, of the claims that are kept
abbrev pub claim_text_at : Option Members → List ℕ → Option (List ℕ)
claim_text_at None name = None
claim_text_at (Some claims) name = compact_at name claims

-- a whole number of 64 signed bits, of the claims that are kept
abbrev pub number_at : Option Members → List ℕ → Option ℤ
number_at None name = None
number_at (Some claims) name = whole_at name claims

-- it is written, where it is there, unless memory was refused
abbrev pub PutsSome : Option (List ℕ) → ℕ → ℕ → List ℕ → List ℕ → Type 0
PutsSome None status size old out = IsAbsent status
PutsSome (Some octets) status size old out = status ≢ FOW_OUT_OF_MEMORY → Puts octets status size old out

-- it is written, where it is there; it takes no memory
abbrev pub PutsHeld : Option (List ℕ) → ℕ → ℕ → List ℕ → List ℕ → Type 0
PutsHeld None status size old out = status ≡ FOW_ABSENT
PutsHeld (Some octets) status size old out = Puts octets status size old out

abbrev pub PutsNumber : Option ℤ → ℕ → ℤ → Type 0
PutsNumber None status written = status ≡ FOW_ABSENT
PutsNumber (Some number) status written = (status ≡ FOW_OK) × (written ≡ number)
