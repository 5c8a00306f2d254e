-- The verdict on a token.
use Rattle.std.specs.Prelude.{ℕ, ℤ, ◌-◌, ◌==◌, Bool, false, ◌&&◌, if◌then◌else◌, nat_lt, List, [], ◌∷◌, length, take, slice_get, Option, Some, None, Result, Ok, Err}
use Rattle.std.specs.List.{find}
use Rattle.std.specs.Option.{option_map_or}
use Rattle.serde_json.specs.Data.{Members}
use Rattle.jwt_mac.specs.Verifying.{Meaning}
use Rattle.jwt_jws.specs.declared.fault.Form.TheVariants.{Compact}
use Rattle.jwt_jws.specs.declared.fault.FormFault.{FormFault}
use Rattle.jwt_jws.specs.Token.{Token}
use Rattle.jwt_jws.specs.Forms.{form_of}
use Rattle.jwt_keys.specs.Keys.{KeyParts}
use Rattle.jwt_policy.specs.declared.mode.Mode.{Mode}
use Rattle.jwt_policy.specs.declared.mode.Mode.TheVariants.{Any, All}
use Rattle.jwt_policy.specs.declared.sig_fault.SigFault.{SigFault}
use Rattle.jwt_policy.specs.declared.sig_fault.SigFault.TheVariants as sig_fault
use Rattle.jwt_policy.specs.declared.claim_fault.ClaimFault.{ClaimFault}
use Rattle.jwt_policy.specs.Settings.{Settings}
use Rattle.jwt_policy.specs.ClaimKinds.{claims_of}
use Rattle.jwt_policy.specs.Checks.{check_of}
use Rattle.jwt_verify.specs.declared.tries.End.{End}
use Rattle.jwt_verify.specs.declared.tries.End.TheVariants as end
use Rattle.jwt_verify.specs.declared.report.SigState.{SigState}
use Rattle.jwt_verify.specs.declared.report.SigState.TheVariants.{Barred, NoKey, BadSignature}
use Rattle.jwt_verify.specs.declared.report.InputFault.TheVariants.{TooLong}
use Rattle.jwt_verify.specs.declared.report.Fault.{Fault}
use Rattle.jwt_verify.specs.declared.report.Fault.TheVariants.{Text, Form, WorkExceeded, CallsExceeded, VerifierMemory, Signature, Claim}
use Rattle.jwt_verify.specs.declared.report.Verdict.{Verdict}
use Rattle.jwt_verify.specs.declared.report.Verdict.TheVariants.{Accepted, Refused}
use Rattle.jwt_verify.specs.Table.{Table, below, verifies, outcome, ending}
use Rattle.jwt_verify.specs.Trying.{table_of}

-- all that a verdict rests on but the token and the budget's ceiling
pub record Terms : Type 0 where
  pub policy : Settings
  pub keys : List KeyParts
  pub now : ℤ
  pub verifiers : List Meaning

-- ---- the token

-- the octets without one line feed at their end, where that is to be dropped
abbrev pub without_line_feed : Bool → List ℕ → List ℕ
without_line_feed drops octets = if drops && option_map_or (λ octet. octet == 10) (slice_get octets (length octets - 1)) false then take (length octets - 1) octets else octets

abbrev pub formed : Result Token FormFault → Result Token Fault
formed (Ok token) = Ok token
formed (Err fault) = Err (Form fault)

-- the signed token that the octets are (RFC 7515, section 7), or why they are none
unfoldable pub token_of : Settings → List ℕ → Result Token Fault
token_of policy octets = if nat_lt policy.run.limit (length octets) then Err (Text TooLong) else formed (form_of policy.run.max_signatures (without_line_feed policy.run.line_feed octets))

-- a token without signatures, in place of what is none
abbrev pub no_token : Token
no_token = record { form = Compact; payload_text = []; payload = []; signatures = [] }

abbrev pub token_or_none : Result Token Fault → Token
token_or_none (Ok token) = token
token_or_none (Err fault) = no_token

-- the pairs of the token and the keys; none where the octets are no token
unfoldable pub table : Terms → List ℕ → Table
table terms octets = table_of terms.policy terms.verifiers terms.keys (token_or_none (token_of terms.policy octets))

-- ---- the signatures

-- the first of these numbers that has an answer, with it
abbrev pub first_in : {A : Type 0} → (ℕ → Option A) → List ℕ → Option (ℕ × A)
first_in answer [] = None
first_in answer (number ∷ numbers) = option_map_or (λ found. Some (number, found)) (answer number) (first_in answer numbers)

-- why a signature in this state isn't verified
abbrev pub fault_of : SigState → Option SigFault
fault_of (Barred fault) = Some fault
fault_of NoKey = Some sig_fault.NoKey
fault_of BadSignature = Some sig_fault.BadSignature
fault_of _ = None

-- the least eligible and valid key of a signature
abbrev pub key_at : Table → ℕ → Option ℕ
key_at table signature = find (verifies table signature) (below table.keys)

-- why a signature isn't verified: its bar, or no key is eligible, or none of them is valid
abbrev pub fault_at : Table → ℕ → Option SigFault
fault_at table signature = fault_of (outcome table signature)

-- what the signatures come to
pub data Signing : Type 0 where
  VerifiedBy : (signature key : ℕ) → Signing
  Unverified : ℕ → SigFault → Signing

abbrev pub unverified : Option (ℕ × SigFault) → Signing
unverified (Some first) = Unverified first.0 first.1
unverified None = Unverified 0 sig_fault.NoKey

abbrev pub verified_or : Option (ℕ × SigFault) → Option (ℕ × ℕ) → Signing
verified_or unverified_one (Some verified_one) = VerifiedBy verified_one.0 verified_one.1
verified_or unverified_one None = unverified unverified_one

-- by the first verified signature and the first that isn't verified: in mode Any the verified one counts, in mode All the other
abbrev pub signing_in : Mode → Option (ℕ × ℕ) → Option (ℕ × SigFault) → Signing
signing_in Any verified_one unverified_one = verified_or unverified_one verified_one
signing_in All verified_one None = verified_or None verified_one
signing_in All verified_one (Some unverified_one) = Unverified unverified_one.0 unverified_one.1

unfoldable pub signing_of : Table → Signing
signing_of table = signing_in table.mode (first_in (key_at table) (below table.signatures)) (first_in (fault_at table) (below table.signatures))

-- ---- the verdict

abbrev pub checked : (signature key : ℕ) → Members → Option ClaimFault → Verdict
checked signature key claims None = Accepted signature key claims
checked signature key claims (Some fault) = Refused (Claim fault)

abbrev pub claims_verdict : Settings → ℤ → (signature key : ℕ) → Result Members ClaimFault → Verdict
claims_verdict policy now signature key (Ok claims) = checked signature key claims (check_of policy claims now)
claims_verdict policy now signature key (Err fault) = Refused (Claim fault)

-- the claims are looked at once the signatures are verified (RFC 7519, section 7.2)
abbrev pub conclusion : Settings → ℤ → List ℕ → Signing → Verdict
conclusion policy now payload (VerifiedBy signature key) = claims_verdict policy now signature key (claims_of payload)
conclusion policy now payload (Unverified signature fault) = Refused (Signature signature fault)

-- a run that stopped gives a refusal
abbrev pub unless_stopped : End → Verdict → Verdict
unless_stopped (end.WorkExceeded signature key) verdict = Refused (WorkExceeded signature key)
unless_stopped (end.CallsExceeded signature key) verdict = Refused (CallsExceeded signature key)
unless_stopped (end.VerifierMemory signature key) verdict = Refused VerifierMemory
unless_stopped end.Done verdict = verdict

-- the verdict on a signed token under the budget's ceiling
unfoldable pub token_verdict : Terms → ℕ → Token → Verdict
token_verdict terms ceiling token = let asked = table_of terms.policy terms.verifiers terms.keys token in
    unless_stopped (ending asked ceiling terms.policy.max_calls) (conclusion terms.policy terms.now token.payload (signing_of asked))

abbrev pub decided : Terms → ℕ → Result Token Fault → Verdict
decided terms ceiling (Ok token) = token_verdict terms ceiling token
decided terms ceiling (Err fault) = Refused fault

-- the verdict on the octets
unfoldable pub verdict_of : Terms → List ℕ → ℕ → Verdict
verdict_of terms octets ceiling = decided terms ceiling (token_of terms.policy octets)
