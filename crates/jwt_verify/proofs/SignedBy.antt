-- The signing that the states of a run come to, one state at a time.
use Rattle.std.specs.Prelude.{ℕ, List, length, slice_get, Option, Some, None, option_and_then, Bool, if◌then◌else◌}
use Rattle.std.specs.Option.{option_map_or}
use Rattle.jwt_policy.specs.declared.mode.Mode.{Mode}
use Rattle.jwt_policy.specs.declared.sig_fault.SigFault.{SigFault}
use Rattle.jwt_verify.specs.declared.report.SigState.{SigState}
use Rattle.jwt_verify.specs.declared.report.SigState.TheVariants.{Barred, NoKey, BadSignature, Verified}
use Rattle.jwt_verify.specs.Table.{below}
use Rattle.jwt_verify.specs.Verdict.{Signing, fault_of, first_in, signing_in}

-- the key that verifies a signature in this state
abbrev pub verifying_key : SigState → Option ℕ
verifying_key (Verified key) = Some key
verifying_key _ = None

abbrev pub verifying_key_in : List SigState → ℕ → Option ℕ
verifying_key_in states signature = option_and_then verifying_key (slice_get states signature)

abbrev pub fault_in : List SigState → ℕ → Option SigFault
fault_in states signature = option_and_then fault_of (slice_get states signature)

-- what the signatures in these states come to
abbrev pub signing_by : Mode → List SigState → Signing
signing_by mode states = signing_in mode (first_in (verifying_key_in states) (below (length states))) (first_in (fault_in states) (below (length states)))

-- what becomes of a signature, by its bar, whether a key is eligible, and the key that verifies it
abbrev pub state_of : Option SigFault → Bool → Option ℕ → SigState
state_of bar seen found = option_map_or Barred bar (option_map_or Verified found (if seen then BadSignature else NoKey))
