-- The outcome of one signature, by the code's own words.
use Rattle.std.specs.Prelude.{ℕ, Bool, true, false, Option, Some, None}
use Rattle.jwt_policy.specs.declared.sig_fault.SigFault.TheVariants as sig_fault
use Rattle.jwt_verify.specs.declared.signature_outcome.SignatureOutcome.{SignatureOutcome}
use Rattle.jwt_verify.specs.declared.signature_outcome.SignatureOutcome.TheVariants.{Verified, Barred, NoKey, BadSignature}
use Rattle.jwt_verify.specs.declared.signature_outcome.Signing.{Signing}
use Rattle.jwt_verify.specs.declared.signature_outcome.Signing.TheVariants.{VerifiedBy, Unverified}
use Rattle.jwt_verify.specs.declared.report.SigState.{SigState}
use Rattle.jwt_verify.specs.declared.report.SigState.TheVariants as state
use Rattle.jwt_verify.specs.Verdict as verdict

abbrev pub is_verified : SignatureOutcome → Bool
is_verified (Verified key) = true
is_verified _ = false

-- the key that verifies it
abbrev pub outcome_key : SignatureOutcome → Option ℕ
outcome_key (Verified key) = Some key
outcome_key _ = None

abbrev pub outcome_state : SignatureOutcome → SigState
outcome_state (Verified key) = state.Verified key
outcome_state (Barred fault) = state.Barred fault
outcome_state NoKey = state.NoKey
outcome_state BadSignature = state.BadSignature

-- what the signatures come to where the one of this number decides
abbrev pub outcome_signing : ℕ → SignatureOutcome → Signing
outcome_signing signature (Verified key) = VerifiedBy signature key
outcome_signing signature (Barred fault) = Unverified signature fault
outcome_signing signature NoKey = Unverified signature sig_fault.NoKey
outcome_signing signature BadSignature = Unverified signature sig_fault.BadSignature

-- the same, as the verdict has it
abbrev pub signing_view : Signing → verdict.Signing
signing_view (VerifiedBy signature key) = verdict.VerifiedBy signature key
signing_view (Unverified signature fault) = verdict.Unverified signature fault
