-- No fault of a proof of possession is told as FOW_OK.
use Rattle.std.proofs.Common.{◌≡◌, ◌∙◌, ℕ, ℤ, List, Option, None, sym, subst}
use Rattle.jwt_mac.specs.Verifying.{Meaning}
use Rattle.jwt_policy.specs.Settings.{Settings}
use Rattle.jwt_verify.specs.declared.report.Fault.{Fault}
use Rattle.jwt_verify.specs.declared.report.Fault.TheVariants as fault
use Rattle.jwt_possession.specs.Proofs.{IsProofFault}
use Rattle.jwt_possession.specs.declared.own_key.KeyFault.{KeyFault}
use Rattle.jwt_possession.specs.declared.own_key.KeyFault.TheVariants as key
use Rattle.jwt_possession.specs.declared.possession.Possession.{Possession}
use Rattle.jwt_possession.specs.declared.proof.ProofFault.{ProofFault}
use Rattle.jwt_possession.specs.declared.proof.ProofFault.TheVariants as proof
use Rattle.jwt_possession.specs.declared.request.Request.{Request}
use Rattle.jwt_handles.specs.declared.status.TheConstants.{FOW_OK}
use Rattle.jwt_handles.specs.Faults.{fault_numbers}
use Rattle.jwt_handles.specs.Possessing.{SaysProof, key_numbers, proof_numbers}
use Rattle.jwt_handles.specs.ProvedKept.{proved_meanings}
use Rattle.jwt_handles.proofs.Payloads.{form_refused, claim_refused}

fault_refused : (f : Fault) → (fault_numbers f).verdict ≡ FOW_OK → ⊥
fault_refused (fault.Form f) h = form_refused f h
fault_refused (fault.Claim f) h = claim_refused f h
fault_refused _ h = cc

key_refused : (f : KeyFault) → (key_numbers f).verdict ≡ FOW_OK → ⊥
key_refused key.OutOfMemory h = cc
key_refused _ h = cc

proof_refused : (f : ProofFault) → (proof_numbers f).verdict ≡ FOW_OK → ⊥
proof_refused (proof.NoToken f) h = fault_refused f h
proof_refused (proof.NoKey f) h = key_refused f h
proof_refused (proof.NotAccepted f) h = fault_refused f h
proof_refused proof.OtherKey h = cc
proof_refused (proof.OtherRequest f) h = cc
proof_refused proof.OutOfMemory h = cc

pub says_none : (policy : Settings) (meanings : List Meaning) (now : ℤ) (request : Request) (octets : List ℕ) (f : ProofFault) (status number : ℕ) (kept : Option Possession)
    → meanings ≡ proved_meanings → status ≡ (proof_numbers f).verdict → number ≡ (proof_numbers f).fault → IsProofFault policy meanings now request octets f → kept ≡ None
    → SaysProof policy now request octets status number kept
says_none policy meanings now request octets f status number kept by same told is none =
    ((λ (ok : status ≡ FOW_OK). absurd (proof_refused f (sym same ∙ ok))), (λ bad. (none, (f, subst (λ ms. IsProofFault policy ms now request octets f) by is, sym same, sym told))))
