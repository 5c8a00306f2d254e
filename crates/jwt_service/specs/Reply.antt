-- What is answered to a request, in the terms of `jwt_request`.
use Rattle.std.specs.Prelude.{Option, Some, None}
use Rattle.jwt_access.specs.declared.denial.Denial.{Denial}
use Rattle.jwt_access.specs.declared.denial.Denial.TheVariants as denial
use Rattle.jwt_possession.specs.declared.once.once.Taken.{Taken}
use Rattle.jwt_possession.specs.declared.once.once.Taken.TheVariants.{OwnFull, Full}
use Rattle.jwt_possession.specs.declared.once.once.Taken.TheVariants as taken
use Rattle.jwt_possession.specs.declared.own_key.KeyFault.TheVariants as key_fault
use Rattle.jwt_possession.specs.declared.proof.ProofFault.TheVariants as proof_fault
use Rattle.jwt_possession.specs.declared.request.RequestFault.TheVariants as request_fault
use Rattle.jwt_request.specs.declared.scheme.Scheme.{Scheme}
use Rattle.jwt_request.specs.declared.scheme.Scheme.TheVariants.{Dpop}
use Rattle.jwt_request.specs.declared.replies.Outcome.{Outcome}
use Rattle.jwt_request.specs.declared.replies.Outcome.TheVariants as outcome
use Rattle.jwt_verify.specs.declared.report.Fault.{Fault}
use Rattle.jwt_verify.specs.declared.report.Fault.TheVariants as fault
use Rattle.jwt_service.specs.declared.admission.Admission.{Admission}
use Rattle.jwt_service.specs.declared.admission.Admission.TheVariants as answer
use Rattle.jwt_service.specs.declared.admission.Refusal.{Refusal}
use Rattle.jwt_service.specs.declared.admission.Refusal.TheVariants.{Misasked, Several, Absent, Malformed, Refused, Denied, Unexpected, Unproved, Unshown, Lacking, OutOfMemory}
use Rattle.jwt_service.specs.declared.proving.ProvingFault.{ProvingFault}
use Rattle.jwt_service.specs.declared.proving.ProvingFault.TheVariants.{NotOne, Path, Proof, Nonce}
use Rattle.jwt_service.specs.declared.proving.ProvingFault.TheVariants as proving

-- nothing is said of a token where memory was wanted
abbrev pub fault_outcome : Fault → Outcome
fault_outcome fault.OutOfMemory = outcome.Unanswered
fault_outcome fault.VerifierMemory = outcome.Unanswered
fault_outcome _ = outcome.Refused

abbrev pub denial_outcome : Denial → Outcome
denial_outcome (denial.ScopeMissing scope) = outcome.ScopeMissing
denial_outcome _ = outcome.Denied

-- the same of a proof
abbrev pub proof_outcome : Fault → Outcome
proof_outcome fault.OutOfMemory = outcome.Unanswered
proof_outcome fault.VerifierMemory = outcome.Unanswered
proof_outcome _ = outcome.ProofRefused

abbrev pub proving_outcome : ProvingFault → Outcome
proving_outcome NotOne = outcome.ProofRefused
proving_outcome Nonce = outcome.NonceWanted
proving_outcome Path = outcome.PathForm
proving_outcome proving.OutOfMemory = outcome.Unanswered
proving_outcome (Proof proof_fault.OutOfMemory) = outcome.Unanswered
proving_outcome (Proof (proof_fault.NoKey key_fault.OutOfMemory)) = outcome.Unanswered
proving_outcome (Proof (proof_fault.NoToken it)) = proof_outcome it
proving_outcome (Proof (proof_fault.NotAccepted it)) = proof_outcome it
proving_outcome (Proof proof_fault.OtherKey) = outcome.Refused
proving_outcome (Proof (proof_fault.OtherRequest request_fault.PathForm)) = outcome.PathForm
proving_outcome (Proof _) = outcome.ProofRefused

-- what isn't new is refused; where there is no room for it, for its owner or at all, that is said; and where nobody has answered, nothing is
abbrev pub taken_outcome : Outcome → Option Taken → Outcome
taken_outcome otherwise (Some OwnFull) = outcome.ShareUsedUp
taken_outcome otherwise (Some Full) = outcome.MemoryFull
taken_outcome otherwise (Some taken.OutOfMemory) = outcome.Unanswered
taken_outcome otherwise (Some _) = otherwise
taken_outcome otherwise None = outcome.Unanswered

abbrev pub refusal_outcome : Refusal → Outcome
-- a mistake of the program, of which no client is told more
refusal_outcome (Misasked it) = outcome.Unanswered
refusal_outcome Several = outcome.Several
refusal_outcome Absent = outcome.Absent
refusal_outcome (Malformed scheme) = outcome.Malformed
refusal_outcome (Refused scheme it) = fault_outcome it
refusal_outcome (Denied scheme it) = denial_outcome it
refusal_outcome (Unexpected scheme it) = outcome.Refused
refusal_outcome (Unshown scheme it) = outcome.Refused
refusal_outcome (Unproved it) = proving_outcome it
refusal_outcome (Lacking scheme it) = outcome.Refused
refusal_outcome OutOfMemory = outcome.Unanswered

abbrev pub outcome_of : Admission → Outcome
outcome_of (answer.Admitted claims) = outcome.Accepted
outcome_of (answer.Refused refusal) = refusal_outcome refusal
outcome_of (answer.ProofNotNew taken) = taken_outcome outcome.ProofRefused taken
outcome_of (answer.TokenNotNew scheme taken) = taken_outcome outcome.Refused taken

-- the scheme by which the request showed its token
abbrev pub refusal_scheme : Refusal → Option Scheme
refusal_scheme (Malformed scheme) = Some scheme
refusal_scheme (Refused scheme it) = Some scheme
refusal_scheme (Denied scheme it) = Some scheme
refusal_scheme (Unexpected scheme it) = Some scheme
refusal_scheme (Unshown scheme it) = Some scheme
refusal_scheme (Unproved it) = Some Dpop
refusal_scheme (Lacking scheme it) = Some scheme
refusal_scheme _ = None

abbrev pub shown_by : Admission → Option Scheme
shown_by (answer.Admitted claims) = None
shown_by (answer.Refused refusal) = refusal_scheme refusal
shown_by (answer.ProofNotNew taken) = Some Dpop
shown_by (answer.TokenNotNew scheme taken) = Some scheme
