-- The names of faults.
use Rattle.std.specs.Prelude.{ℕ, List, codes}
use Rattle.jwt_jws.specs.FaultNames.{form_fault_name}
use Rattle.jwt_policy.specs.FaultNames.{sig_fault_name, claim_fault_name}
use Rattle.jwt_verify.specs.declared.report.InputFault.{InputFault}
use Rattle.jwt_verify.specs.declared.report.InputFault.TheVariants as input
use Rattle.jwt_verify.specs.declared.report.Fault.{Fault}
use Rattle.jwt_verify.specs.declared.report.Fault.TheVariants as fault

abbrev pub input_fault_name : InputFault → List ℕ
input_fault_name input.Read = codes "Read"
input_fault_name input.TooLong = codes "TooLong"

-- that of the cause, where the fault tells one
abbrev pub fault_name : Fault → List ℕ
fault_name fault.OutOfMemory = codes "OutOfMemory"
fault_name (fault.Text f) = input_fault_name f
fault_name (fault.Form f) = form_fault_name f
fault_name (fault.WorkExceeded _ _) = codes "WorkExceeded"
fault_name (fault.Signature _ f) = sig_fault_name f
fault_name (fault.Claim f) = claim_fault_name f
fault_name fault.VerifierMemory = codes "VerifierMemory"
fault_name (fault.CallsExceeded _ _) = codes "CallsExceeded"
