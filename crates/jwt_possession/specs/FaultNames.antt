-- The names of faults.
use Rattle.std.specs.Prelude.{ℕ, List, codes}
use Rattle.jwt_verify.specs.FaultNames.{fault_name}
use Rattle.jwt_policy.specs.FaultNames.{policy_fault_name}
use Rattle.jwt_possession.specs.declared.policy.PolicyLack.{PolicyLack}
use Rattle.jwt_possession.specs.declared.policy.PolicyLack.TheVariants as lack
use Rattle.jwt_possession.specs.declared.policy.ProofPolicyFault.{ProofPolicyFault}
use Rattle.jwt_possession.specs.declared.policy.ProofPolicyFault.TheVariants as policy
use Rattle.jwt_possession.specs.declared.own_key.KeyFault.{KeyFault}
use Rattle.jwt_possession.specs.declared.own_key.KeyFault.TheVariants as key
use Rattle.jwt_possession.specs.declared.request.RequestFault.{RequestFault}
use Rattle.jwt_possession.specs.declared.request.RequestFault.TheVariants as request
use Rattle.jwt_possession.specs.declared.proof.ProofFault.{ProofFault}
use Rattle.jwt_possession.specs.declared.proof.ProofFault.TheVariants as proof

abbrev pub lack_name : PolicyLack → List ℕ
lack_name lack.Typ = codes "Typ"
lack_name lack.SharedSecret = codes "SharedSecret"
lack_name lack.Required = codes "Required"
lack_name lack.MaxAge = codes "MaxAge"

-- that of the cause
abbrev pub proof_policy_fault_name : ProofPolicyFault → List ℕ
proof_policy_fault_name (policy.Document fault) = policy_fault_name fault
proof_policy_fault_name (policy.Lacks lack) = lack_name lack

abbrev pub key_fault_name : KeyFault → List ℕ
key_fault_name key.NotCompact = codes "NotCompact"
key_fault_name key.KeyMissing = codes "KeyMissing"
key_fault_name key.KeyPrivate = codes "KeyPrivate"
key_fault_name key.KeyUnreadable = codes "KeyUnreadable"
key_fault_name key.OutOfMemory = codes "OutOfMemory"

abbrev pub request_fault_name : RequestFault → List ℕ
request_fault_name request.OtherMethod = codes "OtherMethod"
request_fault_name request.PathForm = codes "PathForm"
request_fault_name request.OtherUri = codes "OtherUri"
request_fault_name request.OtherNonce = codes "OtherNonce"
request_fault_name request.OtherAccessToken = codes "OtherAccessToken"

-- that of the cause
abbrev pub proof_fault_name : ProofFault → List ℕ
proof_fault_name (proof.NoToken fault) = fault_name fault
proof_fault_name (proof.NoKey fault) = key_fault_name fault
proof_fault_name proof.OtherKey = codes "OtherKey"
proof_fault_name (proof.NotAccepted fault) = fault_name fault
proof_fault_name (proof.OtherRequest fault) = request_fault_name fault
proof_fault_name proof.OutOfMemory = codes "OutOfMemory"
