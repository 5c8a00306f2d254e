-- The names of faults.
use Rattle.std.specs.Prelude.{ℕ, List, codes}
use Rattle.jwt_policy.specs.declared.policy_fault.PolicyFault.{PolicyFault}
use Rattle.jwt_policy.specs.declared.policy_fault.PolicyFault.TheVariants as policy
use Rattle.jwt_policy.specs.declared.sig_fault.SigFault.{SigFault}
use Rattle.jwt_policy.specs.declared.sig_fault.SigFault.TheVariants as sig
use Rattle.jwt_policy.specs.declared.claim_fault.ClaimFault.{ClaimFault}
use Rattle.jwt_policy.specs.declared.claim_fault.ClaimFault.TheVariants as claim

abbrev pub policy_fault_name : PolicyFault → List ℕ
policy_fault_name policy.OutOfMemory = codes "OutOfMemory"
policy_fault_name policy.Json = codes "Json"
policy_fault_name policy.NameTwice = codes "NameTwice"
policy_fault_name (policy.Member _) = codes "Member"
policy_fault_name (policy.Range _) = codes "Range"
policy_fault_name policy.NoAlgorithm = codes "NoAlgorithm"
policy_fault_name policy.TooLong = codes "TooLong"

abbrev pub sig_fault_name : SigFault → List ℕ
sig_fault_name sig.AlgMissing = codes "AlgMissing"
sig_fault_name sig.AlgNone = codes "AlgNone"
sig_fault_name sig.AlgUnknown = codes "AlgUnknown"
sig_fault_name sig.AlgNotAllowed = codes "AlgNotAllowed"
sig_fault_name sig.NoVerifier = codes "NoVerifier"
sig_fault_name sig.KeyUrl = codes "KeyUrl"
sig_fault_name sig.EncHeader = codes "EncHeader"
sig_fault_name sig.Unencoded = codes "Unencoded"
sig_fault_name sig.CritShape = codes "CritShape"
sig_fault_name sig.CritUnknown = codes "CritUnknown"
sig_fault_name sig.TypShape = codes "TypShape"
sig_fault_name sig.TypMismatch = codes "TypMismatch"
sig_fault_name sig.Nested = codes "Nested"
sig_fault_name sig.KidShape = codes "KidShape"
sig_fault_name sig.KidMissing = codes "KidMissing"
sig_fault_name sig.NoKey = codes "NoKey"
sig_fault_name sig.BadSignature = codes "BadSignature"

abbrev pub claim_fault_name : ClaimFault → List ℕ
claim_fault_name claim.OutOfMemory = codes "OutOfMemory"
claim_fault_name claim.ClaimsShape = codes "ClaimsShape"
claim_fault_name (claim.ClaimKind _) = codes "ClaimKind"
claim_fault_name (claim.ClaimDate _) = codes "ClaimDate"
claim_fault_name (claim.ClaimMissing _) = codes "ClaimMissing"
claim_fault_name claim.Issuer = codes "Issuer"
claim_fault_name claim.Audience = codes "Audience"
claim_fault_name claim.Expired = codes "Expired"
claim_fault_name claim.NotYet = codes "NotYet"
claim_fault_name claim.IssuedLater = codes "IssuedLater"
claim_fault_name claim.TooOld = codes "TooOld"
