-- The names of faults and of denials.
use Rattle.std.specs.Prelude.{ℕ, List, codes}
use Rattle.jwt_access.specs.declared.access_fault.AccessFault.{AccessFault}
use Rattle.jwt_access.specs.declared.access_fault.AccessFault.TheVariants as fault
use Rattle.jwt_access.specs.declared.denial.Denial.{Denial}
use Rattle.jwt_access.specs.declared.denial.Denial.TheVariants.{ScopeMissing, ClaimMissing, ClaimNotAllowed, ClaimPresent, ClaimHasOther, ClaimNotObject, ClaimNotDate, ClaimLater, ClaimTooOld, ClaimNotAscii}

abbrev pub access_fault_name : AccessFault → List ℕ
access_fault_name fault.OutOfMemory = codes "OutOfMemory"
access_fault_name fault.TooLong = codes "TooLong"
access_fault_name fault.Json = codes "Json"
access_fault_name fault.NameTwice = codes "NameTwice"
access_fault_name (fault.Member _) = codes "Member"
access_fault_name (fault.Range _) = codes "Range"
access_fault_name (fault.Claim _) = codes "Claim"
access_fault_name (fault.ClaimRange _) = codes "ClaimRange"

abbrev pub denial_name : Denial → List ℕ
denial_name (ScopeMissing _) = codes "ScopeMissing"
denial_name (ClaimMissing _) = codes "ClaimMissing"
denial_name (ClaimNotAllowed _) = codes "ClaimNotAllowed"
denial_name (ClaimPresent _) = codes "ClaimPresent"
denial_name (ClaimHasOther _) = codes "ClaimHasOther"
denial_name (ClaimNotObject _) = codes "ClaimNotObject"
denial_name (ClaimNotDate _) = codes "ClaimNotDate"
denial_name (ClaimLater _) = codes "ClaimLater"
denial_name (ClaimTooOld _) = codes "ClaimTooOld"
denial_name (ClaimNotAscii _) = codes "ClaimNotAscii"

-- the scope or the claim that a denial speaks of
abbrev pub denied : Denial → List ℕ
denied (ScopeMissing scope) = scope
denied (ClaimMissing name) = name
denied (ClaimNotAllowed name) = name
denied (ClaimPresent name) = name
denied (ClaimHasOther name) = name
denied (ClaimNotObject name) = name
denied (ClaimNotDate name) = name
denied (ClaimLater name) = name
denied (ClaimTooOld name) = name
denied (ClaimNotAscii name) = name
