-- The names of faults.
use Rattle.std.specs.Prelude.{ℕ, List, codes}
use Rattle.jwt_issue.specs.declared.fault.BuildFault.{BuildFault}
use Rattle.jwt_issue.specs.declared.fault.BuildFault.TheVariants as build
use Rattle.jwt_issue.specs.declared.fault.IssueFault.{IssueFault}
use Rattle.jwt_issue.specs.declared.fault.IssueFault.TheVariants as issue

abbrev pub build_fault_name : BuildFault → List ℕ
build_fault_name build.OutOfMemory = codes "OutOfMemory"
build_fault_name build.NameTwice = codes "NameTwice"

abbrev pub issue_fault_name : IssueFault → List ℕ
issue_fault_name issue.OutOfMemory = codes "OutOfMemory"
issue_fault_name issue.NoKey = codes "NoKey"
issue_fault_name issue.TooManySignatures = codes "TooManySignatures"
issue_fault_name (issue.AlgNotHmac _) = codes "AlgNotHmac"
issue_fault_name (issue.KeyUnfit _) = codes "KeyUnfit"
issue_fault_name issue.TooLong = codes "TooLong"
issue_fault_name (issue.Spent _) = codes "Spent"
