-- The answers for a document that is refused, for a read that failed and for a file that can't be read: each a list of fields, in JSON or in lines.
use Rattle.std.specs.Prelude.{ℕ, Bool, true, false, List, [], ◌∷◌, ◌++◌, Option, Some, None, codes}
use Rattle.jwt_keys.specs.FaultNames.{keys_fault_name}
use Rattle.jwt_keys.specs.declared.fault.KeysFault.{KeysFault}
use Rattle.jwt_policy.specs.FaultNames.{claim_fault_name, policy_fault_name}
use Rattle.jwt_policy.specs.declared.claim_fault.ClaimFault.{ClaimFault}
use Rattle.jwt_policy.specs.declared.policy_fault.PolicyFault.{PolicyFault}
use Rattle.jwt_policy.specs.declared.policy_fault.PolicyFault.TheVariants as policy
use Rattle.jwt_access.specs.FaultNames.{access_fault_name}
use Rattle.jwt_access.specs.declared.access_fault.AccessFault.{AccessFault}
use Rattle.jwt_access.specs.declared.access_fault.AccessFault.TheVariants as access
use Rattle.jwt_issue.specs.FaultNames.{issue_fault_name}
use Rattle.jwt_issue.specs.declared.fault.IssueFault.{IssueFault}
use Rattle.jwt_issue.specs.declared.fault.IssueFault.TheVariants as issue
use Rattle.jwt_output.specs.Nearest.{nearest_member}
use Rattle.jwt_output.specs.Printed.{Answer}
use Rattle.jwt_output.specs.declared.fields.field.FieldName.TheVariants as name
use Rattle.jwt_output.specs.fields.Fields.{Field, Hint, Text, Words, count, field, printed, word}
use Rattle.jwt_output.specs.fields.Verdicts.{claim_fields, fault_fields}
use Rattle.jwt_settings.specs.declared.printing.Printing.{Printing}
use Rattle.jwt_settings.specs.declared.printing.Printing.TheVariants.{Lines}

-- a document by its word in lines and in JSON, and the name of its fault
abbrev pub document_fields : (line json fault : List ℕ) → List Field
document_fields line json fault = word name.Verdict (codes "refused") ∷ field name.Document (Words line json) ∷ word name.Fault fault ∷ []

-- ---- what faults name

abbrev pub member_fields : List ℕ → List Field
member_fields member = field name.Member (Text member) ∷ []

abbrev pub near_fields : Option (List ℕ) → List Field
near_fields None = []
near_fields (Some member) = field name.Nearest (Hint member) ∷ []

-- the member, and the one that is near to its name
abbrev pub policy_fields : PolicyFault → List Field
policy_fields (policy.Member member) = member_fields member ++ near_fields (nearest_member member)
policy_fields (policy.Range member) = member_fields member
policy_fields _ = []

-- the member, or the claim that it asks for
abbrev pub access_fields : AccessFault → List Field
access_fields (access.Member member) = member_fields member
access_fields (access.Range member) = member_fields member
access_fields (access.Claim member) = member_fields member
access_fields (access.ClaimRange member) = member_fields member
access_fields _ = []

abbrev pub issue_fields : IssueFault → List Field
issue_fields (issue.AlgNotHmac i) = count name.Signature i ∷ []
issue_fields (issue.KeyUnfit i) = count name.Signature i ∷ []
issue_fields (issue.Spent i) = count name.Signature i ∷ []
issue_fields _ = []

-- ---- the answers

abbrev pub printed_read_fault : Printing → Answer
printed_read_fault printing = printed printing (fault_fields (codes "failed") (codes "Read")) 3

-- a refusal by its name
abbrev pub refused_named : Printing → List ℕ → Answer
refused_named printing fault = printed printing (fault_fields (codes "refused") fault) 1

abbrev pub printed_file_fault : Printing → List ℕ → Answer
printed_file_fault printing file = printed printing (fault_fields (codes "failed") (codes "Read") ++ field name.File (Text file) ∷ []) 3

abbrev pub printed_keys_fault : Printing → KeysFault → Answer
printed_keys_fault printing fault = printed printing (document_fields (codes "Keys") (codes "keys") (keys_fault_name fault)) 1

abbrev pub printed_policy_fault : Printing → PolicyFault → Answer
printed_policy_fault printing fault = printed printing (document_fields (codes "Policy") (codes "policy") (policy_fault_name fault) ++ policy_fields fault) 1

abbrev pub printed_access_fault : Printing → AccessFault → Answer
printed_access_fault printing fault = printed printing (document_fields (codes "Access") (codes "access") (access_fault_name fault) ++ access_fields fault) 1

-- of claims, and of what is asked of `issue`, in lines alone

abbrev pub claims_refused : ClaimFault → Answer
claims_refused fault = printed Lines (fault_fields (codes "refused") (claim_fault_name fault) ++ claim_fields fault) 1

abbrev pub issue_refused : IssueFault → Answer
issue_refused fault = printed Lines (fault_fields (codes "refused") (issue_fault_name fault) ++ issue_fields fault) 1

abbrev pub unless_failed : Bool → Answer → Answer
unless_failed true a = printed_read_fault Lines
unless_failed false a = a
