-- The lists of fields that the answers of `verify` are.
use Rattle.std.specs.Prelude.{ℕ, List, [], ◌∷◌, ◌++◌, codes, Option, Some, None}
use Rattle.jwt_jws.specs.declared.fault.FormFault.{FormFault}
use Rattle.jwt_jws.specs.declared.fault.FormFault.TheVariants as form
use Rattle.jwt_jws.specs.declared.fault.Place.{Place}
use Rattle.jwt_jws.specs.declared.fault.Place.TheVariants as place
use Rattle.jwt_policy.specs.ClaimKinds.{claim_name}
use Rattle.jwt_policy.specs.declared.claim_fault.ClaimFault.{ClaimFault}
use Rattle.jwt_policy.specs.declared.claim_fault.ClaimFault.TheVariants as claim
use Rattle.jwt_access.specs.FaultNames.{denial_name, denied}
use Rattle.jwt_access.specs.declared.denial.Denial.{Denial}
use Rattle.jwt_access.specs.declared.denial.Denial.TheVariants as lack
use Rattle.jwt_verify.specs.FaultNames.{fault_name}
use Rattle.jwt_verify.specs.declared.report.InputFault.TheVariants.{Read}
use Rattle.jwt_verify.specs.declared.report.Fault.{Fault}
use Rattle.jwt_verify.specs.declared.report.Fault.TheVariants as fault
use Rattle.jwt_verify.specs.declared.report.SigState.{SigState}
use Rattle.jwt_verify.specs.declared.report.Try.{Try}
use Rattle.jwt_verify.specs.declared.report.Verdict.{Verdict}
use Rattle.jwt_verify.specs.declared.report.Verdict.TheVariants.{Accepted, Refused}
use Rattle.jwt_access.specs.declared.moment.Moment.{Moment}
use Rattle.jwt_output.specs.verdicts.Denied.{Demands, lacking}
use Rattle.jwt_output.specs.Printed.{Answer, out_of_memory}
use Rattle.jwt_settings.specs.declared.printing.Printing.{Printing}
use Rattle.jwt_output.specs.declared.fields.field.FieldName.{FieldName}
use Rattle.jwt_output.specs.declared.fields.field.FieldName.TheVariants as name
use Rattle.jwt_output.specs.fields.Fields.{Field, Octets, States, Text, Tries, count, field, printed, word}

-- ---- what a fault names

abbrev pub part_fields : List ℕ → ℕ → List Field
part_fields part i = word name.Part part ∷ count name.Signature i ∷ []

abbrev pub spot_fields : Place → List Field
spot_fields place.Payload = word name.Part (codes "payload") ∷ []
spot_fields (place.Protected i) = part_fields (codes "protected") i
spot_fields (place.Signature i) = part_fields (codes "signature") i

abbrev pub form_fields : FormFault → List Field
form_fields (form.Base64 spot) = spot_fields spot
form_fields (form.Header i) = count name.Signature i ∷ []
form_fields (form.UnprotectedKind i) = count name.Signature i ∷ []
form_fields (form.NamesOverlap i) = count name.Signature i ∷ []
form_fields _ = []

abbrev pub claim_fields : ClaimFault → List Field
claim_fields (claim.ClaimKind c) = field name.Claim (Text (claim_name c)) ∷ []
claim_fields (claim.ClaimDate c) = field name.Claim (Text (claim_name c)) ∷ []
claim_fields (claim.ClaimMissing text) = field name.Claim (Text text) ∷ []
claim_fields _ = []

abbrev pub pair_fields : (i j : ℕ) → List Field
pair_fields i j = count name.Signature i ∷ count name.Key j ∷ []

abbrev pub place_fields : Fault → List Field
place_fields (fault.Form f) = form_fields f
place_fields (fault.WorkExceeded i j) = pair_fields i j
place_fields (fault.Signature i f) = count name.Signature i ∷ []
place_fields (fault.Claim f) = claim_fields f
place_fields (fault.CallsExceeded i j) = pair_fields i j
place_fields _ = []

-- ---- a verdict

-- what claims lack: a scope, or a claim
abbrev pub lacked_name : Denial → FieldName
lacked_name (lack.ScopeMissing scope) = name.Scope
lacked_name denial = name.Claim

-- of a token that is accepted and lacks nothing alone, its claims
abbrev pub accepted_fields : Option Denial → (i j : ℕ) → List ℕ → List Field
accepted_fields None i j payload = word name.Verdict (codes "accepted") ∷ count name.Signature i ∷ count name.Key j ∷ field name.Claims (Octets payload) ∷ []
accepted_fields (Some denial) i j payload =
    word name.Verdict (codes "denied") ∷ word name.Denial (denial_name denial) ∷ field (lacked_name denial) (Text (denied denial)) ∷ pair_fields i j

-- a verdict, and the name of a fault
abbrev pub fault_fields : (verdict fault : List ℕ) → List Field
fault_fields verdict fault = word name.Verdict verdict ∷ word name.Fault fault ∷ []

abbrev pub refused_fields : Fault → List Field
refused_fields f = fault_fields (codes "refused") (fault_name f) ++ place_fields f

-- what became of each signature, each try that was paid, and the octets that they cost
abbrev pub evidence : List SigState → List Try → ℕ → List Field
evidence sts es octets = field name.Signatures (States sts) ∷ field name.Tries (Tries es) ∷ count name.Work octets ∷ []

abbrev pub status_of : Option Denial → ℕ
status_of None = 0
status_of (Some denial) = 1

-- ---- the answer: want of memory has no fields

abbrev pub refusal : Printing → Fault → List Field → Answer
refusal printing fault.OutOfMemory ran = out_of_memory
refusal printing fault.VerifierMemory ran = out_of_memory
refusal printing (fault.Text Read) ran = printed printing (fault_fields (codes "failed") (codes "Read")) 3
refusal printing f ran = printed printing (refused_fields f ++ ran) 1

abbrev pub acceptance : Printing → Option Denial → (i j : ℕ) → List ℕ → List Field → Answer
acceptance printing lacks i j payload ran = printed printing (accepted_fields lacks i j payload ++ ran) (status_of lacks)

abbrev pub answer : Printing → Option Denial → Verdict → List ℕ → List Field → Answer
answer printing lacks (Accepted i j claims) payload ran = acceptance printing lacks i j payload ran
answer printing lacks (Refused f) payload ran = refusal printing f ran

-- what the claims of an accepted token lack
abbrev pub lacks_of : Demands → Moment → Verdict → Option Denial
lacks_of demands at (Accepted i j claims) = lacking demands at claims
lacks_of demands at (Refused f) = None
