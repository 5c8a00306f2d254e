-- The numbers of faults, of their places, and of verdicts: what the header's enums have.
use Rattle.std.specs.Prelude.{ℕ, List, []}
use Rattle.jwt_jws.specs.declared.fault.FormFault.{FormFault}
use Rattle.jwt_jws.specs.declared.fault.FormFault.TheVariants as form
use Rattle.jwt_jws.specs.declared.fault.Place.{Place}
use Rattle.jwt_jws.specs.declared.fault.Place.TheVariants as place
use Rattle.jwt_keys.specs.declared.fault.KeysFault.{KeysFault}
use Rattle.jwt_keys.specs.declared.fault.KeysFault.TheVariants as keys
use Rattle.jwt_policy.specs.declared.policy_fault.PolicyFault.{PolicyFault}
use Rattle.jwt_policy.specs.declared.policy_fault.PolicyFault.TheVariants as policy
use Rattle.jwt_policy.specs.declared.sig_fault.SigFault.{SigFault}
use Rattle.jwt_policy.specs.declared.sig_fault.SigFault.TheVariants as sig
use Rattle.jwt_policy.specs.declared.claim_fault.Claim.{Claim}
use Rattle.jwt_policy.specs.declared.claim_fault.Claim.TheVariants as which
use Rattle.jwt_policy.specs.declared.claim_fault.ClaimFault.{ClaimFault}
use Rattle.jwt_policy.specs.declared.claim_fault.ClaimFault.TheVariants as claim
use Rattle.jwt_issue.specs.declared.fault.IssueFault.{IssueFault}
use Rattle.jwt_issue.specs.declared.fault.IssueFault.TheVariants as issue
use Rattle.jwt_verify.specs.declared.report.InputFault.{InputFault}
use Rattle.jwt_verify.specs.declared.report.InputFault.TheVariants as input
use Rattle.jwt_verify.specs.declared.report.Fault.{Fault}
use Rattle.jwt_verify.specs.declared.report.Fault.TheVariants as fault
use Rattle.jwt_verify.specs.declared.report.Verdict.{Verdict}
use Rattle.jwt_verify.specs.declared.report.Verdict.TheVariants.{Accepted, Refused}
use Rattle.jwt_handles.specs.declared.status.TheConstants.{FOW_OK, FOW_OUT_OF_MEMORY, FOW_REFUSED}

-- ---- each fault has a number of its own; want of memory is a status and no fault

abbrev pub policy_number : PolicyFault → ℕ
policy_number policy.OutOfMemory = 0
policy_number policy.Json = 101
policy_number policy.NameTwice = 102
policy_number (policy.Member _) = 103
policy_number (policy.Range _) = 104
policy_number policy.NoAlgorithm = 105
policy_number policy.TooLong = 106

abbrev pub keys_number : KeysFault → ℕ
keys_number keys.OutOfMemory = 0
keys_number keys.Json = 201
keys_number keys.NotKeySet = 202
keys_number keys.NameTwice = 203
keys_number keys.TooManyKeys = 204
keys_number keys.TooLong = 205

abbrev pub input_number : InputFault → ℕ
input_number input.Read = 301
input_number input.TooLong = 302

abbrev pub form_number : FormFault → ℕ
form_number form.OutOfMemory = 0
form_number form.Empty = 401
form_number form.Encrypted = 402
form_number form.Segments = 403
form_number form.Json = 404
form_number form.NameTwice = 405
form_number form.Members = 406
form_number form.TooManySignatures = 407
form_number (form.Base64 _) = 408
form_number (form.Header _) = 409
form_number (form.UnprotectedKind _) = 410
form_number (form.NamesOverlap _) = 411

abbrev pub sig_number : SigFault → ℕ
sig_number sig.AlgMissing = 601
sig_number sig.AlgNone = 602
sig_number sig.AlgUnknown = 603
sig_number sig.AlgNotAllowed = 604
sig_number sig.NoVerifier = 605
sig_number sig.KeyUrl = 606
sig_number sig.EncHeader = 607
sig_number sig.Unencoded = 608
sig_number sig.CritShape = 609
sig_number sig.CritUnknown = 610
sig_number sig.TypShape = 611
sig_number sig.TypMismatch = 612
sig_number sig.Nested = 613
sig_number sig.KidShape = 614
sig_number sig.KidMissing = 615
sig_number sig.NoKey = 616
sig_number sig.BadSignature = 617

abbrev pub claim_fault_number : ClaimFault → ℕ
claim_fault_number claim.OutOfMemory = 0
claim_fault_number claim.ClaimsShape = 701
claim_fault_number (claim.ClaimKind _) = 702
claim_fault_number (claim.ClaimDate _) = 703
claim_fault_number (claim.ClaimMissing _) = 704
claim_fault_number claim.Issuer = 705
claim_fault_number claim.Audience = 706
claim_fault_number claim.Expired = 707
claim_fault_number claim.NotYet = 708
claim_fault_number claim.IssuedLater = 709
claim_fault_number claim.TooOld = 710

abbrev pub issue_number : IssueFault → ℕ
issue_number issue.OutOfMemory = 0
issue_number issue.NoKey = 801
issue_number issue.TooManySignatures = 802
issue_number (issue.AlgNotHmac _) = 803
issue_number (issue.KeyUnfit _) = 804
issue_number issue.TooLong = 805
issue_number (issue.Spent _) = 806

-- ---- what a fault speaks of

abbrev pub part_number : Place → ℕ
part_number place.Payload = 1
part_number (place.Protected _) = 2
part_number (place.Signature _) = 3

abbrev pub place_signature : Place → ℕ
place_signature place.Payload = 0
place_signature (place.Protected signature) = signature
place_signature (place.Signature signature) = signature

abbrev pub form_part : FormFault → ℕ
form_part (form.Base64 position) = part_number position
form_part _ = 0

abbrev pub form_signature : FormFault → ℕ
form_signature (form.Base64 position) = place_signature position
form_signature (form.Header signature) = signature
form_signature (form.UnprotectedKind signature) = signature
form_signature (form.NamesOverlap signature) = signature
form_signature _ = 0

abbrev pub issue_signature : IssueFault → ℕ
issue_signature (issue.AlgNotHmac signature) = signature
issue_signature (issue.KeyUnfit signature) = signature
issue_signature (issue.Spent signature) = signature
issue_signature _ = 0

abbrev pub claim_number : Claim → ℕ
claim_number which.Iss = 1
claim_number which.Sub = 2
claim_number which.Aud = 3
claim_number which.Exp = 4
claim_number which.Nbf = 5
claim_number which.Iat = 6
claim_number which.Jti = 7

abbrev pub claim_of : ClaimFault → ℕ
claim_of (claim.ClaimKind named) = claim_number named
claim_of (claim.ClaimDate named) = claim_number named
claim_of (claim.ClaimMissing _) = 8
claim_of _ = 0

-- the name of the claim that is missing, and none of any other fault
abbrev pub missing_name : ClaimFault → List ℕ
missing_name (claim.ClaimMissing name) = name
missing_name _ = []

-- ---- a verdict

-- The numbers of a report: the verdict, which is a status, the fault, the part of the token, a signature, a key, a claim.
pub record Numbers : Type 0 where
  pub verdict : ℕ
  pub fault : ℕ
  pub part : ℕ
  pub signature : ℕ
  pub key : ℕ
  pub claim : ℕ

-- a verdict that speaks of nothing more
abbrev pub bare : ℕ → Numbers
bare verdict = record { verdict = verdict; fault = 0; part = 0; signature = 0; key = 0; claim = 0 }

-- a refusal
abbrev pub refusal : ℕ → ℕ → ℕ → ℕ → ℕ → Numbers
refusal fault part signature key claim = record { verdict = FOW_REFUSED; fault = fault; part = part; signature = signature; key = key; claim = claim }

-- an acceptance
abbrev pub accepted : ℕ → ℕ → Numbers
accepted signature key = record { verdict = FOW_OK; fault = 0; part = 0; signature = signature; key = key; claim = 0 }

abbrev pub form_numbers : FormFault → Numbers
form_numbers form.OutOfMemory = bare FOW_OUT_OF_MEMORY
form_numbers why = refusal (form_number why) (form_part why) (form_signature why) 0 0

abbrev pub claim_numbers : ClaimFault → Numbers
claim_numbers claim.OutOfMemory = bare FOW_OUT_OF_MEMORY
claim_numbers why = refusal (claim_fault_number why) 0 0 0 (claim_of why)

abbrev pub issue_numbers : IssueFault → Numbers
issue_numbers issue.OutOfMemory = bare FOW_OUT_OF_MEMORY
issue_numbers why = refusal (issue_number why) 0 (issue_signature why) 0 0

abbrev pub fault_numbers : Fault → Numbers
fault_numbers fault.OutOfMemory = bare FOW_OUT_OF_MEMORY
fault_numbers (fault.Text why) = refusal (input_number why) 0 0 0 0
fault_numbers (fault.Form why) = form_numbers why
fault_numbers (fault.WorkExceeded signature key) = refusal 501 0 signature key 0
fault_numbers (fault.CallsExceeded signature key) = refusal 502 0 signature key 0
fault_numbers (fault.Signature signature why) = refusal (sig_number why) 0 signature 0 0
fault_numbers (fault.Claim why) = claim_numbers why
fault_numbers fault.VerifierMemory = bare FOW_OUT_OF_MEMORY

abbrev pub verdict_numbers : Verdict → Numbers
verdict_numbers (Accepted signature key claims) = accepted signature key
verdict_numbers (Refused why) = fault_numbers why

-- the name of the claim that the verdict finds missing, and none of any other
abbrev pub missing_in : Verdict → List ℕ
missing_in (Refused (fault.Claim why)) = missing_name why
missing_in _ = []
