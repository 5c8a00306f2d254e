-- The numbers of verdicts.
use Rattle.std.proofs.Common.{◌≡◌, ◌≤◌, lit≤, refl, None}
use Rattle.jwt_jws.specs.declared.fault.FormFault.{FormFault}
use Rattle.jwt_jws.specs.declared.fault.FormFault.TheVariants as form
use Rattle.jwt_policy.specs.declared.claim_fault.ClaimFault.{ClaimFault}
use Rattle.jwt_policy.specs.declared.claim_fault.ClaimFault.TheVariants as claim
use Rattle.jwt_verify.specs.declared.report.Fault.TheVariants as fault
use Rattle.jwt_verify.specs.declared.report.Verdict.{Verdict}
use Rattle.jwt_verify.specs.declared.report.Verdict.TheVariants.{Accepted, Refused}
use Rattle.jwt_handles.specs.declared.status.TheConstants.{FOW_OK, FOW_OUT_OF_MEMORY}
use Rattle.jwt_handles.specs.Faults.{form_numbers, claim_numbers, verdict_numbers}
use Rattle.jwt_handles.specs.Reports.{claims_in}

-- ---- no verdict is 2

form_used : (f : FormFault) → (form_numbers f).verdict ≡ 2 → ⊥
form_used form.OutOfMemory h = cc
form_used _ h = cc

claim_used : (f : ClaimFault) → (claim_numbers f).verdict ≡ 2 → ⊥
claim_used claim.OutOfMemory h = cc
claim_used _ h = cc

pub never_two : (v : Verdict) → (verdict_numbers v).verdict ≡ 2 → ⊥
never_two (Accepted i j claims) h = cc
never_two (Refused (fault.Form f)) h = form_used f h
never_two (Refused (fault.Claim f)) h = claim_used f h
never_two (Refused _) h = cc

-- ---- a verdict is one of three

form_small : (f : FormFault) → (form_numbers f).verdict ≤ FOW_OUT_OF_MEMORY
form_small form.OutOfMemory = lit≤ tt
form_small _ = lit≤ tt

claim_small : (f : ClaimFault) → (claim_numbers f).verdict ≤ FOW_OUT_OF_MEMORY
claim_small claim.OutOfMemory = lit≤ tt
claim_small _ = lit≤ tt

pub is_small : (v : Verdict) → (verdict_numbers v).verdict ≤ FOW_OUT_OF_MEMORY
is_small (Accepted i j claims) = lit≤ tt
is_small (Refused (fault.Form f)) = form_small f
is_small (Refused (fault.Claim f)) = claim_small f
is_small (Refused _) = lit≤ tt

-- ---- no refusal has claims

pub no_claims : (v : Verdict) → ((verdict_numbers v).verdict ≡ FOW_OK → ⊥) → claims_in v ≡ None
no_claims (Accepted i j claims) h = absurd (h refl)
no_claims (Refused f) h = refl
