-- A payload is kept exactly of an acceptance.
use Rattle.std.proofs.Common.{◌≡◌, ◌≢◌, ◌∙◌, ℕ, List, Option, Some, None, refl, sym, subst}
use Rattle.jwt_jws.specs.declared.fault.FormFault.{FormFault}
use Rattle.jwt_jws.specs.declared.fault.FormFault.TheVariants as form
use Rattle.jwt_policy.specs.Settings.{Settings}
use Rattle.jwt_policy.specs.declared.claim_fault.ClaimFault.{ClaimFault}
use Rattle.jwt_policy.specs.declared.claim_fault.ClaimFault.TheVariants as claim
use Rattle.jwt_verify.specs.declared.report.Fault.TheVariants as fault
use Rattle.jwt_verify.specs.declared.report.Verdict.{Verdict}
use Rattle.jwt_verify.specs.declared.report.Verdict.TheVariants.{Accepted, Refused}
use Rattle.jwt_memory.specs.Payloads.{HandsOut, IsAcceptance}
use Rattle.jwt_handles.specs.declared.status.TheConstants.{FOW_OK}
use Rattle.jwt_handles.specs.Faults.{form_numbers, claim_numbers, verdict_numbers}
use Rattle.jwt_handles.specs.Payloads.{KeepsPayload}

pub form_refused : (f : FormFault) → (form_numbers f).verdict ≡ FOW_OK → ⊥
form_refused form.OutOfMemory h = cc
form_refused _ h = cc

pub claim_refused : (f : ClaimFault) → (claim_numbers f).verdict ≡ FOW_OK → ⊥
claim_refused claim.OutOfMemory h = cc
claim_refused _ h = cc

accepts : (v : Verdict) → (verdict_numbers v).verdict ≡ FOW_OK → IsAcceptance v
accepts (Accepted i j claims) h = tt
accepts (Refused (fault.Form f)) h = absurd (form_refused f h)
accepts (Refused (fault.Claim f)) h = absurd (claim_refused f h)
accepts (Refused _) h = cc

is_ok : (v : Verdict) → IsAcceptance v → (verdict_numbers v).verdict ≡ FOW_OK
is_ok (Accepted i j claims) a = refl
is_ok (Refused f) a = absurd a

pub keeps_payload : (p : Settings) (x : List ℕ) (v : Verdict) (n : ℕ) (kept handed : Option (List ℕ)) → n ≡ (verdict_numbers v).verdict → kept ≡ handed → HandsOut p x v handed
    → (IsAcceptance v → handed ≢ None) → KeepsPayload p x n kept
keeps_payload p x v n kept handed said same hands whole = subst (KeepsPayload p x n) (sym same) (by handed hands whole)
  where
    by : (o : Option (List ℕ)) → HandsOut p x v o → (IsAcceptance v → o ≢ None) → KeepsPayload p x n o
    by None hands whole = λ ok. whole (accepts v (sym said ∙ ok)) refl
    by (Some payload) hands whole = (said ∙ is_ok v hands.0, hands.1)

pub keeps_nothing : (p : Settings) (x : List ℕ) (n : ℕ) (kept : Option (List ℕ)) → kept ≡ None → n ≢ FOW_OK → KeepsPayload p x n kept
keeps_nothing p x n kept none never = subst (KeepsPayload p x n) (sym none) never
