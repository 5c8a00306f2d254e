-- What a judging adds to a memory: nothing but its own acceptance.
use Rattle.std.proofs.Common.{◌≡◌, ◌∙◌, ◌⊎◌, ℕ, List, Option, Some, None, inl, inr, ap, sym, subst}
use Rattle.std.specs.Arc.{arc_value}
use Rattle.jwt_verify.specs.declared.report.Report.{Report}
use Rattle.jwt_memory.specs.declared.memory.Memory.{Memory}
use Rattle.jwt_memory.specs.declared.outcome.Handed.{Handed}
use Rattle.jwt_memory.specs.Outcomes.{payload_in, report_in}
use Rattle.jwt_handles.specs.declared.state.Last.{Last}
use Rattle.jwt_handles.specs.declared.report.FowReport.{FowReport}
use Rattle.jwt_handles.specs.Keeping.{AddsHanded, AddsOnly}
use Rattle.jwt_handles.specs.Reports.{Says, claims_in}

module _ (w : ℕ) (x : List ℕ) (said : FowReport) (last : Last) where
  -- the acceptance is what is said
  pub adds_said : (it : Handed) → Says (report_in it.outcome) said last → (b a : Option Memory) → AddsHanded w x it b a → AddsOnly w x said last b a
  adds_said it says None None adds = tt
  adds_said it says None (Some m) adds = tt
  adds_said it says (Some n) None adds = tt
  adds_said it says (Some n) (Some m) adds = λ e h. elim (adds e h) [
    | inl old ↦ inl old
    | inr new ↦ inr (new.0, new.1, subst (λ r. Says r said last) new.2 says)
  ]

  -- what isn't accepted isn't kept, and neither is what hands out no payload
  pub adds_nothing : (it : Handed) → (claims_in (report_in it.outcome).verdict ≡ None) ⊎ (payload_in it ≡ None) → (b a : Option Memory) → AddsHanded w x it b a → AddsOnly w x said last b a
  adds_nothing it never None None adds = tt
  adds_nothing it never None (Some m) adds = tt
  adds_nothing it never (Some n) None adds = tt
  adds_nothing it never (Some n) (Some m) adds = λ e h. elim (adds e h) [
    | inl old ↦ inl old
    | inr new ↦ elim never [
      | inl claims ↦ (let wrong : None ≡ Some (arc_value e.basis).claims = sym claims ∙ ap (λ (r : Report). claims_in r.verdict) new.2 in cc)
      | inr payload ↦ (let wrong : None ≡ Some (arc_value e.basis).payload.items = sym payload ∙ new.3 in cc)
    ]
  ]
