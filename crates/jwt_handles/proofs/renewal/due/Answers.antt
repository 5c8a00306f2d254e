use Rattle.std.proofs.Common.{◌↔◌, ◌≤◌, ◌∷◌, ℕ, List, subst}
use Rattle.jwt_request.specs.renewal.History.{Event, passed}
use Rattle.jwt_request.specs.renewal.Rules.{Wants, MayBegin}
use Rattle.jwt_request.specs.renewal.Standing.{Stands}
use Rattle.jwt_request.specs.declared.renewal.renewal.Renewal.{Renewal}
use Rattle.jwt_request.specs.declared.renewal.asker.Asker.TheVariants.{Token}
use Rattle.jwt_handles.proofs.renewal.due.Goals as goal

pub returns : goal.returns
returns c = record {
  due = subst
      (λ (it : Renewal). (h : List Event) (more : ℕ) → Stands it h
      → (c.due.result ≤ more) ↔ (Wants it.times Token (passed more ∷ h) × MayBegin it.times Token (passed more ∷ h)))
      c.renewal.ensures c.due.ensures;
}
