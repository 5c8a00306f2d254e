use Rattle.std.proofs.Common.{◌≡◌, ◌<◌, ◌-◌, ◌∷◌, ℕ, List, Some, true}
use Rattle.std.specs.List.{slice_get}
use Rattle.jwt_request.specs.renewal.History.{Event, passed}
use Rattle.jwt_request.specs.renewal.Rules.{IsUnderWay}
use Rattle.jwt_request.specs.renewal.Standing as Renewed
use Rattle.jwt_sources.specs.Steps.{is_due}
use Rattle.jwt_sources.proofs.sources.Sources.first_due.Given as goal

abbrev pub invariant-loop-at : goal.invariant-loop-at
invariant-loop-at g l = (k : ℕ) (source : _) (h : List Event) → k < l.at → slice_get l.self.sources.items k ≡ Some source → is_due source.step ≡ true → Renewed.Stands source.renewal h
    → ¬ IsUnderWay source.renewal.times (passed 0 ∷ passed (l.now - source.renewal.heard) ∷ h)
