use Rattle.std.proofs.Common.{◌≤◌, ℕ, Option, None, Some, IfSome}
use Rattle.jwt_settings.specs.Moments.{last_moment}
use Rattle.jwt_settings.specs.declared.moment.Moment.{Moment}
use Rattle.jwt_command.proofs.clock.moment.Goals as goal

-- a moment has its range by its type
in_range : (says : ℕ → Type 0) (m : Option Moment) → IfSome m (λ k. says k.seconds) → IfSome m (λ k. says k.seconds × (k.seconds ≤ last_moment))
in_range says None h = tt
in_range says (Some k) h = (h, k.in_range)

pub returns-in-None-clause-moment : goal.returns-in-None-clause-moment
returns-in-None-clause-moment g c = rw c.in-None.is (in_range (λ n. g.C.Clock.says c.args.number c.args.line.now n) c.moment.result c.moment.ensures)
