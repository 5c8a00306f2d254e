use Rattle.std.proofs.Common.{length, drop, ◌-◌, ◌≡◌, ◌≤◌}
use Rattle.jwt_request.specs.urls.References.{has_dots_behind}
use Rattle.jwt_request.proofs.urls.references.has_dots_behind.Given as goal

abbrev pub invariant-loop-at : goal.invariant-loop-at
invariant-loop-at l = record { within : l.at ≤ length l.path; rest : has_dots_behind (drop l.at l.path) ≡ has_dots_behind l.path }

abbrev pub decreases-loop-at : goal.decreases-loop-at
decreases-loop-at l = length l.path - l.at
