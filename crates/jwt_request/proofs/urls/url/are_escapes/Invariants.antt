use Rattle.std.proofs.Common.{length, drop, ◌-◌, ◌≡◌, ◌≤◌}
use Rattle.jwt_request.specs.urls.Urls.{are_escapes}
use Rattle.jwt_request.proofs.urls.url.are_escapes.Given as goal

abbrev pub invariant-loop-at : goal.invariant-loop-at
invariant-loop-at l = record { within : l.at ≤ length l.octets; rest : are_escapes (drop l.at l.octets) ≡ are_escapes l.octets }

abbrev pub decreases-loop-at : goal.decreases-loop-at
decreases-loop-at l = length l.octets - l.at
