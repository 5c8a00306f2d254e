use Rattle.std.proofs.Common.{length, take, min, ◌-◌, ◌≡◌, ◌≤◌}
use Rattle.std.specs.Str.Parse.{digits_value}
use Rattle.jwt_request.proofs.urls.url.number_of.Given as goal

abbrev pub invariant-loop-at : goal.invariant-loop-at
invariant-loop-at l = record { within : l.at ≤ length l.digits; value : l.number ≡ min (digits_value 10 (take l.at l.digits)) 65536; few : l.number ≤ 65536 }

abbrev pub decreases-loop-at : goal.decreases-loop-at
decreases-loop-at l = length l.digits - l.at
