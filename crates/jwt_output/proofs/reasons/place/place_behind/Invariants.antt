use Rattle.std.proofs.Common.{◌≤◌, ◌+◌}
use Rattle.jwt_output.proofs.reasons.place.place_behind.Given as goal

abbrev pub invariant-loop-octet : goal.invariant-loop-octet
invariant-loop-octet l = (l.place.line ≤ l.octet-index + 1) × (l.place.column ≤ l.octet-index + 1)
