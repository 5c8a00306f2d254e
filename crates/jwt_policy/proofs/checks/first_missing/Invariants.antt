use Rattle.std.proofs.Common.{◌≡◌, drop, map, string_bytes}
use Rattle.jwt_text.specs.Rows.{first_row}
use Rattle.jwt_policy.specs.Checks.{missing}
use Rattle.jwt_policy.proofs.checks.first_missing.Given as goal

abbrev pub invariant-loop-each : goal.invariant-loop-each
invariant-loop-each l = first_row (map (missing l.claims) (map string_bytes (drop l.each-index l.required))) ≡ first_row (map (missing l.claims) (map string_bytes l.required))
