use Rattle.std.proofs.Common.{◌≡◌, drop, map}
use Rattle.jwt_text.specs.Rows.{first_row}
use Rattle.jwt_access.specs.Denials.{demands_rows}
use Rattle.jwt_access.specs.Views.{demand}
use Rattle.jwt_access.proofs.denial.first_unmet.Given as goal

abbrev pub invariant-loop-rule : goal.invariant-loop-rule
invariant-loop-rule l = first_row (demands_rows l.scope_claim l.claims (map demand (drop l.rule-index l.rules))) ≡ first_row (demands_rows l.scope_claim l.claims (map demand l.rules))
