use Rattle.std.proofs.Common.{◌≡◌, ◌∷◌, ◌+◌, drop, map, is_some, true, sym, ap, ◌∙◌, arith}
use Rattle.std.proofs.lemmas.List.{drop_more}
use Rattle.jwt_text.specs.Rows.{first_row}
use Rattle.jwt_access.specs.Denials.{demand_rows, demands_rows}
use Rattle.jwt_access.specs.Views.{demand}
use Rattle.jwt_access.proofs.RowsLemmas.{first_here}
use Rattle.jwt_access.proofs.denial.first_unmet.Goals as goal

pub returns-then-is_some : goal.returns-then-is_some
returns-then-is_some c =
    let claim = c.args.scope_claim.now in
    let ms = c.args.claims.now in
    let rules = c.args.rules.now in
    let rule = c.rule-item.result in
    let i = c.loop-rule.rule-index in
    let some : is_some c.denial-denial.result ≡ true = grind arith in
    first_here (demand_rows claim ms (demand rule)) (demands_rows claim ms (map demand (drop (i + 1) rules))) c.denial-denial.result c.denial-denial.ensures some
    ∙ sym (ap (λ rs. first_row (demands_rows claim ms (map demand rs))) (drop_more rules i rule (omega arith) ∙ ap (λ r. r ∷ drop (i + 1) rules) (sym c.rule-item.is)))
    ∙ c.loop-rule.invariant
