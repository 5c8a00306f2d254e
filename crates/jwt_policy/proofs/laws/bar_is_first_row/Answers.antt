use Rattle.jwt_policy.specs.Bars.{bar_rows, bar_of}
use Rattle.jwt_policy.proofs.laws.bar_is_first_row.Goals as goal

pub returns-clause-some : goal.returns-clause-some
unfolding bar_of
returns-clause-some c = λ p s verifiers fault. c.first_rows.ensures.some (bar_rows p s verifiers) fault

pub returns-clause-none : goal.returns-clause-none
unfolding bar_of
returns-clause-none c = λ p s verifiers. c.first_rows.ensures.none (bar_rows p s verifiers)
