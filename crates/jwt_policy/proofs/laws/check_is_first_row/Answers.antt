use Rattle.jwt_policy.specs.Checks.{check_rows, check_of}
use Rattle.jwt_policy.proofs.laws.check_is_first_row.Goals as goal

pub returns-clause-some : goal.returns-clause-some
unfolding check_of
returns-clause-some c = λ p ms now fault. c.first_rows.ensures.some (check_rows p ms now) fault

pub returns-clause-none : goal.returns-clause-none
unfolding check_of
returns-clause-none c = λ p ms now. c.first_rows.ensures.none (check_rows p ms now)
