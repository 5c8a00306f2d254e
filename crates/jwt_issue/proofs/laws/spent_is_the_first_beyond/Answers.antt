use Rattle.jwt_issue.proofs.SpentLaw.{none_beyond, first_beyond}
use Rattle.jwt_issue.proofs.laws.spent_is_the_first_beyond.Goals as goal

pub returns-clause-none : goal.returns-clause-none
returns-clause-none c = none_beyond

pub returns-clause-some : goal.returns-clause-some
returns-clause-some c = first_beyond
