use Rattle.jwt_access.proofs.OneUnmet.{one, none}
use Rattle.jwt_access.proofs.expected.laws.one_unmet.Goals as goal

pub returns-clause-one : goal.returns-clause-one
returns-clause-one c = one c.paths_are_spelled.ensures

pub returns-clause-none : goal.returns-clause-none
returns-clause-none c = none c.paths_are_spelled.ensures
