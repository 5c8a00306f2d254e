use Rattle.jwt_possession.proofs.NormalForms.{normal_is_normal, same_as_its_normal, no_dots}
use Rattle.jwt_possession.proofs.laws.normal_is_normal.Goals as goal

pub returns-clause-normal : goal.returns-clause-normal
returns-clause-normal c = normal_is_normal

pub returns-clause-same : goal.returns-clause-same
returns-clause-same c = same_as_its_normal

pub returns-clause-dots : goal.returns-clause-dots
returns-clause-dots c = no_dots
