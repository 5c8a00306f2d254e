use Rattle.jwt_possession.proofs.NormalForms.{same_both_ways, same_throughout, same_by_parts}
use Rattle.jwt_possession.proofs.laws.same_by_parts.Goals as goal

pub returns-clause-both_ways : goal.returns-clause-both_ways
returns-clause-both_ways c = same_both_ways

pub returns-clause-throughout : goal.returns-clause-throughout
returns-clause-throughout c = same_throughout

pub returns-clause-parts : goal.returns-clause-parts
returns-clause-parts c = same_by_parts
