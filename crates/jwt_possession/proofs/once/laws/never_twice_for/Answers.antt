use Rattle.jwt_possession.proofs.Runs.{never_twice_for}
use Rattle.jwt_possession.proofs.once.laws.never_twice_for.Goals as goal

pub returns : goal.returns
returns c = never_twice_for
