use Rattle.jwt_possession.proofs.Runs.{never_twice}
use Rattle.jwt_possession.proofs.once.laws.never_twice.Goals as goal

pub returns : goal.returns
returns c = never_twice
