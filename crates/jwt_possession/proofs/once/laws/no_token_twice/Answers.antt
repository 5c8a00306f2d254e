use Rattle.jwt_possession.proofs.Runs.{no_token_twice}
use Rattle.jwt_possession.proofs.once.laws.no_token_twice.Goals as goal

pub returns : goal.returns
returns c = no_token_twice
