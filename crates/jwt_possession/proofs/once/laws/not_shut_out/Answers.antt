use Rattle.jwt_possession.proofs.Shares.{not_shut_out}
use Rattle.jwt_possession.proofs.once.laws.not_shut_out.Goals as goal

pub returns : goal.returns
returns c = not_shut_out
