use Rattle.jwt_verify.proofs.Bounds.{tries_bounded}
use Rattle.jwt_verify.proofs.laws.tries_are_bounded.Goals as goal

pub returns : goal.returns
returns c = tries_bounded
