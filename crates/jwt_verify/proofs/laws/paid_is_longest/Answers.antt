use Rattle.jwt_verify.proofs.Holding.{paid_is_longest}
use Rattle.jwt_verify.proofs.laws.paid_is_longest.Goals as goal

pub returns : goal.returns
returns c = paid_is_longest
