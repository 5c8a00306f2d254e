use Rattle.jwt_verify.proofs.LeastVerdict.{least_tries_hold}
use Rattle.jwt_verify.proofs.laws.least_tries.Goals as goal

pub returns : goal.returns
returns c = least_tries_hold
