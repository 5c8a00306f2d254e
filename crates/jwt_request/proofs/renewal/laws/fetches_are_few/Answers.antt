use Rattle.jwt_request.proofs.Few.{few}
use Rattle.jwt_request.proofs.renewal.laws.fetches_are_few.Goals as goal

pub returns : goal.returns
returns c = few
