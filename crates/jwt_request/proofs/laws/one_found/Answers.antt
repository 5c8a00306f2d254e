use Rattle.jwt_request.proofs.Places.{one_found}
use Rattle.jwt_request.proofs.laws.one_found.Goals as goal

pub returns : goal.returns
returns c = one_found
