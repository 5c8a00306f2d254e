use Rattle.jwt_request.proofs.Lawful.{transforms}
use Rattle.jwt_request.proofs.urls.laws.transforms.Goals as goal

pub returns : goal.returns
returns c = transforms
