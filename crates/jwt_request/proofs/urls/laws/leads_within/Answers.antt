use Rattle.jwt_request.proofs.Lawful.{leads_within}
use Rattle.jwt_request.proofs.urls.laws.leads_within.Goals as goal

pub returns : goal.returns
returns c = leads_within
