use Rattle.jwt_request.specs.renewal.History.{moment, beginnings, newest}
use Rattle.jwt_request.proofs.Moments.{begun_past, not_within}
use Rattle.jwt_request.proofs.renewal.laws.fetches_end.Goals as goal

pub returns : goal.returns
returns c = λ times h more enough under. not_within (newest (beginnings h)) (moment h) more times.timeout (begun_past h) enough under.1
