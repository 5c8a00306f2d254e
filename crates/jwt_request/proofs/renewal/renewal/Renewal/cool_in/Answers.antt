use Rattle.std.proofs.Common.{rules, ◌≡◌}
use Rattle.jwt_request.specs.renewal.History.{moment, beginnings, newest}
use Rattle.jwt_request.specs.renewal.Standing.{age}
use Rattle.jwt_request.proofs.Moments.{led}
use Rattle.jwt_request.proofs.Due.{cool_when}
use Rattle.jwt_request.proofs.renewal.renewal.Renewal.cool_in.Goals as goal

pub returns : goal.returns
returns c = λ h more s.
    let was : c.args.self.now.begun_age ≡ age (newest (beginnings h)) (moment h) = s.begun in
    rw (c.saturating_sub.ensures, was) (cool_when (beginnings h) (moment h) more c.args.self.now.times.cool_down (led h) (search rules))
