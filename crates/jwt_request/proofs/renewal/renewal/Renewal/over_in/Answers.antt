use Rattle.std.proofs.Common.{rules, ◌≡◌, ◌∙◌, sym}
use Rattle.jwt_request.specs.renewal.History.{moment, beginnings, newest, is_open}
use Rattle.jwt_request.specs.renewal.Standing.{age}
use Rattle.jwt_request.proofs.Moments.{begun_past}
use Rattle.jwt_request.proofs.Due.{over_when}
use Rattle.jwt_request.proofs.renewal.renewal.Renewal.over_in.Goals as goal

pub returns-then-self : goal.returns-then-self
returns-then-self c = λ h more s.
    let was : c.args.self.now.begun_age ≡ age (newest (beginnings h)) (moment h) = s.begun in
    rw (c.saturating_sub.ensures, was)
    (over_when (is_open h) (newest (beginnings h)) (moment h) more c.args.self.now.times.timeout (sym s.is_open ∙ c.if-self.true) (begun_past h) (search rules))
