use Rattle.std.proofs.Common.{rules, ◌≡◌}
use Rattle.jwt_request.specs.renewal.History.{moment, keys_since}
use Rattle.jwt_request.specs.renewal.Standing.{age}
use Rattle.jwt_request.proofs.Moments.{keys_past}
use Rattle.jwt_request.proofs.Due.{stale_when}
use Rattle.jwt_request.proofs.renewal.renewal.Renewal.fresh_for.Goals as goal

pub returns : goal.returns
returns c = λ h more s.
    let was : c.args.self.now.keys_age ≡ age (keys_since h) (moment h) = s.keys in
    rw (c.saturating_sub.ensures, c.min.ensures, was) (stale_when (keys_since h) (moment h) more c.args.self.now.times.refresh_after c.args.self.now.times.max_age (keys_past h) (search rules))
