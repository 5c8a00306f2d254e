use Rattle.std.proofs.Common.{rules, ◌≡◌, ℕ}
use Rattle.std.proofs.lemmas.Bool.{leb-true, le-leb}
use Rattle.jwt_request.specs.renewal.History.{moment, beginnings, newest}
use Rattle.jwt_request.specs.renewal.Standing.{age}
use Rattle.jwt_request.proofs.Moments.{led, all_ago}
use Rattle.jwt_request.proofs.renewal.renewal.Renewal.is_cool.Goals as goal

pub returns : goal.returns
returns c = λ h s.
    let span : ℕ = c.args.self.now.times.cool_down in
    let ago = all_ago (beginnings h) (moment h) c.args.self.now.times.cool_down (led h) (search rules) in
    let was : c.args.self.now.begun_age ≡ age (newest (beginnings h)) (moment h) = s.begun in (
      λ yes. ago.0 (rw (← was) (leb-true c.args.self.now.times.cool_down c.args.self.now.begun_age yes)),
      λ cool. le-leb c.args.self.now.times.cool_down c.args.self.now.begun_age (rw was (ago.1 cool)),
    )
