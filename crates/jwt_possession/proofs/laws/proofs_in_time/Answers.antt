use Rattle.std.specs.Prelude.{codes}
use Rattle.jwt_text.specs.Members.{whole_at}
use Rattle.jwt_possession.proofs.InTime.{in_time}
use Rattle.jwt_possession.proofs.laws.proofs_in_time.Goals as goal

pub returns : goal.returns
returns c policy claims now iat age accepted has is =
    let hold = (c.claims_hold.ensures policy claims now).0 accepted in (
      in_time now iat age policy.claims.leeway (whole_at (codes "iat") claims) policy.claims.max_age is has (hold.iat_most age iat has is),
      c.issued_before.ensures policy claims now (λ its there. hold.iat_least age its has there),
    )
