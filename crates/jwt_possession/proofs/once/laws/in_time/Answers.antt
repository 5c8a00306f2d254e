use Rattle.jwt_possession.proofs.Moments.{in_time}
use Rattle.jwt_possession.proofs.once.laws.in_time.Goals as goal

pub returns : goal.returns
returns c policy claims now exp accepted is = in_time now exp policy.claims.leeway (((c.claims_hold.ensures policy claims now).0 accepted).exp exp is)
