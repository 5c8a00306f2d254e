use Rattle.jwt_ed25519.specs.Points.{negated}
use Rattle.jwt_ed25519.proofs.point.EdwardsPoint.negated.Goals as goal

pub returns : goal.returns
unfolding negated
returns c = cc
