use Rattle.jwt_ed25519.specs.Points.{point}
use Rattle.jwt_ed25519.proofs.point.EdwardsPoint.of.Goals as goal

pub returns : goal.returns
unfolding point
returns c = cc
