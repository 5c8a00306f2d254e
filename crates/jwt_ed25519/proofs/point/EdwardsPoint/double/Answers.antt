use Rattle.jwt_ed25519.specs.Points.{double}
use Rattle.jwt_ed25519.proofs.point.EdwardsPoint.double.Goals as goal

pub returns : goal.returns
unfolding double
returns c = cc
