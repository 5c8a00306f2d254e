use Rattle.jwt_ed25519.specs.Points.{add}
use Rattle.jwt_ed25519.proofs.point.EdwardsPoint.add.Goals as goal

pub returns : goal.returns
unfolding add
returns c = cc
