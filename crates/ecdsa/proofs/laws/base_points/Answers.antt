use Rattle.std.proofs.Common.{refl}
use Rattle.ecdsa.specs.Curve.{is_key}
use Rattle.ecdsa.specs.Curves.{P256, P384, P521}
use Rattle.ecdsa.proofs.laws.base_points.Goals as goal

pub returns-clause-p256 : goal.returns-clause-p256
unfolding is_key P256
returns-clause-p256 c = refl

pub returns-clause-p384 : goal.returns-clause-p384
unfolding is_key P384
returns-clause-p384 c = refl

pub returns-clause-p521 : goal.returns-clause-p521
unfolding is_key P521
returns-clause-p521 c = refl
