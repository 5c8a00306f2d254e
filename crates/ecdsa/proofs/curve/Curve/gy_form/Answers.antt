use Rattle.ecdsa.specs.Field.{Below}
use Rattle.ecdsa.proofs.curve.Curve.gy_form.Goals as goal

pub returns-clause-below : goal.returns-clause-below
unfolding Below
returns-clause-below g c = c.args.self.now.gy_below
