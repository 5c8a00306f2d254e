use Rattle.std.proofs.Common.{Some}
use Rattle.ecdsa.specs.Domains.{domain}
use Rattle.ecdsa.proofs.FieldValues.{left_infinite}
use Rattle.ecdsa.proofs.sums.add_affine.Goals as goal

pub returns-in-None-clause-stands : goal.returns-in-None-clause-stands
returns-in-None-clause-stands g c left right first second =
    left_infinite c.args.curve.now.field (domain c.args.curve.now) c.args.p (Some c.args.q) left right c.in-None.is first second
