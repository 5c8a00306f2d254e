use Rattle.std.proofs.Common.{Some}
use Rattle.ecdsa.specs.Domains.{domain}
use Rattle.ecdsa.proofs.FieldValues.{right_infinite}
use Rattle.ecdsa.proofs.sums.add_finite.Goals as goal

pub returns-in-None-clause-stands : goal.returns-in-None-clause-stands
returns-in-None-clause-stands g c left right first second =
    right_infinite c.args.curve.now.field (domain c.args.curve.now) (Some c.args.p) c.args.q left right c.in-None.is first second
