use Rattle.std.proofs.Common.{sym, subst}
use Rattle.std.specs.Prelude.{if◌then◌else◌}
use Rattle.ecdsa.specs.Curve.{sum_of}
use Rattle.ecdsa.specs.Domains.{domain}
use Rattle.ecdsa.specs.Stands.{Stands}
use Rattle.ecdsa.proofs.multiples.sum_where.Goals as goal

pub returns-then-set-clause-stands : goal.returns-then-set-clause-stands
returns-then-set-clause-stands g c left right first second =
    subst (λ b. Stands c.args.curve.now.field c.add.result (if b then sum_of (domain c.args.curve.now) left right else left)) (sym c.if-set.true)
    (c.add.ensures.stands left right first second)

pub returns-clause-stands : goal.returns-clause-stands
returns-clause-stands g c left right first second =
    subst (λ b. Stands c.args.curve.now.field c.args.p (if b then sum_of (domain c.args.curve.now) left right else left)) (sym c.if-set.false) first
