use Rattle.std.proofs.Common.{sym, subst}
use Rattle.std.specs.Prelude.{if◌then◌else◌}
use Rattle.ecdsa.specs.Curve.{sum_of}
use Rattle.ecdsa.specs.Domains.{domain}
use Rattle.ecdsa.specs.Stands.{Stands}
use Rattle.ecdsa.proofs.tables.next.Goals as goal

pub returns-then-set-clause-stands : goal.returns-then-set-clause-stands
returns-then-set-clause-stands g c left right at second =
    let E = domain c.args.curve.now in
    subst (λ b. Stands c.args.curve.now.field c.add_affine.result (if b then sum_of E left right else left)) (sym c.if-set.true)
    (c.add_affine.ensures.stands left right at second)

pub returns-clause-stands : goal.returns-clause-stands
returns-clause-stands g c left right at second =
    let E = domain c.args.curve.now in
    subst (λ b. Stands c.args.curve.now.field c.args.p (if b then sum_of E left right else left)) (sym c.if-set.false) at
