use Rattle.std.proofs.Common.{◌≡◌, ◌+◌, ◌*◌, ◌/◌, ◌%◌, Some, subst, refl, arith}
use Rattle.ecdsa.specs.Curve.{Point.Infinity, Point.Affine, doubled}
use Rattle.ecdsa.specs.Domains.{domain}
use Rattle.ecdsa.specs.Stands.{Stands}
use Rattle.ecdsa.proofs.MultipleSteps.{neither_or_second, first_of_two, both_of_two}
use Rattle.ecdsa.proofs.tables.lower_half.Goals as goal

pub returns-then-digit-eq0-clause-stands : goal.returns-then-digit-eq0-clause-stands
returns-then-digit-eq0-clause-stands g c =
    let E = domain c.args.curve.now in
    let G = Affine E.gx E.gy in
    subst (λ o. Stands c.args.curve.now.field c.next.result o) (neither_or_second E (4 * c.args.digit.place) c.args.digit.value G c.if-digit-eq0.true)
    (c.next.ensures.stands (Some Infinity) (doubled E (4 * c.args.digit.place + 1) G) refl c.double_at-second.ensures.stands)

pub returns-then-digit-eq0-2-clause-stands : goal.returns-then-digit-eq0-2-clause-stands
returns-then-digit-eq0-2-clause-stands g c =
    let E = domain c.args.curve.now in
    let odd : c.args.digit.value % 2 ≡ 1 = omega (arith, c.if-digit-eq0.false) in
    subst (λ o. Stands c.args.curve.now.field (Some c.double_at-first.result) o) (first_of_two E (4 * c.args.digit.place) c.args.digit.value (Affine E.gx E.gy) odd c.if-digit-eq0-2.true)
    c.double_at-first.ensures.stands

pub returns-clause-stands : goal.returns-clause-stands
returns-clause-stands g c =
    let E = domain c.args.curve.now in
    let G = Affine E.gx E.gy in
    let odd : c.args.digit.value % 2 ≡ 1 = omega (arith, c.if-digit-eq0.false) in
    let odd_too : (c.args.digit.value / 2) % 2 ≡ 1 = omega (arith, c.if-digit-eq0-2.false) in
    subst (λ o. Stands c.args.curve.now.field c.add_pair.result o) (both_of_two E (4 * c.args.digit.place) c.args.digit.value G odd odd_too)
    (c.add_pair.ensures.stands (doubled E (4 * c.args.digit.place) G) (doubled E (4 * c.args.digit.place + 1) G) c.double_at-first.ensures.stands c.double_at-second.ensures.stands)
