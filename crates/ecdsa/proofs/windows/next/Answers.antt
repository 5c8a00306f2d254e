use Rattle.std.proofs.Common.{◌≢◌, ◌+◌, ◌*◌, ◌/◌, ◌%◌, subst, arith}
use Rattle.ecdsa.specs.Curve.{sum_of, digit_multiple}
use Rattle.ecdsa.specs.Domains.{domain}
use Rattle.ecdsa.specs.Stands.{Stands}
use Rattle.ecdsa.proofs.WindowSteps.{no_digit, placed}
use Rattle.ecdsa.proofs.windows.next.Goals as goal

pub returns-then-digit-eq0-clause-stands : goal.returns-then-digit-eq0-clause-stands
returns-then-digit-eq0-clause-stands g c P R are at =
    subst (λ o. Stands c.args.curve.now.field c.args.sum o) (no_digit (domain c.args.curve.now) (4 * c.args.digit.place) c.args.digit.value R P c.if-digit-eq0.true) at

pub returns-clause-stands : goal.returns-clause-stands
returns-clause-stands g c P R are at =
    let E = domain c.args.curve.now in
    let k = 16 * c.args.digit.place + c.args.digit.value in
    let some : k % 16 ≢ 0 = λ none. c.if-digit-eq0.false (omega (arith, none, c.requires.digit)) in
    subst (λ o. Stands c.args.curve.now.field c.add_affine.result (sum_of E R o)) (placed E c.args.digit.place c.args.digit.value P c.requires.digit)
    (c.add_affine.ensures.stands R (digit_multiple E (4 * (k / 16)) 4 (k % 16) P) at (c.window_at-window.ensures.stands P are some))
