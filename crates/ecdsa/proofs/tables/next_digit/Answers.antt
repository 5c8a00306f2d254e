use Rattle.std.proofs.Common.{◌≡◌, ◌≢◌, ◌+◌, ◌*◌, ◌^◌, ap, subst, ◌∙◌, arith}
use Rattle.numbers.specs.Digits.{highest}
use Rattle.ecdsa.specs.Curve.{Point.Affine, sum_of, doubled, digit_multiple}
use Rattle.ecdsa.specs.Domains.{domain}
use Rattle.ecdsa.specs.Stands.{Stands}
use Rattle.ecdsa.proofs.WindowSteps.{by_power}
use Rattle.ecdsa.proofs.tables.next_digit.Goals as goal

pub returns-then-digit-highest_power-clause-stands : goal.returns-then-digit-highest_power-clause-stands
returns-then-digit-highest_power-clause-stands g c R at =
    let f = c.args.curve.now.field in
    let E = domain c.args.curve.now in
    let G = Affine E.gx E.gy in
    let d = c.args.digit.value in
    let times = 4 * c.args.digit.place in
    let power : d ≡ 2 ^ highest d = c.if-digit-highest_power.true ∙ c.highest_power.ensures in
    let some : d ≢ 0 = λ none. absurd (omega (arith, none, power, ap (λ k. 2 ^ highest k) none)) in
    let here = ap (λ n. doubled E (times + n) G) c.highest_bit-bit.ensures.is ∙ by_power E times G d c.requires.digit some power in
    subst (λ o. Stands f c.add_affine.result (sum_of E R o)) here
    (c.add_affine.ensures.stands R (doubled E (times + c.highest_bit-bit.result) G) at c.double_at-double.ensures.stands)

pub returns-clause-stands : goal.returns-clause-stands
returns-clause-stands g c R at =
    let E = domain c.args.curve.now in
    c.add.ensures.stands R (digit_multiple E (4 * c.args.digit.place) 4 c.args.digit.value (Affine E.gx E.gy)) at c.step-here.ensures.stands
