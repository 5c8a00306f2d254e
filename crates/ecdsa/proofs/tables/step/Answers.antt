use Rattle.std.proofs.Common.{◌≡◌, ◌+◌, ◌*◌, subst, refl, arith}
use Rattle.ecdsa.specs.Curve.{Point.Affine, doubled, digit_multiple}
use Rattle.ecdsa.specs.Domains.{domain}
use Rattle.ecdsa.specs.Stands.{Stands}
use Rattle.numbers.proofs.Digits.{bit_less}
use Rattle.ecdsa.proofs.MultipleSteps.{digit_more}
use Rattle.ecdsa.proofs.tables.step.Goals as goal

pub bits-init : goal.bits-init
bits-init g c = record {
  below = c.lower_half-sum.ensures.below;
  within = omega arith;
  rest = refl;
  stands = c.lower_half-sum.ensures.stands;
}

pub bits-preserved : goal.bits-preserved
bits-preserved g c =
    let f = c.args.curve.now.field in
    let E = domain c.args.curve.now in
    let G = Affine E.gx E.gy in
    let times = 4 * c.args.digit.place in
    let i = c.bits.bit in
    let d = c.args.digit.value in
    let it = c.bits.invariant in
    record {
      below = c.next-sum.ensures.below;
      within = omega (arith, c.bits-test.true);
      rest = bit_less d i c.bits.rest it.rest;
      stands = subst (λ o. Stands f c.next-sum.result o) (digit_more E times i d c.bits.rest G it.rest)
          (c.next-sum.ensures.stands (digit_multiple E times i d G) (doubled E (times + i) G) it.stands c.double_at-double.ensures.stands);
    }

pub returns-clause-stands : goal.returns-clause-stands
returns-clause-stands g c =
    let E = domain c.args.curve.now in
    let end : c.bits.bit ≡ 4 = omega (arith, c.bits.invariant.within) in
    subst (λ n. Stands c.args.curve.now.field c.bits.sum (digit_multiple E (4 * c.args.digit.place) n c.args.digit.value (Affine E.gx E.gy))) end c.bits.invariant.stands
