use Rattle.std.proofs.Common.{◌≡◌, sym, subst, arith}
use Rattle.numbers.specs.Limbs.{number}
use Rattle.ecdsa.specs.Curve.{Point.Affine, multiple}
use Rattle.ecdsa.specs.Domains.{domain}
use Rattle.ecdsa.specs.Stands.{Stands}
use Rattle.numbers.proofs.Digits.{all_digits, digit_less}
use Rattle.ecdsa.proofs.MultipleSteps.{multiple_none, multiple_more}
use Rattle.ecdsa.proofs.tables.base_multiple.Goals as goal

pub digits-init : goal.digits-init
digits-init g c =
    let E = domain c.args.curve.now in
    record {
      below = tt;
      rest = all_digits (number c.args.u);
      stands = sym (multiple_none E (number c.args.u) (Affine E.gx E.gy));
    }

pub digits-preserved : goal.digits-preserved
digits-preserved g c =
    let f = c.args.curve.now.field in
    let E = domain c.args.curve.now in
    let G = Affine E.gx E.gy in
    let i = c.digits.place in
    let u = number c.args.u in
    let split = c.lowest_digit-split.result in
    let it = c.digits.invariant in
    record {
      below = c.next_digit-sum.ensures.below;
      rest = digit_less u i (number c.digits.rest) (number split.rest) split.lowest it.rest c.lowest_digit-split.ensures.split c.lowest_digit-split.ensures.below;
      stands = subst (λ o. Stands f c.next_digit-sum.result o) (multiple_more E i u (number c.digits.rest) (number split.rest) split.lowest G it.rest c.lowest_digit-split.ensures.split c.lowest_digit-split.ensures.below)
          (c.next_digit-sum.ensures.stands (multiple E i u G) it.stands);
    }

pub returns-clause-stands : goal.returns-clause-stands
returns-clause-stands g c =
    let E = domain c.args.curve.now in
    let end : c.digits.place ≡ c.args.curve.now.digits = omega arith in
    subst (λ k. Stands c.args.curve.now.field c.digits.sum (multiple E k (number c.args.u) (Affine E.gx E.gy))) end c.digits.invariant.stands
