use Rattle.std.proofs.Common.{◌≡◌, ◌+◌, ◌*◌, sym, subst, arith}
use Rattle.numbers.specs.Limbs.{number}
use Rattle.ecdsa.specs.Curve.{doubled, digit_multiple, multiple}
use Rattle.ecdsa.specs.Domains.{domain}
use Rattle.ecdsa.specs.Field.{size, value}
use Rattle.ecdsa.specs.Stands.{AreFor, Stands}
use Rattle.numbers.proofs.Digits.{all_digits, digit_less}
use Rattle.ecdsa.proofs.MultipleSteps.{doubled_none, multiple_none, multiple_more}
use Rattle.ecdsa.proofs.multiples.multiple.Goals as goal

pub digits-init : goal.digits-init
digits-init g c =
    let f = c.args.curve.now.field in
    record {
      below = tt;
      point_below = c.requires.p;
      rest = all_digits (number c.args.u);
      point = λ P at. subst (λ o. AreFor (size f) (value f c.args.p.x) (value f c.args.p.y) (value f c.args.p.z) o) (doubled_none (domain c.args.curve.now) P) at;
      stands = λ P at. sym (multiple_none (domain c.args.curve.now) (number c.args.u) P);
    }

pub digits-preserved : goal.digits-preserved
digits-preserved g c =
    let f = c.args.curve.now.field in
    let E = domain c.args.curve.now in
    let i = c.digits._place in
    let u = number c.args.u in
    let split = c.lowest_digit-split.result in
    let it = c.digits.invariant in
    let next : 4 * i + 4 ≡ 4 * (i + 1) = omega arith in
    record {
      below = c.add-sum.ensures.below;
      point_below = c.step-here.ensures.next_below;
      rest = digit_less u i (number c.digits.rest) (number split.rest) split.lowest it.rest c.lowest_digit-split.ensures.split c.lowest_digit-split.ensures.below;
      point = λ P at. subst (λ n. Stands f c.step-here.result.next (doubled E n P)) next (c.step-here.ensures.next P (4 * i) (it.point P at));
      stands = λ P at.
          subst (λ o. Stands f c.add-sum.result o) (multiple_more E i u (number c.digits.rest) (number split.rest) split.lowest P it.rest c.lowest_digit-split.ensures.split c.lowest_digit-split.ensures.below)
          (c.add-sum.ensures.stands (multiple E i u P) (digit_multiple E (4 * i) 4 split.lowest P) (it.stands P at) (c.step-here.ensures.sum P (4 * i) (it.point P at)));
    }

pub returns-clause-stands : goal.returns-clause-stands
returns-clause-stands g c P at =
    let end : c.digits._place ≡ c.args.curve.now.digits = omega arith in
    subst (λ k. Stands c.args.curve.now.field c.digits.sum (multiple (domain c.args.curve.now) k (number c.args.u) P)) end (c.digits.invariant.stands P at)
