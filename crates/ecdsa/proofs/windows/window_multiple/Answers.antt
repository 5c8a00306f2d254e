use Rattle.std.proofs.Common.{◌≡◌, sym, subst, arith}
use Rattle.numbers.specs.Limbs.{number}
use Rattle.ecdsa.specs.Curve.{multiple}
use Rattle.ecdsa.specs.Domains.{domain}
use Rattle.ecdsa.specs.Stands.{Stands}
use Rattle.numbers.proofs.Digits.{all_digits, digit_less}
use Rattle.ecdsa.proofs.MultipleSteps.{multiple_none, multiple_more}
use Rattle.ecdsa.proofs.windows.window_multiple.Goals as goal

pub digits-init : goal.digits-init
digits-init g c = record {
  below = tt;
  rest = all_digits (number c.args.u);
  stands = λ P are. sym (multiple_none (domain c.args.curve.now) (number c.args.u) P);
}

pub digits-preserved : goal.digits-preserved
digits-preserved g c =
    let E = domain c.args.curve.now in
    let i = c.digits.place in
    let u = number c.args.u in
    let split = c.lowest_digit-split.result in
    let it = c.digits.invariant in
    record {
      below = c.next-sum.ensures.below;
      rest = digit_less u i (number c.digits.rest) (number split.rest) split.lowest it.rest c.lowest_digit-split.ensures.split c.lowest_digit-split.ensures.below;
      stands = λ P are.
          subst (λ o. Stands c.args.curve.now.field c.next-sum.result o) (multiple_more E i u (number c.digits.rest) (number split.rest) split.lowest P it.rest c.lowest_digit-split.ensures.split c.lowest_digit-split.ensures.below)
          (c.next-sum.ensures.stands P (multiple E i u P) are (it.stands P are));
    }

pub returns-clause-stands : goal.returns-clause-stands
returns-clause-stands g c P are =
    let end : c.digits.place ≡ c.args.curve.now.digits = omega arith in
    subst (λ k. Stands c.args.curve.now.field c.digits.sum (multiple (domain c.args.curve.now) k (number c.args.u) P)) end (c.digits.invariant.stands P are)
