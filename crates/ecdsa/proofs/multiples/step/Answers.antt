use Rattle.std.proofs.Common.{◌≡◌, ◌+◌, sym, subst, arith}
use Rattle.ecdsa.specs.Curve.{doubled, digit_multiple}
use Rattle.ecdsa.specs.Domains.{domain}
use Rattle.ecdsa.specs.Stands.{Stands}
use Rattle.numbers.proofs.Digits.{all_bits, bit_less}
use Rattle.ecdsa.proofs.MultipleSteps.{digit_none, digit_more, doubled_more}
use Rattle.ecdsa.proofs.multiples.step.Goals as goal

pub bits-init : goal.bits-init
bits-init g c = record {
  sum_below = tt;
  next_below = c.requires.p;
  rest = all_bits c.args.digit;
  sum = λ P times at. sym (digit_none (domain c.args.curve.now) times c.args.digit P);
  next = λ P times at.
      let same : times ≡ times + 0 = omega arith in
      subst (λ n. Stands c.args.curve.now.field c.args.p (doubled (domain c.args.curve.now) n P)) same at;
}

pub bits-preserved : goal.bits-preserved
bits-preserved g c =
    let f = c.args.curve.now.field in
    let E = domain c.args.curve.now in
    let i = c.bits._bit in
    let d = c.args.digit in
    let it = c.bits.invariant in
    record {
      sum_below = c.sum_where-sum.ensures.below;
      next_below = c.double-next.ensures.below;
      rest = bit_less d i c.bits.rest it.rest;
      sum = λ P times at.
          subst (λ o. Stands f c.sum_where-sum.result o) (digit_more E times i d c.bits.rest P it.rest)
          (c.sum_where-sum.ensures.stands (digit_multiple E times i d P) (doubled E (times + i) P) (it.sum P times at) (it.next P times at));
      next = λ P times at.
          subst (λ o. Stands f c.double-next.result o) (doubled_more E times i P)
          (c.double-next.ensures.stands (doubled E (times + i) P) (it.next P times at));
    }

pub returns-clause-sum : goal.returns-clause-sum
returns-clause-sum g c P times at =
    let end : c.bits._bit ≡ 4 = omega arith in
    subst (λ n. Stands c.args.curve.now.field c.bits.sum (digit_multiple (domain c.args.curve.now) times n c.args.digit P)) end (c.bits.invariant.sum P times at)

pub returns-clause-next : goal.returns-clause-next
returns-clause-next g c P times at =
    let end : c.bits._bit ≡ 4 = omega arith in
    subst (λ n. Stands c.args.curve.now.field c.bits.next (doubled (domain c.args.curve.now) (times + n) P)) end (c.bits.invariant.next P times at)
