use Rattle.std.proofs.Common.{◌≡◌, ◌+◌, ◌%◌, ◌==◌, Some, ap, ◌∙◌, arith}
use Rattle.std.proofs.Math.Path.{ap₂}
use Rattle.std.specs.Prelude.{if◌then◌else◌}
use Rattle.numbers.proofs.Digits.{all_bits, bit_less}
use Rattle.jwt_ed25519.specs.Points.{double, sum_of, doubled, digit_multiple}
use Rattle.jwt_ed25519.proofs.MultipleSteps.{digit_none, digit_more, doubled_more}
use Rattle.jwt_ed25519.proofs.multiples.step.Goals as goal

pub bits-init : goal.bits-init
bits-init c = record {
  rest = all_bits c.args.digit;
  sum = λ P times at. digit_none times c.args.digit P;
  next = λ P times at.
      let same : times ≡ times + 0 = omega arith in
      at ∙ ap (λ n. doubled n P) same;
}

pub bits-preserved : goal.bits-preserved
bits-preserved c =
    let i = c.bits._bit in
    let d = c.args.digit in
    let it = c.bits.invariant in
    record {
      rest = bit_less d i c.bits.rest it.rest;
      sum = λ P times at.
          c.sum_where-sum.ensures
          ∙ ap₂ (λ a b. if c.bits.rest % 2 == 1 then sum_of a (Some b) else a) (it.sum P times at) (it.next P times at)
          ∙ digit_more times i d c.bits.rest P it.rest;
      next = λ P times at. c.double-next.ensures ∙ ap double (it.next P times at) ∙ doubled_more times i P;
    }

pub returns-clause-sum : goal.returns-clause-sum
returns-clause-sum c P times at =
    let end : c.bits._bit ≡ 4 = omega arith in
    c.bits.invariant.sum P times at ∙ ap (λ n. digit_multiple times n c.args.digit P) end

pub returns-clause-next : goal.returns-clause-next
returns-clause-next c P times at =
    let end : c.bits._bit ≡ 4 = omega arith in
    c.bits.invariant.next P times at ∙ ap (λ n. doubled (times + n) P) end
