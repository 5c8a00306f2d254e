use Rattle.std.proofs.Common.{◌≡◌, ◌+◌, ◌*◌, None, get_or, ap, ◌∙◌, arith}
use Rattle.std.proofs.Math.Path.{ap₂}
use Rattle.numbers.proofs.Digits.{all_digits, digit_less}
use Rattle.jwt_ed25519.specs.Elements.{summed}
use Rattle.jwt_ed25519.specs.Limbs.{number}
use Rattle.jwt_ed25519.specs.Points.{sum_of, multiple_by}
use Rattle.jwt_ed25519.proofs.MultipleSteps.{multiple_none, multiple_more, placed}
use Rattle.jwt_ed25519.proofs.windows.window_multiple.Goals as goal

pub digits-init : goal.digits-init
digits-init c = record {
  rest = all_digits (number c.args.scalar);
  sum = λ P are. multiple_none (number c.args.scalar) P;
}

pub digits-preserved : goal.digits-preserved
digits-preserved c =
    let i = c.digits.place in
    let u = number c.args.scalar in
    let split = c.lowest_digit-split.result in
    let it = c.digits.invariant in
    let k = 16 * i + split.lowest in
    record {
      rest = digit_less u i (number c.digits.rest) (number split.rest) split.lowest it.rest c.lowest_digit-split.ensures.split c.lowest_digit-split.ensures.below;
      sum = λ P are.
          c.sum-total.ensures
          ∙ ap₂ sum_of (it.sum P are)
          (ap summed (c.at-here.ensures ∙ ap (λ l. get_or l k None) c.as_slice.ensures.value) ∙ are k (omega (arith, c.lowest_digit-split.ensures.below, c.digits-test.true)) ∙ placed i split.lowest P c.lowest_digit-split.ensures.below)
          ∙ multiple_more i u (number c.digits.rest) (number split.rest) split.lowest P it.rest c.lowest_digit-split.ensures.split c.lowest_digit-split.ensures.below;
    }

pub returns : goal.returns
returns c P are =
    let end : c.digits.place ≡ 64 = omega arith in
    c.digits.invariant.sum P are ∙ ap (λ n. multiple_by n (number c.args.scalar) P) end
