use Rattle.std.proofs.Common.{◌≡◌, ◌+◌, ◌*◌, ap, ◌∙◌, arith}
use Rattle.std.proofs.Math.Path.{ap₂}
use Rattle.numbers.proofs.Digits.{all_digits, digit_less}
use Rattle.jwt_ed25519.specs.Elements.{coordinates}
use Rattle.jwt_ed25519.specs.Limbs.{number}
use Rattle.jwt_ed25519.specs.Points.{sum_of, doubled, multiple_by}
use Rattle.jwt_ed25519.proofs.MultipleSteps.{doubled_none, multiple_none, multiple_more}
use Rattle.jwt_ed25519.proofs.multiples.multiple.Goals as goal

pub digits-init : goal.digits-init
digits-init c = record {
  rest = all_digits (number c.args.scalar);
  point = doubled_none (coordinates c.args.p);
  sum = multiple_none (number c.args.scalar) (coordinates c.args.p);
}

pub digits-preserved : goal.digits-preserved
digits-preserved c =
    let i = c.digits._place in
    let u = number c.args.scalar in
    let P = coordinates c.args.p in
    let split = c.lowest_digit-split.result in
    let it = c.digits.invariant in
    let next : 4 * i + 4 ≡ 4 * (i + 1) = omega arith in
    record {
      rest = digit_less u i (number c.digits.rest) (number split.rest) split.lowest it.rest c.lowest_digit-split.ensures.split c.lowest_digit-split.ensures.below;
      point = c.step-here.ensures.next P (4 * i) it.point ∙ ap (λ n. doubled n P) next;
      sum = c.sum-total.ensures ∙ ap₂ sum_of it.sum (c.step-here.ensures.sum P (4 * i) it.point)
          ∙ multiple_more i u (number c.digits.rest) (number split.rest) split.lowest P it.rest c.lowest_digit-split.ensures.split c.lowest_digit-split.ensures.below;
    }

pub returns : goal.returns
returns c =
    let end : c.digits._place ≡ 64 = omega arith in
    c.digits.invariant.sum ∙ ap (λ n. multiple_by n (number c.args.scalar) (coordinates c.args.p)) end
