use Rattle.std.proofs.Common.{◌+◌, ◌-◌, ◌*◌, ◌%◌, ◌==◌, ap, sym, ◌∙◌, arith}
use Rattle.std.proofs.Math.Path.{ap₂}
use Rattle.std.proofs.Math.Nat.{mod-eq_of_lt}
use Rattle.ecdsa.specs.Field.{size, value}
use Rattle.ecdsa.proofs.FieldValues.{value_below}
use Rattle.ecdsa.proofs.SignatureVerdicts.{tested, right_is}
use Rattle.ecdsa.proofs.signatures.is_on_curve.Goals as goal

pub returns : goal.returns
returns g c =
    let f = c.args.curve.now.field in
    let m = size f in
    let x = value f c.args.x in
    let left = value f c.times-left.result in
    let right = value f c.plus-right.result in
    tested c.is.result left right c.is.ensures
    ∙ ap₂ (λ a b. a == b) (sym (mod-eq_of_lt (value_below f c.times-left.result f.above)) ∙ c.times-left.ensures.product)
    (sym (mod-eq_of_lt (value_below f c.plus-right.result f.above))
    ∙ right_is m x (value f c.b_form-b.result) (value f c.times-square.result) (value f c.times-cube.result) (value f c.plus-twice.result) (value f c.plus-thrice.result)
    (value f c.minus-rest.result) right (omega (arith, f.above, f.odd)) c.times-square.ensures.product c.times-cube.ensures.product c.plus-twice.ensures.sum
    c.plus-thrice.ensures.sum c.minus-rest.ensures.sum c.plus-right.ensures.sum
    ∙ ap (λ b. (x * x * x + (m - 3) * x + value f b) % m) c.b_form-b.ensures.is)
