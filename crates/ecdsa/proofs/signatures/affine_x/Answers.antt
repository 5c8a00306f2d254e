use Rattle.std.proofs.Common.{◌*◌, sym, ◌∙◌, refl}
use Rattle.std.proofs.Math.Nat.{mod-eq_of_lt}
use Rattle.ecdsa.proofs.Congruence.{same_mul}
use Rattle.ecdsa.specs.Field.{size, value}
use Rattle.ecdsa.proofs.FieldValues.{value_below}
use Rattle.ecdsa.proofs.signatures.affine_x.Goals as goal

pub returns : goal.returns
returns g c =
    let f = c.args.f.now in
    let m = size f in
    let i = value f c.args.i in
    c.plain.ensures ∙ sym (mod-eq_of_lt (value_below f c.times-product.result f.above)) ∙ c.times-product.ensures.product
    ∙ same_mul m (value f c.args.x) (value f c.args.x) (value f c.times-square.result) (i * i) refl c.times-square.ensures.product
