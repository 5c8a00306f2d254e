use Rattle.std.proofs.Common.{arith}
use Rattle.numbers.specs.Limbs.{number}
use Rattle.ecdsa.specs.Field.{value}
use Rattle.ecdsa.proofs.Made.{tangent_made}
use Rattle.ecdsa.proofs.formulas.tangent.Goals as goal

pub returns-clause-tangent : goal.returns-clause-tangent
returns-clause-tangent g c =
    let f = c.args.f.now in
    tangent_made (number f.n) (value f c.args.p.x) (value f c.args.p.y) (value f c.args.p.z)
    (value f c.square-delta.result) (value f c.square-gamma.result) (value f c.times-beta.result) (value f c.minus-less.result) (value f c.plus-more.result)
    (value f c.times-span.result) (value f c.plus-span2.result) (value f c.plus-alpha.result) (value f c.plus-beta2.result) (value f c.plus-beta4.result)
    (value f c.plus-beta8.result) (value f c.square-square.result) (value f c.minus-x.result) (value f c.plus-gamma2.result) (value f c.square-gamma4.result)
    (value f c.plus-gamma8.result) (value f c.minus-rest.result) (value f c.times-across.result) (value f c.minus-y.result) (value f c.times-yz.result)
    (value f c.plus-z.result) (omega (arith, f.above))
    c.square-delta.ensures.product c.square-gamma.ensures.product c.times-beta.ensures.product c.minus-less.ensures.sum c.plus-more.ensures.sum
    c.times-span.ensures.product c.plus-span2.ensures.sum c.plus-alpha.ensures.sum c.plus-beta2.ensures.sum c.plus-beta4.ensures.sum
    c.plus-beta8.ensures.sum c.square-square.ensures.product c.minus-x.ensures.sum c.plus-gamma2.ensures.sum c.square-gamma4.ensures.product
    c.plus-gamma8.ensures.sum c.minus-rest.ensures.sum c.times-across.ensures.product c.minus-y.ensures.sum c.times-yz.ensures.product c.plus-z.ensures.sum
