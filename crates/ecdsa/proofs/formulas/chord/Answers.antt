use Rattle.std.proofs.Common.{arith}
use Rattle.numbers.specs.Limbs.{number}
use Rattle.ecdsa.specs.Field.{value}
use Rattle.ecdsa.proofs.Made.{chord_made}
use Rattle.ecdsa.proofs.formulas.chord.Goals as goal

pub returns-clause-chord : goal.returns-clause-chord
returns-clause-chord g c =
    let f = c.args.f.now in
    chord_made (number f.n) (value f c.args.p.x) (value f c.args.p.y) (value f c.args.h) (value f c.args.r) (value f c.args.p.z)
    (value f c.square-hh.result) (value f c.times-hhh.result) (value f c.times-v.result) (value f c.plus-vv.result) (value f c.plus-taken.result)
    (value f c.square-rr.result) (value f c.minus-x.result) (value f c.minus-rest.result) (value f c.times-across.result) (value f c.times-down.result)
    (value f c.minus-y.result) (value f c.times-third.result) (omega (arith, f.above))
    c.square-hh.ensures.product c.times-hhh.ensures.product c.times-v.ensures.product c.plus-vv.ensures.sum c.plus-taken.ensures.sum
    c.square-rr.ensures.product c.minus-x.ensures.sum c.minus-rest.ensures.sum c.times-across.ensures.product c.times-down.ensures.product
    c.minus-y.ensures.sum c.times-third.ensures.product
