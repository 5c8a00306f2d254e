use Rattle.numbers.specs.Limbs.{number}
use Rattle.ecdsa.specs.Domains.{domain}
use Rattle.ecdsa.specs.Field.{value}
use Rattle.ecdsa.proofs.FieldValues.{value_below, three_more}
use Rattle.ecdsa.proofs.Rules.{tangent_sum, infinite_double}
use Rattle.ecdsa.proofs.sums.double_finite.Goals as goal

pub returns-then-is_turning-clause-stands : goal.returns-then-is_turning-clause-stands
returns-then-is_turning-clause-stands g c R at =
    let f = c.args.curve.now.field in
    infinite_double (domain c.args.curve.now) f.above (value f c.args.p.x) (value f c.args.p.y) (value f c.args.p.z) R
    (c.is_turning.ensures.has c.if-is_turning.true) (c.is_turning.ensures.zero c.if-is_turning.true) at

pub returns-clause-stands : goal.returns-clause-stands
returns-clause-stands g c R at =
    let f = c.args.curve.now.field in
    let t = c.tangent.result in
    tangent_sum (domain c.args.curve.now) f.above (value f c.args.p.x) (value f c.args.p.y) (value f c.args.p.z) (value f t.x) (value f t.y) (value f t.z) R
    f.odd (three_more (number f.n) f.above f.odd) (value_below f c.args.p.y f.above)
    (c.is_turning.ensures.lacks c.if-is_turning.false)
    c.tangent.ensures.tangent at
