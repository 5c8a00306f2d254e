use Rattle.std.proofs.Common.{subst}
use Rattle.std.proofs.lemmas.Bool.{iff_false}
use Rattle.ecdsa.specs.Curve.{sum_of}
use Rattle.ecdsa.specs.Domains.{domain}
use Rattle.ecdsa.specs.Field.{value}
use Rattle.ecdsa.specs.Stands.{Stands}
use Rattle.ecdsa.proofs.FieldValues.{value_below}
use Rattle.ecdsa.proofs.Rules.{chord_sum, lacking_sum, same_sum, opposite_sum, apart_sum}
use Rattle.ecdsa.proofs.sums.add_over.Goals as goal

pub returns-then-not-is_zero-clause-stands : goal.returns-then-not-is_zero-clause-stands
returns-then-not-is_zero-clause-stands g c left right meet =
    let f = c.args.curve.now.field in
    let t = c.chord.result in
    chord_sum (domain c.args.curve.now) f.above (value f c.args.p.x) (value f c.args.p.y) (value f c.args.x) (value f c.args.y) (value f c.args.p.z)
    (value f c.minus-h.result) (value f c.minus-r.result) (value f t.x) (value f t.y) (value f t.z) left right
    (value_below f c.minus-h.result f.above) (iff_false c.is_zero.ensures c.if-not-is_zero.true) c.minus-h.ensures.sum c.minus-r.ensures.sum c.chord.ensures.chord meet

pub returns-then-lacks_inverse-clause-stands : goal.returns-then-lacks_inverse-clause-stands
returns-then-lacks_inverse-clause-stands g c left right meet =
    let f = c.args.curve.now.field in
    lacking_sum (domain c.args.curve.now) f.above (value f c.args.p.x) (value f c.args.p.y) (value f c.args.x) (value f c.args.y) (value f c.args.p.z)
    (value f c.args.p.z) (value f c.args.p.z) left right (c.lacks_inverse.ensures.lacks c.if-lacks_inverse.true) meet

pub returns-then-is_zero-clause-stands : goal.returns-then-is_zero-clause-stands
returns-then-is_zero-clause-stands g c left right meet =
    let f = c.args.curve.now.field in
    let E = domain c.args.curve.now in
    let one = same_sum E f.above (value f c.args.p.x) (value f c.args.p.y) (value f c.args.x) (value f c.args.y) (value f c.args.p.z)
    (value f c.minus-h.result) (value f c.minus-r.result) left right (c.lacks_inverse.ensures.has c.if-lacks_inverse.false)
    (c.is_zero.ensures.0 c.if-not-is_zero.false) (c.is_zero-2.ensures.0 c.if-is_zero.true) c.minus-h.ensures.sum c.minus-r.ensures.sum meet in
    subst (λ o. Stands f c.double_finite.result (sum_of E left o)) one.0 (c.double_finite.ensures.stands left one.1)

pub returns-then-is_zero-2-clause-stands : goal.returns-then-is_zero-2-clause-stands
returns-then-is_zero-2-clause-stands g c left right meet =
    let f = c.args.curve.now.field in
    opposite_sum (domain c.args.curve.now) f.above (value f c.args.p.x) (value f c.args.p.y) (value f c.args.x) (value f c.args.y) (value f c.args.p.z)
    (value f c.minus-h.result) (value f c.plus-sum.result) left right (c.lacks_inverse.ensures.has c.if-lacks_inverse.false)
    (c.is_zero.ensures.0 c.if-not-is_zero.false) c.minus-h.ensures.sum c.plus-sum.ensures.sum (c.is_zero-3.ensures.0 c.if-is_zero-2.true) meet

pub returns-clause-stands : goal.returns-clause-stands
returns-clause-stands g c left right meet =
    let f = c.args.curve.now.field in
    apart_sum (domain c.args.curve.now) f.above (value f c.args.p.x) (value f c.args.p.y) (value f c.args.x) (value f c.args.y) (value f c.args.p.z)
    (value f c.minus-h.result) (value f c.minus-r.result) (value f c.plus-sum.result) (value f c.minus-h.result) (value f c.minus-h.result) left right
    (c.lacks_inverse.ensures.has c.if-lacks_inverse.false) (c.is_zero.ensures.0 c.if-not-is_zero.false)
    (value_below f c.minus-r.result f.above) (iff_false c.is_zero-2.ensures c.if-is_zero.false)
    (value_below f c.plus-sum.result f.above) (iff_false c.is_zero-3.ensures c.if-is_zero-2.false)
    c.minus-h.ensures.sum c.minus-r.ensures.sum c.plus-sum.ensures.sum meet
