use Rattle.ecdsa.specs.Field.{value}
use Rattle.ecdsa.proofs.FieldValues.{lacks_from, has_from}
use Rattle.ecdsa.proofs.sums.lacks_inverse.Goals as goal

pub returns-clause-lacks : goal.returns-clause-lacks
returns-clause-lacks g c =
    let f = c.args.f.now in
    lacks_from f c.inverse.result c.is_none.result (value f c.args.z) f.above c.is_none.ensures c.inverse.ensures.value

pub returns-clause-has : goal.returns-clause-has
returns-clause-has g c =
    let f = c.args.f.now in
    has_from f c.inverse.result c.is_none.result (value f c.args.z) f.above c.is_none.ensures c.inverse.ensures.value
