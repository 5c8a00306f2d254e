use Rattle.ecdsa.specs.Field.{size, value}
use Rattle.ecdsa.proofs.FieldValues.{value_below}
use Rattle.ecdsa.proofs.SignatureVerdicts.{affine_at}
use Rattle.ecdsa.proofs.signatures.affine.Goals as goal

pub returns-clause-stands : goal.returns-clause-stands
returns-clause-stands g c =
    let f = c.args.f.now in
    affine_at (size f) (value f c.args.x) (value f c.args.y) (value f c.one-z.result) f.above (value_below f c.args.x f.above) (value_below f c.args.y f.above) c.one-z.ensures.one
