use Rattle.std.proofs.Common.{◌^◌}
use Rattle.numbers.specs.Limbs.{number}
use Rattle.ecdsa.specs.Domains.{domain}
use Rattle.ecdsa.specs.Field.{size, value}
use Rattle.ecdsa.proofs.SignatureVerdicts.{lacks_none, has_some, no_x, x_of}
use Rattle.ecdsa.proofs.signatures.finite_has_x.Goals as goal

pub returns-in-None : goal.returns-in-None
returns-in-None g c R at =
    let f = c.args.curve.now.field in
    let p = c.args.p in
    no_x (domain c.args.curve.now) (size f) (value f p.x) (value f p.y) (value f p.z) (number c.args.r) R (lacks_none (size f) (value f p.z) f.above c.in-None.ensures.value) at

pub returns-in-Some : goal.returns-in-Some
returns-in-Some g c R at =
    let f = c.args.curve.now.field in
    let p = c.args.p in
    let i = value f c.in-Some.i in
    x_of (domain c.args.curve.now) ((2 ^ 64) ^ g.row.N) (size f) (value f p.x) (value f p.y) (value f p.z) (number c.args.r) i (number c.affine_x-x.result) (number c.reduce-rest.result)
    c.is_same.result R f.above (has_some (size f) (value f p.z) i f.above c.in-Some.ensures.value) c.affine_x-x.ensures c.reduce-rest.ensures c.is_same.ensures at
