use Rattle.std.proofs.Common.{◌≡◌, ◌*◌, ◌%◌, ◌∙◌, refl}
use Rattle.ecdsa.specs.Domains.{domain}
use Rattle.ecdsa.specs.Field.{size, value}
use Rattle.ecdsa.proofs.Congruence.{same_mul}
use Rattle.ecdsa.proofs.Rules.{meets_affine}
use Rattle.ecdsa.proofs.sums.add_two_affine.Goals as goal

pub returns-clause-stands : goal.returns-clause-stands
returns-clause-stands g c left right first second =
    let f = c.args.curve.now.field in
    let p = c.args.p in
    let q = c.args.q in
    let m = size f in
    let zzz : value f c.times-zzz.result % m ≡ (value f p.z * value f p.z * value f p.z) % m =
    c.times-zzz.ensures.product ∙ same_mul m (value f c.square-zz.result) (value f p.z * value f p.z) (value f p.z) (value f p.z) c.square-zz.ensures.product refl in
    c.add_over.ensures.stands left right
    (meets_affine (domain c.args.curve.now) f.above (value f p.x) (value f p.y) (value f p.z) (value f q.x) (value f q.y) (value f q.z)
    (value f c.times-u2.result) (value f c.times-s2.result) left right c.requires.one
    (c.times-u2.ensures.product ∙ same_mul m (value f q.x) (value f q.x) (value f c.square-zz.result) (value f p.z * value f p.z) refl c.square-zz.ensures.product)
    (c.times-s2.ensures.product ∙ same_mul m (value f q.y) (value f q.y) (value f c.times-zzz.result) (value f p.z * value f p.z * value f p.z) refl zzz)
    first second)
