use Rattle.std.proofs.Common.{◌≡◌, ◌*◌, ◌%◌, ◌∙◌, refl}
use Rattle.ecdsa.specs.Domains.{domain}
use Rattle.ecdsa.specs.Field.{size, value}
use Rattle.ecdsa.proofs.Congruence.{same_mul}
use Rattle.ecdsa.proofs.Rules.{meets}
use Rattle.ecdsa.proofs.sums.add_two.Goals as goal

pub returns-clause-stands : goal.returns-clause-stands
returns-clause-stands g c left right first second =
    let f = c.args.curve.now.field in
    let p = c.args.p in
    let q = c.args.q in
    let m = size f in
    let zz1 = value f c.square-zz1.result in
    let zz2 = value f c.square-zz2.result in
    let zzz1 : value f c.times-zzz1.result % m ≡ (value f p.z * value f p.z * value f p.z) % m =
    c.times-zzz1.ensures.product ∙ same_mul m zz1 (value f p.z * value f p.z) (value f p.z) (value f p.z) c.square-zz1.ensures.product refl in
    let zzz2 : value f c.times-zzz2.result % m ≡ (value f q.z * value f q.z * value f q.z) % m =
    c.times-zzz2.ensures.product ∙ same_mul m zz2 (value f q.z * value f q.z) (value f q.z) (value f q.z) c.square-zz2.ensures.product refl in
    c.add_over.ensures.stands left right
    (meets (domain c.args.curve.now) f.above (value f p.x) (value f p.y) (value f p.z) (value f q.x) (value f q.y) (value f q.z)
    (value f c.times-u1.result) (value f c.times-s1.result) (value f c.times-u2.result) (value f c.times-s2.result) (value f c.times-z.result) left right
    (c.times-u1.ensures.product ∙ same_mul m (value f p.x) (value f p.x) zz2 (value f q.z * value f q.z) refl c.square-zz2.ensures.product)
    (c.times-s1.ensures.product ∙ same_mul m (value f p.y) (value f p.y) (value f c.times-zzz2.result) (value f q.z * value f q.z * value f q.z) refl zzz2)
    (c.times-u2.ensures.product ∙ same_mul m (value f q.x) (value f q.x) zz1 (value f p.z * value f p.z) refl c.square-zz1.ensures.product)
    (c.times-s2.ensures.product ∙ same_mul m (value f q.y) (value f q.y) (value f c.times-zzz1.result) (value f p.z * value f p.z * value f p.z) refl zzz1)
    c.times-z.ensures.product first second)
