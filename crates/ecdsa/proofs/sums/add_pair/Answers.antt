use Rattle.std.proofs.Common.{◌≡◌, ◌*◌, ◌%◌, ap, arith}
use Rattle.ecdsa.specs.Domains.{domain}
use Rattle.ecdsa.specs.Field.{size, value}
use Rattle.ecdsa.proofs.Rules.{meets_affine}
use Rattle.ecdsa.proofs.sums.add_pair.Goals as goal

pub returns-clause-stands : goal.returns-clause-stands
returns-clause-stands g c left right first second =
    let f = c.args.curve.now.field in
    let p = c.args.p in
    let q = c.args.q in
    let m = size f in
    let x = value f q.x in
    let y = value f q.y in
    let z = value f p.z in
    let x_whole : x ≡ x * (z * z) = omega (arith, ap (λ k. x * (k * k)) c.requires.one) in
    let y_whole : y ≡ y * (z * z * z) = omega (arith, ap (λ k. y * (k * k * k)) c.requires.one) in
    c.add_over.ensures.stands left right
    (meets_affine (domain c.args.curve.now) f.above (value f p.x) (value f p.y) z x y (value f q.z) x y left right c.requires.one_too
    (ap (λ k. k % m) x_whole) (ap (λ k. k % m) y_whole) first second)
