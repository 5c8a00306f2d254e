use Rattle.std.proofs.Common.{◌*◌, ◌∙◌, refl}
use Rattle.ecdsa.specs.Field.{size, value}
use Rattle.ecdsa.proofs.Congruence.{Same, same_mul}
use Rattle.ecdsa.proofs.WindowSteps.{settled_at}
use Rattle.ecdsa.proofs.windows.settled.Goals as goal

pub returns-clause-stands : goal.returns-clause-stands
returns-clause-stands g c Z R one at =
    let f = c.args.f.now in
    let m = size f in
    let i = value f c.args.i in
    let x = value f c.args.x in
    let y = value f c.args.y in
    let ii : Same m (value f c.times-ii.result) (i * i) = c.times-ii.ensures.product in
    let iii : Same m (value f c.times-iii.result) (i * i * i) = c.times-iii.ensures.product ∙ same_mul m (value f c.times-ii.result) (i * i) i i ii refl in
    settled_at m f.above x y Z i (value f c.times-settled_x.result) (value f c.times-settled_y.result) 1 R one
    (c.times-settled_x.ensures.product ∙ same_mul m x x (value f c.times-ii.result) (i * i) refl ii)
    (c.times-settled_y.ensures.product ∙ same_mul m y y (value f c.times-iii.result) (i * i * i) refl iii)
    refl at
