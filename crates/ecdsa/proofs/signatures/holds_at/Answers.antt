use Rattle.std.proofs.Common.{Some, ap, subst, ◌∙◌}
use Rattle.std.proofs.Math.Path.{ap₂}
use Rattle.numbers.specs.Limbs.{number}
use Rattle.ecdsa.specs.Curve.{Point.Affine, sum_of, multiple, has_x}
use Rattle.ecdsa.specs.Domains.{domain}
use Rattle.ecdsa.specs.Field.{size, value}
use Rattle.ecdsa.specs.Stands.{AreFor}
use Rattle.ecdsa.proofs.signatures.holds_at.Goals as goal

pub returns : goal.returns
returns g c base own =
    let f = c.args.curve.now.field in
    let E = domain c.args.curve.now in
    let G = Affine E.gx E.gy in
    let key = c.affine-key.result in
    let Q = Affine (number c.args.claimed.now.x) (number c.args.claimed.now.y) in
    let u = number c.scaled-u.result in
    let v = number c.scaled-v.result in
    let at : AreFor (size f) (value f key.x) (value f key.y) (value f key.z) (Some Q) =
    subst (λ P. AreFor (size f) (value f key.x) (value f key.y) (value f key.z) (Some P)) (ap₂ Affine c.form-x_form.ensures.value c.form-y_form.ensures.value) c.affine-key.ensures.stands in
    c.has_x.ensures (sum_of E (multiple E E.digits u G) (multiple E E.digits v Q))
    (c.add-sum.ensures.stands (multiple E E.digits u G) (multiple E E.digits v Q) (c.multiple_of_base-first.ensures.stands base) (c.multiple_of_key-second.ensures.stands Q own at))
    ∙ ap (has_x E (number c.args.claimed.now.r))
    (ap₂ (sum_of E) (ap (λ k. multiple E E.digits k G) c.scaled-u.ensures.product) (ap (λ k. multiple E E.digits k Q) c.scaled-v.ensures.product))
