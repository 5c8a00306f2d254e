use Rattle.std.proofs.Common.{◌^◌, ap, ◌∙◌}
use Rattle.ecdsa.specs.Inverse.{inverse}
use Rattle.numbers.specs.Limbs.{number}
use Rattle.ecdsa.specs.Curve.{holds_by}
use Rattle.ecdsa.specs.Domains.{domain}
use Rattle.ecdsa.specs.Field.{value}
use Rattle.ecdsa.proofs.SignatureVerdicts.{holds_by_reduced}
use Rattle.ecdsa.proofs.signatures.holds_with.Goals as goal

pub returns-in-Some : goal.returns-in-Some
returns-in-Some g c base own =
    let E = domain c.args.curve.now in
    let w = value c.args.curve.now.order c.in-Some.w in
    c.holds_at.ensures base own
    ∙ holds_by_reduced E ((2 ^ 64) ^ g.row.N) (number c.args.claimed.now.x) (number c.args.claimed.now.y) (number c.args.claimed.now.e) (number c.reduce-rest.result) (number c.args.claimed.now.r) w c.reduce-rest.ensures
    ∙ ap (holds_by E (number c.args.claimed.now.x) (number c.args.claimed.now.y) (number c.args.claimed.now.e) (number c.args.claimed.now.r)) (c.in-Some.ensures.value ∙ ap (inverse E.n) c.form-form.ensures.value)
