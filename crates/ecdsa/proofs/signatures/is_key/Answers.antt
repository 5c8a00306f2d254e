use Rattle.std.proofs.Common.{◌+◌, ◌*◌, ◌%◌, ◌==◌, ◌∙◌}
use Rattle.std.proofs.Math.Path.{ap₂}
use Rattle.numbers.specs.Limbs.{number}
use Rattle.ecdsa.specs.Domains.{domain}
use Rattle.ecdsa.proofs.SignatureVerdicts.{not_less, key_first, key_second, key_third}
use Rattle.ecdsa.proofs.signatures.is_key.Goals as goal

pub returns-then-not-is_less-clause-is : goal.returns-then-not-is_less-clause-is
returns-then-not-is_less-clause-is g c =
    key_first (domain c.args.curve.now) (number c.args.x) (number c.args.y) (not_less c.is_less.result _ _ c.is_less.ensures c.if-not-is_less.true)

pub returns-then-not-is_less-2-clause-is : goal.returns-then-not-is_less-2-clause-is
returns-then-not-is_less-2-clause-is g c =
    key_second (domain c.args.curve.now) (number c.args.x) (number c.args.y) (c.is_less.ensures.0 c.if-not-is_less.false)
    (not_less c.is_less-2.result _ _ c.is_less-2.ensures c.if-not-is_less-2.true)

pub returns-clause-is : goal.returns-clause-is
returns-clause-is g c =
    let E = domain c.args.curve.now in
    c.is_on_curve.ensures
    ∙ ap₂ (λ x y. (y * y) % E.p == (x * x * x + E.a * x + E.b) % E.p) c.form-x_form.ensures.value c.form-y_form.ensures.value
    ∙ key_third E (number c.args.x) (number c.args.y) (c.is_less.ensures.0 c.if-not-is_less.false) (c.is_less-2.ensures.0 c.if-not-is_less-2.false)
