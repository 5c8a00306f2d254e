use Rattle.std.proofs.Common.{ap, sym, subst, ◌∙◌}
use Rattle.std.specs.Prelude.{IfSome}
use Rattle.std.specs.Int.Digits.{number_from_digits}
use Rattle.std.proofs.lemmas.Grind.{merely}
use Rattle.std.proofs.Math.Path.{ap₂}
use Rattle.ecdsa.specs.Curve.{Point.Affine}
use Rattle.ecdsa.specs.Curves.{curve_over}
use Rattle.ecdsa.specs.Domains.{domain}
use Rattle.ecdsa.specs.Field.{value}
use Rattle.ecdsa.specs.Windows.{AreBelow, AreWindows}
use Rattle.ecdsa.proofs.Lent.{for_some}
use Rattle.ecdsa.proofs.prepared.prepare_key.Goals as goal

pub invariant_of-result-clause-are : goal.invariant_of-result-clause-are
invariant_of-result-clause-are g c =
    let f = c.args.curve.now.field in
    let E = domain c.args.curve.now in
    let P = Affine (value f c.form-x_form.result) (value f c.form-y_form.result) in
    let x_is = c.form-x_form.ensures.value ∙ c.from_octets-key_x.ensures.is ∙ ap (number_from_digits 256) (sym c.in_ok-x_copy.ensures) in
    let y_is = c.form-y_form.ensures.value ∙ c.from_octets-key_y.ensures.is ∙ ap (number_from_digits 256) (sym c.in_ok-y_copy.ensures) in
    merely
    (subst (λ E. IfSome c.in_ok-windows.windows (λ t. AreWindows g.row.N E (Affine (number_from_digits 256 c.in_ok-x_copy.x_copy.items) (number_from_digits 256 c.in_ok-y_copy.y_copy.items)) t.xs.items t.ys.items)) c.requires.known
    (subst (λ P. IfSome c.in_ok-windows.windows (λ t. AreWindows g.row.N E P t.xs.items t.ys.items)) (ap₂ Affine x_is y_is)
    (c.in_ok-windows.ensures.windows P c.affine-key.ensures.stands)))

pub invariant_of-result-clause-below : goal.invariant_of-result-clause-below
invariant_of-result-clause-below g c =
    for_some (λ t. AreBelow (curve_over g.row.N) t.xs.items t.ys.items) c.in_ok-windows.windows
    (subst (λ E. IfSome c.in_ok-windows.windows (λ t. AreBelow E t.xs.items t.ys.items)) c.requires.known c.in_ok-windows.ensures.below)
