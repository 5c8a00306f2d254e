use Rattle.std.proofs.Common.{◌*◌, ◌/◌, ◌%◌, [], get_or, ap, sym, subst, ◌∙◌}
use Rattle.ecdsa.specs.Curve.{digit_multiple}
use Rattle.ecdsa.specs.Domains.{domain}
use Rattle.ecdsa.specs.Field.{size, value, Below, formed}
use Rattle.ecdsa.specs.Stands.{AreFor}
use Rattle.ecdsa.proofs.WindowSteps.{known, as_value}
use Rattle.ecdsa.proofs.windows.window_at.Goals as goal

pub returns-clause-below : goal.returns-clause-below
returns-clause-below g c =
    let f = c.args.curve.now.field in
    let k = c.args.k in
    let x_is = c.at-x.ensures ∙ ap (λ l. get_or l k []) c.as_slice.ensures.value in
    let y_is = c.at-y.ensures ∙ ap (λ l. get_or l k []) c.as_slice-2.ensures.value in
    record {
      x = subst (λ v. Below f v) (sym x_is) (known f _ (c.requires.rows.x k c.requires.k));
      y = subst (λ v. Below f v) (sym y_is) (known f _ (c.requires.rows.y k c.requires.k));
      z = c.requires.below;
    }

pub returns-clause-stands : goal.returns-clause-stands
returns-clause-stands g c P are some =
    let f = c.args.curve.now.field in
    let m = size f in
    let k = c.args.k in
    let xs = c.args.windows.now.xs.items in
    let ys = c.args.windows.now.ys.items in
    let R = digit_multiple (domain c.args.curve.now) (4 * (k / 16)) 4 (k % 16) P in
    let x_is = c.at-x.ensures ∙ ap (λ l. get_or l k []) c.as_slice.ensures.value in
    let y_is = c.at-y.ensures ∙ ap (λ l. get_or l k []) c.as_slice-2.ensures.value in
    subst (λ a. AreFor m a (value f c.at-y.result) (value f c.args.one) R) (sym (ap (λ a. value f a) x_is ∙ as_value f (get_or xs k [])))
    (subst (λ b. AreFor m (formed g.row.N m (get_or xs k [])) b (value f c.args.one) R) (sym (ap (λ a. value f a) y_is ∙ as_value f (get_or ys k [])))
    (subst (λ z. AreFor m (formed g.row.N m (get_or xs k [])) (formed g.row.N m (get_or ys k [])) z R) (sym c.requires.one) (are k c.requires.k some)))
