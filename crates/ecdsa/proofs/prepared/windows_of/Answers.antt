use Rattle.std.proofs.Common.{ap, sym, subst}
use Rattle.std.specs.Prelude.{IfSome}
use Rattle.std.specs.Int.Digits.{number_from_digits}
use Rattle.std.proofs.Math.Logic.{∥∥₁_map}
use Rattle.std.proofs.Math.Path.{ap₂}
use Rattle.ecdsa.specs.Curve.{Point.Affine}
use Rattle.ecdsa.specs.Curves.{curve_over}
use Rattle.ecdsa.specs.Windows.{AreBelow, AreWindows}
use Rattle.ecdsa.proofs.Lent.{lent, if_some}
use Rattle.ecdsa.proofs.prepared.windows_of.Goals as goal

pub returns-then-is_of-clause-below : goal.returns-then-is_of-clause-below
returns-then-is_of-clause-below g c =
    let key = c.key-item.result in
    lent (λ t. t.now) (λ t. AreBelow _ t.xs.items t.ys.items) c.windows_in.result key.windows c.windows_in.ensures
    (subst (λ E. IfSome key.windows (λ t. AreBelow E t.xs.items t.ys.items)) (sym c.requires)
    (if_some (λ t. AreBelow (curve_over g.row.N) t.xs.items t.ys.items) key.windows key.below))

pub returns-then-is_of-clause-are : goal.returns-then-is_of-clause-are
returns-then-is_of-clause-are g c =
    let key = c.key-item.result in
    ∥∥₁_map
    (subst (λ E. ∥ IfSome key.windows (λ t. AreWindows g.row.N E (Affine (number_from_digits 256 c.args.x.now) (number_from_digits 256 c.args.y.now)) t.xs.items t.ys.items) ∥₁) (sym c.requires)
    (subst (λ P. ∥ IfSome key.windows (λ t. AreWindows g.row.N (curve_over g.row.N) P t.xs.items t.ys.items) ∥₁)
    (ap₂ Affine (ap (number_from_digits 256) (c.is_of.ensures.x c.if-is_of.true)) (ap (number_from_digits 256) (c.is_of.ensures.y c.if-is_of.true)))
    key.are))
    (lent (λ t. t.now) (λ t. AreWindows g.row.N _ _ t.xs.items t.ys.items) c.windows_in.result key.windows c.windows_in.ensures)
