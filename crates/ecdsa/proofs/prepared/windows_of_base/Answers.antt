use Rattle.std.proofs.Common.{sym, subst}
use Rattle.ecdsa.specs.Curve.{Point.Affine}
use Rattle.ecdsa.specs.Windows.{AreWindows}
use Rattle.ecdsa.proofs.prepared.windows_of_base.Goals as goal

pub returns-in-Some-clause-are : goal.returns-in-Some-clause-are
returns-in-Some-clause-are g c =
    let windows = c.in-Some.base.windows in
    subst (λ E. ∥ AreWindows g.row.N E (Affine E.gx E.gy) windows.xs.items windows.ys.items ∥₁) (sym c.requires) c.in-Some.base.are
