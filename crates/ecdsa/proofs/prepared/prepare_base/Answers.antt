use Rattle.std.proofs.Common.{ap, subst}
use Rattle.std.specs.Prelude.{IfSome}
use Rattle.std.proofs.lemmas.Grind.{merely}
use Rattle.std.proofs.Math.Path.{ap₂}
use Rattle.ecdsa.specs.Curve.{Point.Affine}
use Rattle.ecdsa.specs.Domains.{domain}
use Rattle.ecdsa.specs.Field.{value}
use Rattle.ecdsa.specs.Windows.{AreBelow, AreWindows}
use Rattle.ecdsa.proofs.prepared.prepare_base.Goals as goal

pub invariant_of-result-clause-are : goal.invariant_of-result-clause-are
invariant_of-result-clause-are g c =
    let f = c.args.curve.now.field in
    let E = domain c.args.curve.now in
    let P = Affine (value f c.gx_form-gx.result) (value f c.gy_form-gy.result) in
    let xs = c.in-Some.windows.xs.items in
    let ys = c.in-Some.windows.ys.items in
    merely
    (subst (λ E. AreWindows g.row.N E (Affine E.gx E.gy) xs ys) c.requires
    (subst (λ P. AreWindows g.row.N E P xs ys) (ap₂ Affine (ap (value f) c.gx_form-gx.ensures.is) (ap (value f) c.gy_form-gy.ensures.is))
    (subst (λ o. IfSome o (λ t. AreWindows g.row.N E P t.xs.items t.ys.items)) c.in-Some.is (c.in_ok-windows.ensures.windows P c.affine-base.ensures.stands))))

pub invariant_of-result-clause-below : goal.invariant_of-result-clause-below
invariant_of-result-clause-below g c =
    let E = domain c.args.curve.now in
    subst (λ E. AreBelow E c.in-Some.windows.xs.items c.in-Some.windows.ys.items) c.requires
    (subst (λ o. IfSome o (λ t. AreBelow E t.xs.items t.ys.items)) c.in-Some.is c.in_ok-windows.ensures.below)
