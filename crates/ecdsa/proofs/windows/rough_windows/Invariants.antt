use Rattle.std.proofs.Common.{◌≡◌, Some, [], get_or}
use Rattle.std.specs.Prelude.{IfSome}
use Rattle.ecdsa.specs.Curve.{Point as CurvePoint, doubled}
use Rattle.ecdsa.specs.Domains.{domain}
use Rattle.ecdsa.specs.Field.{size, value, Below}
use Rattle.ecdsa.specs.Stands.{IsBelow, AreFor, Stands}
use Rattle.numbers.specs.Digits.{doublings}
use Rattle.ecdsa.specs.Windows.{AreRows, AreRough, IsChained}
use Rattle.ecdsa.proofs.windows.rough_windows.Given as goal

abbrev pub invariant-rows : goal.invariant-rows
invariant-rows g l = record {
  double_below : IfSome l.double (λ p. IsBelow l.curve.field p);
  product_below : Below l.curve.field l.product;
  rows : AreRows l.curve.field l.k l.xs.items l.ys.items l.zs.items;
  chained : IsChained l.curve.field l.k l.zs.items l.products.items;
  last : get_or l.products.items l.k [] ≡ l.product;
  stands : (P : CurvePoint) → AreFor (size l.curve.field) (value l.curve.field l.fn.p.x) (value l.curve.field l.fn.p.y) (value l.curve.field l.fn.p.z) (Some P) → Stands l.curve.field l.double (doubled (domain l.curve) (doublings l.k) P);
  rough : (P : CurvePoint) → AreFor (size l.curve.field) (value l.curve.field l.fn.p.x) (value l.curve.field l.fn.p.y) (value l.curve.field l.fn.p.z) (Some P) → AreRough l.curve.field (domain l.curve) P l.k l.xs.items l.ys.items l.zs.items;
}
