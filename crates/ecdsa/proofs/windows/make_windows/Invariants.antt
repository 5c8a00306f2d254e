use Rattle.std.proofs.Common.{◌≡◌, ◌≢◌, ◌-◌, ◌*◌, ◌/◌, ◌%◌, ◌<◌, ℕ, Some, [], get_or, length}
use Rattle.ecdsa.specs.Curve.{Point as CurvePoint, digit_multiple}
use Rattle.ecdsa.specs.Domains.{domain}
use Rattle.ecdsa.specs.Field.{size, value, Below, formed}
use Rattle.ecdsa.specs.Stands.{AreFor}
use Rattle.ecdsa.proofs.windows.make_windows.Given as goal

abbrev pub invariant-rows : goal.invariant-rows
invariant-rows g l = record {
  below : Below l.curve.field l.inverse;
  xs_long : length l.xs.items ≡ l.r;
  ys_long : length l.ys.items ≡ l.r;
  inverted : (value l.curve.field (get_or l.rough.products.items (l.count - l.r) []) * value l.curve.field l.inverse) % size l.curve.field ≡ 1;
  x : (k : ℕ) → k < l.r → Below l.curve.field (get_or l.xs.items k []);
  y : (k : ℕ) → k < l.r → Below l.curve.field (get_or l.ys.items k []);
  windows : (P : CurvePoint) → AreFor (size l.curve.field) (value l.curve.field l.fn.p.x) (value l.curve.field l.fn.p.y) (value l.curve.field l.fn.p.z) (Some P) → (k : ℕ) → k < l.r → (l.count - 1 - k) % 16 ≢ 0 → AreFor (size l.curve.field) (formed g.row.N (size l.curve.field) (get_or l.xs.items k [])) (formed g.row.N (size l.curve.field) (get_or l.ys.items k [])) 1 (digit_multiple (domain l.curve) (4 * ((l.count - 1 - k) / 16)) 4 ((l.count - 1 - k) % 16) P);
}
