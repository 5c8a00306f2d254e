use Rattle.std.proofs.Common.{◌≡◌, ◌*◌, ◌/◌, ◌^◌, Some}
use Rattle.std.specs.Prelude.{IfSome}
use Rattle.numbers.specs.Limbs.{number}
use Rattle.ecdsa.specs.Curve.{Point as CurvePoint, doubled, multiple}
use Rattle.ecdsa.specs.Domains.{domain}
use Rattle.ecdsa.specs.Field.{size, value}
use Rattle.ecdsa.specs.Stands.{IsBelow, AreFor, Stands}
use Rattle.ecdsa.proofs.multiples.multiple.Given as goal

abbrev pub invariant-digits : goal.invariant-digits
invariant-digits g l = record {
  below : IfSome l.sum (λ p. IsBelow l.curve.field p);
  point_below : IfSome l.point (λ p. IsBelow l.curve.field p);
  rest : number l.rest ≡ number l.fn.u / 16 ^ l._place;
  point : (P : CurvePoint) → AreFor (size l.curve.field) (value l.curve.field l.fn.p.x) (value l.curve.field l.fn.p.y) (value l.curve.field l.fn.p.z) (Some P) → Stands l.curve.field l.point (doubled (domain l.curve) (4 * l._place) P);
  stands : (P : CurvePoint) → AreFor (size l.curve.field) (value l.curve.field l.fn.p.x) (value l.curve.field l.fn.p.y) (value l.curve.field l.fn.p.z) (Some P) → Stands l.curve.field l.sum (multiple (domain l.curve) l._place (number l.fn.u) P);
}
