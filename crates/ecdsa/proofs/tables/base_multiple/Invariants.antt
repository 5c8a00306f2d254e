use Rattle.std.proofs.Common.{◌≡◌, ◌/◌, ◌^◌}
use Rattle.std.specs.Prelude.{IfSome}
use Rattle.numbers.specs.Limbs.{number}
use Rattle.ecdsa.specs.Curve.{Point.Affine, multiple}
use Rattle.ecdsa.specs.Domains.{domain}
use Rattle.ecdsa.specs.Stands.{IsBelow, Stands}
use Rattle.ecdsa.proofs.tables.base_multiple.Given as goal

abbrev pub invariant-digits : goal.invariant-digits
invariant-digits g l = record {
  below : IfSome l.sum (λ p. IsBelow l.curve.field p);
  rest : number l.rest ≡ number l.fn.u / 16 ^ l.place;
  stands : Stands l.curve.field l.sum (multiple (domain l.curve) l.place (number l.fn.u) (Affine (domain l.curve).gx (domain l.curve).gy));
}
