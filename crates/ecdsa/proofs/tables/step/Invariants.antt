use Rattle.std.proofs.Common.{◌≡◌, ◌≤◌, ◌*◌, ◌/◌, ◌^◌}
use Rattle.std.specs.Prelude.{IfSome}
use Rattle.ecdsa.specs.Curve.{Point.Affine, digit_multiple}
use Rattle.ecdsa.specs.Domains.{domain}
use Rattle.ecdsa.specs.Stands.{IsBelow, Stands}
use Rattle.ecdsa.proofs.tables.step.Given as goal

abbrev pub invariant-bits : goal.invariant-bits
invariant-bits g l = record {
  below : IfSome l.sum (λ p. IsBelow l.curve.field p);
  within : l.bit ≤ 4;
  rest : l.rest ≡ l.fn.digit.value / 2 ^ l.bit;
  stands : Stands l.curve.field l.sum (digit_multiple (domain l.curve) (4 * l.digit.place) l.bit l.fn.digit.value (Affine (domain l.curve).gx (domain l.curve).gy));
}
