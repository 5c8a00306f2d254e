use Rattle.std.proofs.Common.{◌≡◌, ℕ, ◌+◌, ◌/◌, ◌^◌}
use Rattle.std.specs.Prelude.{IfSome}
use Rattle.ecdsa.specs.Curve.{Point as CurvePoint, doubled, digit_multiple}
use Rattle.ecdsa.specs.Domains.{domain}
use Rattle.ecdsa.specs.Stands.{IsBelow, Stands}
use Rattle.ecdsa.proofs.multiples.step.Given as goal

abbrev pub invariant-bits : goal.invariant-bits
invariant-bits g l = record {
  sum_below : IfSome l.sum (λ p. IsBelow l.curve.field p);
  next_below : IfSome l.next (λ p. IsBelow l.curve.field p);
  rest : l.rest ≡ l.fn.digit / 2 ^ l._bit;
  sum : (P : CurvePoint) (times : ℕ) → Stands l.curve.field l.fn.p (doubled (domain l.curve) times P) → Stands l.curve.field l.sum (digit_multiple (domain l.curve) times l._bit l.fn.digit P);
  next : (P : CurvePoint) (times : ℕ) → Stands l.curve.field l.fn.p (doubled (domain l.curve) times P) → Stands l.curve.field l.next (doubled (domain l.curve) (times + l._bit) P);
}
