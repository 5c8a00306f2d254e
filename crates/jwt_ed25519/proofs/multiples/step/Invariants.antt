use Rattle.std.proofs.Common.{◌≡◌, ℕ, ◌+◌, ◌/◌, ◌^◌}
use Rattle.jwt_ed25519.specs.Elements.{coordinates, summed}
use Rattle.jwt_ed25519.specs.Points.{Coordinates, doubled, digit_multiple}
use Rattle.jwt_ed25519.proofs.multiples.step.Given as goal

abbrev pub invariant-bits : goal.invariant-bits
invariant-bits l = record {
  rest : l.rest ≡ l.fn.digit / 2 ^ l._bit;
  sum : (P : Coordinates) (times : ℕ) → coordinates l.fn.p ≡ doubled times P → summed l.sum ≡ digit_multiple times l._bit l.fn.digit P;
  next : (P : Coordinates) (times : ℕ) → coordinates l.fn.p ≡ doubled times P → coordinates l.next ≡ doubled (times + l._bit) P;
}
