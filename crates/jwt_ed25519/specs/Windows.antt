-- Tables of a point's windows: for each hexadecimal digit of a scalar, and each of its values, what the digit adds to the multiple.
use Rattle.std.specs.Prelude.{ℕ, ◌≡◌, ◌*◌, ◌/◌, ◌%◌, ◌<◌, List, get_or, Option, None}
use Rattle.jwt_ed25519.specs.declared.point.EdwardsPoint.{EdwardsPoint}
use Rattle.jwt_ed25519.specs.Elements.{summed}
use Rattle.jwt_ed25519.specs.Points.{Coordinates, digit_multiple}

-- the first windows of P, so many, sixteen for each digit
abbrev pub AreWindows : ℕ → Coordinates → List (Option EdwardsPoint) → Type 0
AreWindows count P table = (k : ℕ) → k < count → summed (get_or table k None) ≡ digit_multiple (4 * (k / 16)) 4 (k % 16) P
