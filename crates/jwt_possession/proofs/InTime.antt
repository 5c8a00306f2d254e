-- Moments of proofs as a memory counts them, beside those of a verdict.
use Rattle.std.proofs.Common.{◌≡◌, ℕ, ℤ, pos, negsuc, ◌+◌, ◌+ℤ◌, ◌≤ℤ◌, ◌≤◌, Option, Some, unwrap_or, arith}
use Rattle.std.proofs.lemmas.Int.{ints}
use Rattle.std.specs.Option.{option_map_or}
use Rattle.jwt_possession.specs.once.Accepted.{seconds}

aged : (now iat : ℤ) (age : ℕ) → now ≤ℤ (iat +ℤ pos age) → seconds now ≤ seconds iat + age
aged (pos n) (pos i) a h = grind (arith, ints, h)
aged (pos n) (negsuc i) a h = grind (arith, ints, h)
aged (negsuc n) iat a h = omega arith

pub in_time : (now iat : ℤ) (age leeway : ℕ) (its : Option ℤ) (most : Option ℕ) → its ≡ Some iat → most ≡ Some age → now ≤ℤ (iat +ℤ pos (age + leeway))
    → seconds now ≤ option_map_or seconds its 0 + (unwrap_or most 0 + leeway)
in_time now iat age leeway its most is has h = rw is (rw has (aged now iat (age + leeway) h))
