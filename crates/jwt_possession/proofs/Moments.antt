-- Moments as the memory counts them, beside those of a verdict.
use Rattle.std.proofs.Common.{◌≡◌, ℕ, ℤ, pos, negsuc, ◌+◌, ◌+ℤ◌, ◌-ℤ◌, ◌<ℤ◌, ◌≤ℤ◌, ◌≤◌, Option, Some, None, T, false, not, refl, sym, subst, arith}
use Rattle.std.proofs.lemmas.Int.{ints}
use Rattle.std.specs.Int.Signed.{lt_z_no}
use Rattle.std.specs.Option.{option_map_or}
use Rattle.jwt_policy.specs.Texts.{some_passes}
use Rattle.jwt_policy.specs.Checks.{is_later}
use Rattle.jwt_possession.specs.once.Accepted.{seconds}

pub in_time : (now exp : ℤ) (leeway : ℕ) → now <ℤ (exp +ℤ pos leeway) → seconds now ≤ seconds exp + leeway
in_time (pos n) (pos e) l h = grind (arith, ints, h)
in_time (pos n) (negsuc e) l h = grind (arith, ints, h)
in_time (negsuc n) exp l h = omega arith

pub issued_by : (iat accepted : ℤ) (leeway : ℕ) → iat ≤ℤ (accepted +ℤ pos leeway) → seconds (iat -ℤ pos leeway) ≤ seconds accepted
issued_by (pos i) (pos a) l h = grind (arith, ints, h)
issued_by (pos i) (negsuc a) l h = grind (arith, ints, h)
issued_by (negsuc i) (pos a) l h = grind (arith, ints, h)
issued_by (negsuc i) (negsuc a) l h = grind (arith, ints, h)

pub issued_before : (iat : Option ℤ) (accepted : ℤ) (leeway : ℕ) → ((it : ℤ) → iat ≡ Some it → it ≤ℤ (accepted +ℤ pos leeway))
    → option_map_or (λ it. seconds (it -ℤ pos leeway)) iat 0 ≤ seconds accepted
issued_before None accepted leeway h = omega arith
issued_before (Some it) accepted leeway h = issued_by it accepted leeway (h it refl)

pub not_ahead : (accepted : ℤ) (leeway : ℕ) (its : Option ℤ) (iat : ℤ) → some_passes (is_later accepted leeway) its ≡ false → its ≡ Some iat
    → iat ≤ℤ (accepted +ℤ pos leeway)
not_ahead accepted leeway its iat ahead there =
    lt_z_no (subst (λ b. T (not b)) (sym (subst (λ o. some_passes (is_later accepted leeway) o ≡ false) there ahead)) tt)
