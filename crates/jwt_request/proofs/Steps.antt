-- One step over a list.
use Rattle.std.proofs.Common.{◌≡◌, ◌<◌, ◌+◌, ◌*◌, ◌&&◌, ◌||◌, ◌==◌, ℕ, List, [], ◌∷◌, Bool, true, false, cond, not, length, drop, take, min, slice_index, arith, refl, sym, subst, suc, ap, ◌∙◌}
use Rattle.std.proofs.lemmas.List.{at_drop_more, take_more}
use Rattle.std.proofs.lemmas.Int.Digits.{digits_value_push}
use Rattle.std.specs.List.{prefix_len, list_all}
use Rattle.std.specs.Char.{digit_value, is_ascii_hexdigit}
use Rattle.std.specs.Str.Parse.{digits_value}
use Rattle.jwt_request.specs.urls.Urls.{are_escapes}
use Rattle.jwt_request.specs.urls.References.{has_dots_behind, is_dots}

pub escapes_step : (octets : List ℕ) (i : ℕ) → i < length octets
    → are_escapes (drop i octets) ≡ ((not (slice_index octets i == 37) || (is_ascii_hexdigit (slice_index (drop (i + 1) octets) 0) && is_ascii_hexdigit (slice_index (drop (i + 1) octets) 1))) && are_escapes (drop (i + 1) octets))
escapes_step octets i within = at_drop_more are_escapes octets i 0 within

-- a value that is capped stays capped after one more digit
capped : (value digit : ℕ) → min (min value 65536 * 10 + digit) 65536 ≡ min (value * 10 + digit) 65536
capped value digit = omega arith

pub number_step : (digits : List ℕ) (i : ℕ) → i < length digits
    → min (min (digits_value 10 (take i digits)) 65536 * 10 + digit_value (slice_index digits i)) 65536 ≡ min (digits_value 10 (take (i + 1) digits)) 65536
number_step digits i within =
    let more = ap (digits_value 10) (take_more digits i 0 within) ∙ digits_value_push 10 (take i digits) (slice_index digits i) in
    rw more (capped (digits_value 10 (take i digits)) (digit_value (slice_index digits i)))

-- what passes at the front passes
passes_step : (b : Bool) (p : ℕ → Bool) (c : ℕ) (rest : List ℕ) → p c ≡ b → list_all p (take (prefix_len p rest) rest) ≡ true
    → list_all p (take (cond b (1 + prefix_len p rest) 0) (c ∷ rest)) ≡ true
passes_step true p c rest is more =
    let both : list_all p (c ∷ take (prefix_len p rest) rest) ≡ true = subst (λ b. (b && list_all p (take (prefix_len p rest) rest)) ≡ true) (sym is) more in
    let one : 1 + prefix_len p rest ≡ suc (prefix_len p rest) = omega arith in
    let kept : take (1 + prefix_len p rest) (c ∷ rest) ≡ c ∷ take (prefix_len p rest) rest = rw one refl in
    subst (λ xs. list_all p xs ≡ true) (sym kept) both
passes_step false p c rest is more = refl

pub run_passes : (p : ℕ → Bool) (octets : List ℕ) → list_all p (take (prefix_len p octets) octets) ≡ true
run_passes p [] = refl
run_passes p (c ∷ rest) = passes_step (p c) p c rest refl (run_passes p rest)

pub dots_step : (path : List ℕ) (i : ℕ) → i < length path
    → has_dots_behind (drop i path) ≡ (((slice_index path i == 47) && is_dots (drop (i + 1) path)) || has_dots_behind (drop (i + 1) path))
dots_step path i within = at_drop_more has_dots_behind path i 0 within
