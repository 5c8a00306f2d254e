-- The first place of an octet, and texts that are shorter than another.
use Rattle.std.proofs.Common.{◌≡◌, ℕ, ◌+◌, ◌<◌, ◌≤◌, Bool, true, false, cond, not, ltb, List, [], ◌∷◌, length, take, map, Some, None, refl, sym, ap, arith}
use Rattle.std.specs.Prelude.{position}
use Rattle.std.specs.List.{position_or_len}
use Rattle.std.specs.Str.{str_eq_ignore_ascii_case}
use Rattle.std.specs.Char.{to_ascii_lowercase}
use Rattle.std.proofs.lemmas.List.{length-take, length-map}
use Rattle.std.proofs.lemmas.Option.{cond_some}
use Rattle.std.proofs.lemmas.Bool.{ltb-false}
use Rattle.std.proofs.lemmas.Slice.Eq.{bytes_eq-Decides}

-- ---- the first that passes

pub place_is : (p : ℕ → Bool) (xs : List ℕ) (i : ℕ) → Some i ≡ position p xs → i ≡ position_or_len p xs
place_is p xs i e = sym (cond_some (ltb (position_or_len p xs) (length xs)) (position_or_len p xs) i (sym e)).1

pub place_within : (p : ℕ → Bool) (xs : List ℕ) → position_or_len p xs ≤ length xs
place_within p [] = omega arith
place_within p (x ∷ xs) = by (p x) (place_within p xs)
  where
    by : (b : Bool) → position_or_len p xs ≤ length xs → cond (not b) (1 + position_or_len p xs) 0 ≤ length (x ∷ xs)
    by true less = omega arith
    by false less = omega (arith, less)

was_none : (b : Bool) (x : ℕ) → None ≡ cond b (Some x) None → b ≡ false
was_none true x e = absurd cc
was_none false x e = refl

pub place_is_end : (p : ℕ → Bool) (xs : List ℕ) → None ≡ position p xs → length xs ≡ position_or_len p xs
place_is_end p xs e =
    let past : length xs ≤ position_or_len p xs = ltb-false _ _ (was_none (ltb (position_or_len p xs) (length xs)) (position_or_len p xs) e) in
    omega (arith, past, place_within p xs)

-- ---- a shorter text is another

refused : (b : Bool) → ¬ (b ≡ true) → b ≡ false
refused true h = absurd (h refl)
refused false h = refl

length_take : (n : ℕ) (xs : List ℕ) → length (take n xs) ≤ length xs
length_take n xs = omega (arith, length-take n xs)

pub shorter : (text scheme : List ℕ) → length text < length scheme → str_eq_ignore_ascii_case (take (length scheme) text) scheme ≡ false
shorter text scheme less = refused _ (λ same.
    let one = ap length ((bytes_eq-Decides (map to_ascii_lowercase (take (length scheme) text)) (map to_ascii_lowercase scheme)).0 same) in
    absurd (omega (arith, less, one, length-map (take (length scheme) text) to_ascii_lowercase, length-map scheme to_ascii_lowercase, length_take (length scheme) text)))
