-- Whether some element of a list passes, place by place.
use Rattle.std.proofs.Common.{◌≡◌, ℕ, zero, suc, ◌+◌, List, [], ◌∷◌, drop, slice_get, Bool, true, false, refl, add-one}
use Rattle.std.specs.List.{list_any}
use Rattle.std.specs.Option.{option_map_or}

pub some_here : {A : Type 0} (test : A → Bool) (xs : List A) (i : ℕ) → option_map_or test (slice_get xs i) false ≡ true → list_any test (drop i xs) ≡ true
some_here test [] zero h = absurd cc
some_here test [] (suc i) h = absurd cc
some_here test (x ∷ xs) zero h = rw h refl
some_here test (x ∷ xs) (suc i) h = some_here test xs i h

none_at : {A : Type 0} (test : A → Bool) (xs : List A) (i : ℕ) → option_map_or test (slice_get xs i) false ≡ false → list_any test (drop i xs) ≡ list_any test (drop (suc i) xs)
none_at test [] zero h = refl
none_at test [] (suc i) h = refl
none_at test (x ∷ xs) zero h = rw h refl
none_at test (x ∷ xs) (suc i) h = none_at test xs i h

pub none_here : {A : Type 0} (test : A → Bool) (xs : List A) (i : ℕ) → option_map_or test (slice_get xs i) false ≡ false → list_any test (drop i xs) ≡ list_any test (drop (i + 1) xs)
none_here test xs i h = rw add-one (none_at test xs i h)
