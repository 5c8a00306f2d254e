-- A list, element by element: whether one of its elements passes.
use Rattle.std.proofs.Common.{◌≡◌, ℕ, suc, zero, ◌+◌, ◌<◌, ◌||◌, Bool, true, false, List, [], ◌∷◌, length, drop, add-one, arith, slice_get, sym, ◌∙◌, refl}
use Rattle.std.specs.List.{list_any}
use Rattle.std.specs.Option.{option_map_or}

-- the element of this number passes
abbrev passes_at : {X : Type 0} → (X → Bool) → List X → ℕ → Bool
passes_at p xs n = option_map_or p (slice_get xs n) false

some_here : {X : Type 0} (p : X → Bool) (xs : List X) (n : ℕ) → n < length xs → list_any p (drop n xs) ≡ (passes_at p xs n || list_any p (drop (suc n) xs))
some_here p [] n within = absurd (omega arith)
some_here p (x ∷ xs) zero within = refl
some_here p (x ∷ xs) (suc n) within = some_here p xs n (omega arith)

some_more : {X : Type 0} (p : X → Bool) (xs : List X) (n : ℕ) → n < length xs → list_any p (drop n xs) ≡ (passes_at p xs n || list_any p (drop (n + 1) xs))
some_more p xs n within = rw add-one (some_here p xs n within)

pub some_yes : {X : Type 0} (p : X → Bool) (xs : List X) (n : ℕ) (all : Bool) → n < length xs → passes_at p xs n ≡ true →
    list_any p (drop n xs) ≡ all → true ≡ all
some_yes p xs n all within passes is = sym (rw passes at (some_more p xs n within)) ∙ is

pub some_no : {X : Type 0} (p : X → Bool) (xs : List X) (n : ℕ) (all : Bool) → n < length xs → passes_at p xs n ≡ false →
    list_any p (drop n xs) ≡ all → list_any p (drop (n + 1) xs) ≡ all
some_no p xs n all within fails is = sym (rw fails at (some_more p xs n within)) ∙ is
