-- The numbers of the elements with a property.
use Rattle.std.specs.Prelude.{◌≡◌, ℕ, ◌+◌, ◌<◌, ◌≤◌, Bool, true, false, List, [], ◌∷◌, Option, Some, None, if◌then◌else◌, slice_get, min}
use Rattle.std.specs.Option.{option_map_or}

-- the numbers of the elements that pass, ascending, where the first element has number n
abbrev pub numbers : {X : Type 0} → (X → Bool) → ℕ → List X → List ℕ
numbers p n [] = []
numbers p n (x ∷ xs) = if p x then n ∷ numbers p (n + 1) xs else numbers p (n + 1) xs

-- the element with number i passes
abbrev pub PassesAt : {X : Type 0} → (X → Bool) → List X → ℕ → Type 0
PassesAt p xs i = option_map_or p (slice_get xs i) false ≡ true

-- the least number at or after from whose element passes, none where there is none
abbrev pub IsLeastFrom : {X : Type 0} → (X → Bool) → List X → ℕ → Option ℕ → Type 0
IsLeastFrom p xs from None = (i : ℕ) → from ≤ i → PassesAt p xs i → ⊥
IsLeastFrom p xs from (Some j) = (from ≤ j) × PassesAt p xs j × ((i : ℕ) → from ≤ i → i < j → PassesAt p xs i → ⊥)

-- ---- Cited by contracts of private functions alone

-- the earlier of two numbers, where there are any
abbrev pub earlier : Option ℕ → Option ℕ → Option ℕ
earlier None b = b
earlier (Some a) None = Some a
earlier (Some a) (Some b) = Some (min a b)
