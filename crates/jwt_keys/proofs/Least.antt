-- The least number, by a plain search and by a list of numbers.
use Rattle.std.proofs.Common.{◌≡◌, ℕ, zero, suc, ◌+◌, ◌<◌, ◌≤◌, ◌&&◌, ◌||◌, Bool, true, false, cond, leb, List, [], ◌∷◌, length, Option, Some, None, refl, subst, arith, ◌⊎◌, inl, inr}
use Rattle.std.specs.Prelude.{find, slice_get, min}
use Rattle.std.specs.Option.{option_map_or}
use Rattle.std.proofs.lemmas.Bool.{cases_lt, leb-true, leb-false}
use Rattle.jwt_keys.specs.Numbers.{numbers, PassesAt, IsLeastFrom, earlier}

abbrev least_from : {X : Type 0} → (X → Bool) → ℕ → ℕ → List X → Option ℕ
least_from p from n [] = None
least_from p from n (x ∷ xs) = cond (leb from n && p x) (Some n) (least_from p from (n + 1) xs)

find_numbers : {X : Type 0} (p : X → Bool) (from n : ℕ) (xs : List X) → find (λ j. leb from j) (numbers p n xs) ≡ least_from p from n xs
find_numbers p from n [] = refl
find_numbers p from n (x ∷ xs) =
    let more = find_numbers p from (n + 1) xs in
    elim (p x) as (λ b. find (λ j. leb from j) (cond b (n ∷ numbers p (n + 1) xs) (numbers p (n + 1) xs)) ≡ cond (leb from n && b) (Some n) (least_from p from (n + 1) xs)) [
      | true ↦ elim (leb from n) as (λ d. cond d (Some n) (find (λ j. leb from j) (numbers p (n + 1) xs)) ≡ cond (d && true) (Some n) (least_from p from (n + 1) xs)) [ true ↦ refl | false ↦ more ]
      | false ↦ elim (leb from n) as (λ d. find (λ j. leb from j) (numbers p (n + 1) xs) ≡ cond (d && false) (Some n) (least_from p from (n + 1) xs)) [ true ↦ more | false ↦ more ]
    ]

-- what a plain search says, where the first element has number n
abbrev Found : {X : Type 0} → (X → Bool) → ℕ → ℕ → List X → Option ℕ → Type 0
Found p from n xs None = (i : ℕ) → from ≤ n + i → PassesAt p xs i → ⊥
Found p from n xs (Some j) = (i : ℕ) × (j ≡ n + i) × (from ≤ j) × PassesAt p xs i × ((k : ℕ) → from ≤ n + k → k < i → PassesAt p xs k → ⊥)

none_before : {X : Type 0} (p : X → Bool) (from n : ℕ) (x : X) (xs : List X) (bound : ℕ) → (from ≤ n → p x ≡ true → ⊥) → ((k : ℕ) → from ≤ n + 1 + k → k < bound → PassesAt p xs k → ⊥) → (k : ℕ) → from ≤ n + k → k < suc bound → PassesAt p (x ∷ xs) k → ⊥
none_before p from n x xs bound not_here later zero le lt h = not_here (omega arith) h
none_before p from n x xs bound not_here later (suc k) le lt h = later k (omega arith) (omega arith) h

none_after : {X : Type 0} (p : X → Bool) (from n : ℕ) (x : X) (xs : List X) → (from ≤ n → p x ≡ true → ⊥) → ((k : ℕ) → from ≤ n + 1 + k → PassesAt p xs k → ⊥) → (k : ℕ) → from ≤ n + k → PassesAt p (x ∷ xs) k → ⊥
none_after p from n x xs not_here later zero le h = not_here (omega arith) h
none_after p from n x xs not_here later (suc k) le h = later k (omega arith) h

found_later : {X : Type 0} (p : X → Bool) (from n : ℕ) (x : X) (xs : List X) (r : Option ℕ) → (from ≤ n → p x ≡ true → ⊥) → Found p from (n + 1) xs r → Found p from n (x ∷ xs) r
found_later p from n x xs None not_here h = none_after p from n x xs not_here h
found_later p from n x xs (Some j) not_here h = (suc h.0, omega (arith, h.1), h.2, h.3, none_before p from n x xs h.0 not_here h.4)

search_step : {X : Type 0} (p : X → Bool) (from n : ℕ) (x : X) (xs : List X) (a b : Bool) → leb from n ≡ a → p x ≡ b → Found p from (n + 1) xs (least_from p from (n + 1) xs) → Found p from n (x ∷ xs) (cond (a && b) (Some n) (least_from p from (n + 1) xs))
search_step p from n x xs true true le here h = (zero, omega arith, leb-true from n le, here, λ k from_k lt _. absurd (omega arith))
search_step p from n x xs true false le fails h = found_later p from n x xs _ (λ _ passes. absurd (cc (fails, passes))) h
search_step p from n x xs false b gt here h = found_later p from n x xs _ (λ le _. absurd (omega (arith, leb-false from n gt))) h

search_is : {X : Type 0} (p : X → Bool) (from n : ℕ) (xs : List X) → Found p from n xs (least_from p from n xs)
search_is p from n [] = λ i le h. absurd cc
search_is p from n (x ∷ xs) = search_step p from n x xs (leb from n) (p x) refl refl (search_is p from (n + 1) xs)

found_is : {X : Type 0} (p : X → Bool) (from : ℕ) (xs : List X) (r : Option ℕ) → Found p from 0 xs r → IsLeastFrom p xs from r
found_is p from xs None h = λ i le. h i (omega arith)
found_is p from xs (Some j) h =
    let same : h.0 ≡ j = omega (arith, h.1) in
    (h.2, subst (λ (k : ℕ). PassesAt p xs k) same h.3, λ i le lt. h.4 i (omega arith) (omega (arith, same)))

-- the first of the numbers at or after from is the least one
pub first_is_least : {X : Type 0} (p : X → Bool) (from : ℕ) (xs : List X) (ns : List ℕ) → ns ≡ numbers p 0 xs → IsLeastFrom p xs from (find (λ j. leb from j) ns)
first_is_least p from xs ns e = rw (e, find_numbers p from 0 xs) (found_is p from xs (least_from p from 0 xs) (search_is p from 0 xs))

-- either test passes
pub either_at : {X : Type 0} (p q : X → Bool) (xs : List X) (i : ℕ) → PassesAt (λ x. p x || q x) xs i → PassesAt p xs i ⊎ PassesAt q xs i
either_at p q xs i = elim (slice_get xs i) as (λ o. option_map_or (λ x. p x || q x) o false ≡ true → (option_map_or p o false ≡ true) ⊎ (option_map_or q o false ≡ true)) [
  | None ↦ λ h. absurd cc
  | Some x ↦ elim (p x) as (λ b. (b || q x) ≡ true → (b ≡ true) ⊎ (q x ≡ true)) [ true ↦ λ h. inl refl | false ↦ λ h. inr h ]
]

left_at : {X : Type 0} (p q : X → Bool) (xs : List X) (i : ℕ) → PassesAt p xs i → PassesAt (λ x. p x || q x) xs i
left_at p q xs i = elim (slice_get xs i) as (λ o. option_map_or p o false ≡ true → option_map_or (λ x. p x || q x) o false ≡ true) [
  | None ↦ λ h. h
  | Some x ↦ elim (p x) as (λ b. b ≡ true → (b || q x) ≡ true) [ true ↦ λ h. refl | false ↦ λ h. absurd cc ]
]

right_at : {X : Type 0} (p q : X → Bool) (xs : List X) (i : ℕ) → PassesAt q xs i → PassesAt (λ x. p x || q x) xs i
right_at p q xs i = elim (slice_get xs i) as (λ o. option_map_or q o false ≡ true → option_map_or (λ x. p x || q x) o false ≡ true) [
  | None ↦ λ h. h
  | Some x ↦ elim (p x) as (λ b. q x ≡ true → (b || q x) ≡ true) [ true ↦ λ h. refl | false ↦ λ h. h ]
]

-- the earlier of the two least numbers is the least with either property
pub earlier_is_least : {X : Type 0} (p q : X → Bool) (xs : List X) (from : ℕ) (a b : Option ℕ) → IsLeastFrom p xs from a → IsLeastFrom q xs from b → IsLeastFrom (λ x. p x || q x) xs from (earlier a b)
earlier_is_least p q xs from None None f g = λ i le h. elim (either_at p q xs i h) [ inl l ↦ f i le l | inr r ↦ g i le r ]
earlier_is_least p q xs from None (Some b) f g = (g.0, right_at p q xs b g.1, λ i le lt h. elim (either_at p q xs i h) [ inl l ↦ f i le l | inr r ↦ g.2 i le lt r ])
earlier_is_least p q xs from (Some a) None f g = (f.0, left_at p q xs a f.1, λ i le lt h. elim (either_at p q xs i h) [ inl l ↦ f.2 i le lt l | inr r ↦ g i le r ])
earlier_is_least p q xs from (Some a) (Some b) f g = (
  omega (arith, f.0, g.0),
  elim (cases_lt a b) [
    | inl lt ↦ let is : a ≡ min a b = omega arith in subst (λ (k : ℕ). PassesAt (λ x. p x || q x) xs k) is (left_at p q xs a f.1)
    | inr ge ↦ let is : b ≡ min a b = omega arith in subst (λ (k : ℕ). PassesAt (λ x. p x || q x) xs k) is (right_at p q xs b g.1)
  ],
  λ i le lt h. elim (either_at p q xs i h) [ inl l ↦ f.2 i le (omega arith) l | inr r ↦ g.2 i le (omega arith) r ],
)

-- none up to an element that fails
pub none_more : {X : Type 0} (p : X → Bool) (xs : List X) (from j : ℕ) (x : X) → slice_get xs j ≡ Some x → p x ≡ false → ((i : ℕ) → from ≤ i → i < j → PassesAt p xs i → ⊥) → (i : ℕ) → from ≤ i → i < j + 1 → PassesAt p xs i → ⊥
none_more p xs from j x here fails before i le lt h = elim (cases_lt i j) [
  | inl l ↦ before i le l h
  | inr ge ↦
      let same : i ≡ j = omega arith in
      let wrong : false ≡ true = rw (same, here, fails) at h in
      absurd (cc wrong)
]

none_past : {X : Type 0} (p : X → Bool) (xs : List X) (i : ℕ) → length xs ≤ i → PassesAt p xs i → ⊥
none_past p [] i le h = absurd (cc h)
none_past p (x ∷ xs) zero le h = absurd (omega arith)
none_past p (x ∷ xs) (suc i) le h = none_past p xs i (omega arith) h

pub none_at_all : {X : Type 0} (p : X → Bool) (xs : List X) (from n : ℕ) → length xs ≤ n → ((i : ℕ) → from ≤ i → i < n → PassesAt p xs i → ⊥) → (i : ℕ) → from ≤ i → PassesAt p xs i → ⊥
none_at_all p xs from n past before i le h = elim (cases_lt i n) [
  | inl l ↦ before i le l h
  | inr ge ↦ none_past p xs i (omega arith) h
]
