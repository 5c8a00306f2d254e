-- The numbers of one name ascend, so that the least one from a number on is found by halves.
use Rattle.std.proofs.Common.{◌≡◌, ℕ, zero, suc, ◌+◌, ◌<◌, ◌≤◌, Bool, true, false, cond, leb, List, [], ◌∷◌, length, get_or, Some, None, refl, arith}
use Rattle.std.specs.Prelude.{find, slice_get}
use Rattle.std.specs.List.Sorted.{IsNonDecreasingBy}
use Rattle.std.proofs.lemmas.Bool.{leb-true}
use Rattle.jwt_keys.specs.Numbers.{numbers}

cons_least : (n : ℕ) (ys : List ℕ) → ((i d : ℕ) → i < length ys → n + 1 ≤ get_or ys i d) → (i d : ℕ) → i < suc (length ys) → n ≤ get_or (n ∷ ys) i d
cons_least n ys low zero d lt = omega arith
cons_least n ys low (suc i) d lt = let a = low i d (omega arith) in omega arith

-- none is below the first element's number
least : {X : Type 0} (p : X → Bool) (n : ℕ) (xs : List X) (i d : ℕ) → i < length (numbers p n xs) → n ≤ get_or (numbers p n xs) i d
least p n [] = λ i d lt. absurd (omega arith)
least p n (x ∷ xs) = elim (p x) as (λ b. (i d : ℕ) → i < length (cond b (n ∷ numbers p (n + 1) xs) (numbers p (n + 1) xs)) → n ≤ get_or (cond b (n ∷ numbers p (n + 1) xs) (numbers p (n + 1) xs)) i d) [
  | true ↦ cons_least n (numbers p (n + 1) xs) (least p (n + 1) xs)
  | false ↦ λ i d lt. let a = least p (n + 1) xs i d lt in omega arith
]

cons_ascends : (n : ℕ) (ys : List ℕ) → ((i d : ℕ) → i < length ys → n + 1 ≤ get_or ys i d) → IsNonDecreasingBy (λ (k : ℕ). k) ys → IsNonDecreasingBy (λ (k : ℕ). k) (n ∷ ys)
cons_ascends n ys low up zero zero d le lt = omega arith
cons_ascends n ys low up zero (suc j) d le lt = let a = low j d (omega arith) in omega arith
cons_ascends n ys low up (suc i) zero d le lt = absurd (omega arith)
cons_ascends n ys low up (suc i) (suc j) d le lt = up i j d (omega arith) (omega arith)

pub numbers_ascend : {X : Type 0} (p : X → Bool) (n : ℕ) (xs : List X) → IsNonDecreasingBy (λ (k : ℕ). k) (numbers p n xs)
numbers_ascend p n [] = λ i j d le lt. absurd (omega arith)
numbers_ascend p n (x ∷ xs) = elim (p x) as (λ b. IsNonDecreasingBy (λ (k : ℕ). k) (cond b (n ∷ numbers p (n + 1) xs) (numbers p (n + 1) xs))) [
  | true ↦ cons_ascends n (numbers p (n + 1) xs) (least p (n + 1) xs) (numbers_ascend p (n + 1) xs)
  | false ↦ numbers_ascend p (n + 1) xs
]

pub not_from : (from y : ℕ) → y < from → leb from y ≡ false
not_from from y lt = cases (leb from y) refl
  where
    cases : (b : Bool) → leb from y ≡ b → leb from y ≡ false
    cases true e = absurd (omega (arith, lt, leb-true from y e))
    cases false e = e

-- where all before i are below from and the one at i is not
pub found_at : (from : ℕ) (xs : List ℕ) (i : ℕ) → ((k : ℕ) → k < i → leb from (get_or xs k 0) ≡ false) → (i < length xs → leb from (get_or xs i 0) ≡ true) → i ≤ length xs → find (λ j. leb from j) xs ≡ slice_get xs i
found_at from [] zero low high le = refl
found_at from [] (suc i) low high le = absurd (omega arith)
found_at from (x ∷ xs) zero low high le = let h = high (omega arith) in rw h refl
found_at from (x ∷ xs) (suc i) low high le =
    let h = low zero (omega arith) in
    rw h (found_at from xs i (λ k lt. low (suc k) (omega arith)) (λ lt. high (omega arith)) (omega arith))

pub slice_get-some : {X : Type 0} (xs : List X) (i : ℕ) (d : X) → i < length xs → slice_get xs i ≡ Some (get_or xs i d)
slice_get-some [] i d lt = absurd (omega arith)
slice_get-some (x ∷ xs) zero d lt = refl
slice_get-some (x ∷ xs) (suc i) d lt = slice_get-some xs i d (omega arith)

pub slice_get-none : {X : Type 0} (xs : List X) (i : ℕ) → length xs ≤ i → slice_get xs i ≡ None
slice_get-none [] i le = refl
slice_get-none (x ∷ xs) zero le = absurd (omega arith)
slice_get-none (x ∷ xs) (suc i) le = slice_get-none xs i (omega arith)
