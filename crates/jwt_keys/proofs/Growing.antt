-- Numbers as the list grows.
use Rattle.std.proofs.Common.{◌≡◌, ℕ, suc, ◌+◌, ◌<◌, Bool, true, false, cond, List, [], ◌∷◌, ◌++◌, length, take, get_or, refl, ap, arith}
use Rattle.std.proofs.lemmas.List.{length-take, take_more}
use Rattle.jwt_keys.specs.Numbers.{numbers}

numbers-push : {X : Type 0} (p : X → Bool) (n : ℕ) (xs : List X) (x : X) → numbers p n (xs ++ x ∷ []) ≡ cond (p x) (numbers p n xs ++ (n + length xs) ∷ []) (numbers p n xs)
numbers-push p n [] x = ap (λ (k : ℕ). cond (p x) (k ∷ []) []) (omega arith)
numbers-push p n (y ∷ xs) x =
    let same : n + 1 + length xs ≡ n + suc (length xs) = omega arith in
    let more : numbers p (n + 1) (xs ++ x ∷ []) ≡ cond (p x) (numbers p (n + 1) xs ++ (n + suc (length xs)) ∷ []) (numbers p (n + 1) xs) = rw (← same) (numbers-push p (n + 1) xs x) in
    rw more (
    elim (p y) as (λ b. cond b (n ∷ cond (p x) (numbers p (n + 1) xs ++ (n + suc (length xs)) ∷ []) (numbers p (n + 1) xs)) (cond (p x) (numbers p (n + 1) xs ++ (n + suc (length xs)) ∷ []) (numbers p (n + 1) xs)) ≡ cond (p x) (cond b (n ∷ numbers p (n + 1) xs) (numbers p (n + 1) xs) ++ (n + suc (length xs)) ∷ []) (cond b (n ∷ numbers p (n + 1) xs) (numbers p (n + 1) xs))) [
      | true ↦ elim (p x) as (λ d. n ∷ cond d (numbers p (n + 1) xs ++ (n + suc (length xs)) ∷ []) (numbers p (n + 1) xs) ≡ cond d (n ∷ numbers p (n + 1) xs ++ (n + suc (length xs)) ∷ []) (n ∷ numbers p (n + 1) xs)) [ true ↦ refl | false ↦ refl ]
      | false ↦ refl
    ])

-- one key more
pub numbers_more : {X : Type 0} (p : X → Bool) (xs : List X) (i : ℕ) (d : X) → i < length xs → numbers p 0 (take (i + 1) xs) ≡ cond (p (get_or xs i d)) (numbers p 0 (take i xs) ++ i ∷ []) (numbers p 0 (take i xs))
numbers_more p xs i d lt =
    let at : 0 + length (take i xs) ≡ i = simp length-take (omega arith) in
    let step = numbers-push p 0 (take i xs) (get_or xs i d) in
    let here : numbers p 0 (take i xs ++ get_or xs i d ∷ []) ≡ cond (p (get_or xs i d)) (numbers p 0 (take i xs) ++ i ∷ []) (numbers p 0 (take i xs)) = rw at at step in
    rw (take_more xs i d lt) here
