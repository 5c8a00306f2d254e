-- Facts on lists of the numbers below one.
use Rattle.std.proofs.Common.{◌≡◌, ℕ, zero, suc, ◌+◌, ◌<◌, ◌≤◌, Bool, true, false, cond, List, [], ◌∷◌, ◌++◌, map, length, refl, sym, ◌∙◌, ap, arith, add-one, add-zero, zero-add, append_assoc}
use Rattle.std.specs.Prelude.{◌||◌, ◌&&◌}
use Rattle.std.specs.List.{range_with_len, list_any, list_all, filter, flat_map}
use Rattle.std.proofs.lemmas.List.Folds.{list_any-append, list_all-append}
use Rattle.std.proofs.lemmas.List.Elements.{filter-append}
use Rattle.std.proofs.lemmas.List.Concat.{flat_map-append}
use Rattle.std.proofs.lemmas.List.FromFn.{map-range_with_len_more, length-range_with_len}
use Rattle.std.proofs.lemmas.List.{map-append, map-id, append-nil, replicate_more}
use Rattle.std.specs.Prelude.{replicate}
use Rattle.jwt_verify.specs.Table.{below}

pub below_more : (n : ℕ) → below (n + 1) ≡ below n ++ n ∷ []
unfolding below
below_more n = sym (map-id (range_with_len 0 (n + 1))) ∙ map-range_with_len_more (λ k. k) 0 n n (zero-add n) ∙ ap (λ xs. xs ++ n ∷ []) (map-id (range_with_len 0 n))

pub below-zero : below 0 ≡ []
unfolding below
below-zero = refl

-- what each step from a up to b leaves alone is at b as it was at a
pub stays : {Y : Type 0} (g : ℕ → Y) (a d : ℕ) → ((n : ℕ) → a ≤ n → n < a + d → g (n + 1) ≡ g n) → g (a + d) ≡ g a
stays g a zero h = ap g (add-zero a)
stays g a (suc d) h =
    let step : g ((a + d) + 1) ≡ g (a + d) = h (a + d) (omega arith) (omega arith) in
    let e : a + suc d ≡ (a + d) + 1 = omega arith in
    ap g e ∙ step ∙ stays g a d (λ n l r. h n l (omega arith))

or-false : (b : Bool) → (b || false) ≡ b
or-false true = refl
or-false false = refl

and-true : (b : Bool) → (b && true) ≡ b
and-true true = refl
and-true false = refl

pub list_any-below : (p : ℕ → Bool) (n : ℕ) → list_any p (below (n + 1)) ≡ (list_any p (below n) || p n)
list_any-below p n = rw below_more (list_any-append p (below n) (n ∷ []) ∙ ap (λ b. list_any p (below n) || b) (or-false (p n)))

pub list_all-below : (p : ℕ → Bool) (n : ℕ) → list_all p (below (n + 1)) ≡ (list_all p (below n) && p n)
list_all-below p n = rw below_more (list_all-append p (below n) (n ∷ []) ∙ ap (λ b. list_all p (below n) && b) (and-true (p n)))

pub filter-map-below : {X : Type 0} (p : X → Bool) (f : ℕ → X) (n : ℕ) → filter p (map f (below (n + 1))) ≡ filter p (map f (below n)) ++ cond (p (f n)) (f n ∷ []) []
filter-map-below p f n = rw (below_more, map-append) (filter-append p (map f (below n)) (f n ∷ []))

pub flat_map-below : {X : Type 0} (f : ℕ → List X) (n : ℕ) → flat_map f (below (n + 1)) ≡ flat_map f (below n) ++ f n
flat_map-below f n = rw below_more (flat_map-append f (below n) (n ∷ []) ∙ ap (λ ys. flat_map f (below n) ++ ys) (append-nil (f n)))

pub length-below : (n : ℕ) → length (below n) ≡ n
unfolding below
length-below n = length-range_with_len 0 n

pub map-below : {X : Type 0} (f : ℕ → X) (n : ℕ) → map f (below (n + 1)) ≡ map f (below n) ++ f n ∷ []
map-below f n = rw below_more (map-append f (below n) (n ∷ []))

-- filter over lists joined end to end
pub filter-flat_map : {X : Type 0} (p : X → Bool) (f : ℕ → List X) (ns : List ℕ) → filter p (flat_map f ns) ≡ flat_map (λ n. filter p (f n)) ns
filter-flat_map p f [] = refl
filter-flat_map p f (n ∷ ns) = filter-append p (f n) (flat_map f ns) ∙ ap (λ ys. filter p (f n) ++ ys) (filter-flat_map p f ns)

pub list_any-gap : (p : ℕ → Bool) (a d : ℕ) → ((n : ℕ) → a ≤ n → n < a + d → p n ≡ false) → list_any p (below (a + d)) ≡ list_any p (below a)
list_any-gap p a d h = stays (λ n. list_any p (below n)) a d (λ n l r. list_any-below p n ∙ rw (h n l r) (or-false (list_any p (below n))))

pub filter-gap : {X : Type 0} (p : X → Bool) (f : ℕ → X) (a d : ℕ) → ((n : ℕ) → a ≤ n → n < a + d → p (f n) ≡ false) → filter p (map f (below (a + d))) ≡ filter p (map f (below a))
filter-gap p f a d h = stays (λ n. filter p (map f (below n))) a d (λ n l r. filter-map-below p f n ∙ rw (h n l r) (append-nil _))

pub flat_map-gap : {X : Type 0} (f : ℕ → List X) (a d : ℕ) → ((n : ℕ) → a ≤ n → n < a + d → f n ≡ []) → flat_map f (below (a + d)) ≡ flat_map f (below a)
flat_map-gap f a d h = stays (λ n. flat_map f (below n)) a d (λ n l r. flat_map-below f n ∙ rw (h n l r) (append-nil _))

-- a list to which each step joins a piece begins with what it was at a
pub grows : {X : Type 0} (g w : ℕ → List X) → ((n : ℕ) → g (n + 1) ≡ g n ++ w n) → (a d : ℕ) → (rest : List X) × (g (a + d) ≡ g a ++ rest)
grows g w step a zero = ([], rw add-zero (sym (append-nil (g a))))
grows g w step a (suc d) =
    let r = grows g w step a d in
    let e : a + suc d ≡ (a + d) + 1 = omega arith in
    (r.0 ++ w (a + d), ap g e ∙ step (a + d) ∙ ap (λ ys. ys ++ w (a + d)) r.1 ∙ append_assoc (g a) r.0 (w (a + d)))

pub map-agree : {X : Type 0} (f h : ℕ → X) (n : ℕ) → ((k : ℕ) → k < n → f k ≡ h k) → map f (below n) ≡ map h (below n)
map-agree f h zero agree = rw below-zero refl
map-agree f h (suc n) agree =
    let e : suc n ≡ n + 1 = sym (add-one n) in
    rw (e, map-below f n, map-below h n, agree n (omega arith), map-agree f h n (λ k l. agree k (omega arith))) refl

-- from a on the function is constant
pub map-tail : {X : Type 0} (f : ℕ → X) (x : X) (a d : ℕ) → ((k : ℕ) → a ≤ k → k < a + d → f k ≡ x) → map f (below (a + d)) ≡ map f (below a) ++ replicate d x
map-tail f x a zero same = rw add-zero (sym (append-nil (map f (below a))))
map-tail f x a (suc d) same =
    let e : a + suc d ≡ (a + d) + 1 = omega arith in
    let here : f (a + d) ≡ x = same (a + d) (omega arith) (omega arith) in
    let more : replicate d x ++ x ∷ [] ≡ replicate (suc d) x = replicate_more d x ∙ ap (λ n. replicate n x) (add-one d) in
    rw (e, map-below f (a + d), map-tail f x a d (λ k l m. same k l (omega arith)), here, append_assoc, more) refl
