-- The first number that has an answer.
use Rattle.std.proofs.Common.{◌≡◌, ℕ, zero, suc, ◌+◌, ◌-◌, ◌<◌, List, [], ◌∷◌, ◌++◌, Option, Some, None, arith, add-one, refl, sym, ◌∙◌, ap, inl, inr}
use Rattle.std.specs.Option.{option_map_or}
use Rattle.std.proofs.lemmas.Bool.{cases_lt}
use Rattle.jwt_verify.specs.Table.{below}
use Rattle.jwt_verify.specs.Verdict.{first_in}
use Rattle.jwt_verify.proofs.Below.{below-zero, below_more}

abbrev pub or_else : {A : Type 0} → Option A → Option A → Option A
or_else (Some a) o = Some a
or_else None o = o

first-append : {A : Type 0} (f : ℕ → Option A) (xs ys : List ℕ) → first_in f (xs ++ ys) ≡ or_else (first_in f xs) (first_in f ys)
first-append f [] ys = refl
first-append {A} f (x ∷ xs) ys = go (f x) (first-append f xs ys)
  where
    go : (o : Option A) → first_in f (xs ++ ys) ≡ or_else (first_in f xs) (first_in f ys) → option_map_or (λ a. Some (x, a)) o (first_in f (xs ++ ys)) ≡ or_else (option_map_or (λ a. Some (x, a)) o (first_in f xs)) (first_in f ys)
    go (Some a) rest = refl
    go None rest = rest

pub first-below : {A : Type 0} (f : ℕ → Option A) (n : ℕ) → first_in f (below (n + 1)) ≡ or_else (first_in f (below n)) (option_map_or (λ a. Some (n, a)) (f n) None)
first-below f n = ap (first_in f) (below_more n) ∙ first-append f (below n) (n ∷ [])

pub first_zero : {A : Type 0} (f : ℕ → Option A) → first_in f (below 0) ≡ None
first_zero f = rw below-zero refl

pub first_more : {A : Type 0} (f : ℕ → Option A) (i : ℕ) → f i ≡ None → first_in f (below i) ≡ None → first_in f (below (i + 1)) ≡ None
first_more f i e h = first-below f i ∙ rw (h, e) refl

first_by : {A : Type 0} (f : ℕ → Option A) (i d : ℕ) (a : A) → f i ≡ Some a → first_in f (below i) ≡ None → first_in f (below (i + 1 + d)) ≡ Some (i, a)
first_by f i zero a e h = let n : i + 1 + 0 ≡ i + 1 = omega arith in rw n (first-below f i ∙ rw (h, e) refl)
first_by f i (suc d) a e h = let n : i + 1 + suc d ≡ i + 1 + d + 1 = omega arith in rw n (first-below f (i + 1 + d) ∙ rw (first_by f i d a e h) refl)

pub first_here : {A : Type 0} (f : ℕ → Option A) (i n : ℕ) (a : A) → f i ≡ Some a → first_in f (below i) ≡ None → i < n → first_in f (below n) ≡ Some (i, a)
first_here f i n a e h l = let m : i + 1 + (n - (i + 1)) ≡ n = omega arith in ap (λ k. first_in f (below k)) (sym m) ∙ first_by f i (n - (i + 1)) a e h

-- two readings that agree up to the first answer of one have the same first answer
pub first_agree : {A : Type 0} (f g : ℕ → Option A) (n : ℕ) → ((i : ℕ) → i < n → first_in f (below i) ≡ None → g i ≡ f i) → first_in g (below n) ≡ first_in f (below n)
first_agree f g zero h = first_zero g ∙ sym (first_zero f)
first_agree {A} f g (suc n) h =
    let rest : first_in g (below n) ≡ first_in f (below n) = first_agree f g n (λ i l. h i (omega arith)) in
    rw (sym (add-one n)) (first-below g n ∙ rw rest (go (first_in f (below n)) refl) ∙ sym (first-below f n))
  where
    go : (o : Option (ℕ × A)) → o ≡ first_in f (below n) → or_else o (option_map_or (λ a. Some (n, a)) (g n) None) ≡ or_else o (option_map_or (λ a. Some (n, a)) (f n) None)
    go (Some p) e = refl
    go None e = ap (λ q. option_map_or (λ a. Some (n, a)) q None) (h n (omega arith) (sym e))

none_both : {A : Type 0} (o : Option (ℕ × A)) (n : ℕ) (q : Option A) → or_else o (option_map_or (λ a. Some (n, a)) q None) ≡ None → (o ≡ None) × (q ≡ None)
none_both (Some p) n q h = cc
none_both None n (Some a) h = cc
none_both None n None h = (refl, refl)

-- where none of the numbers has an answer
pub first_none_at : {A : Type 0} (f : ℕ → Option A) (n k : ℕ) → k < n → first_in f (below n) ≡ None → f k ≡ None
first_none_at f zero k l h = absurd (omega (arith, l))
first_none_at f (suc n) k l h =
    let e = rw (sym (add-one n)) at h in
    let q = none_both (first_in f (below n)) n (f n) (sym (first-below f n) ∙ e) in
    elim (cases_lt k n) [
      | inl m ↦ first_none_at f n k m q.0
      | inr m ↦ (let s : k ≡ n = omega (arith, l, m) in ap f s ∙ q.1)
    ]
