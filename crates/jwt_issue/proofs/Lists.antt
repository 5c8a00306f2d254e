-- A list, element by element.
use Rattle.std.proofs.Common.{◌≡◌, ℕ, zero, suc, ◌+◌, ◌<◌, List, [], ◌∷◌, ◌++◌, map, length, take, Some, None, arith, add-one, refl, ◌∙◌, ap}
use Rattle.std.specs.Prelude.{slice_get}
use Rattle.std.proofs.lemmas.List.{map-append}

pub slice_within : {X : Type 0} (xs : List X) (i : ℕ) → i < length xs → slice_get xs i ≡ None → ⊥
slice_within [] i l h = absurd (omega arith)
slice_within (x ∷ xs) zero l h = cc
slice_within (x ∷ xs) (suc i) l h = slice_within xs i (omega arith) h

take_slice : {X : Type 0} (xs : List X) (i : ℕ) (x : X) → slice_get xs i ≡ Some x → take (suc i) xs ≡ take i xs ++ x ∷ []
take_slice [] i x h = cc
take_slice (y ∷ xs) zero x h = let e : y ≡ x = cc in rw e refl
take_slice (y ∷ xs) (suc i) x h = ap (λ ys. y ∷ ys) (take_slice xs i x h)

pub map_more : {X Y : Type 0} (f : X → Y) (xs : List X) (i : ℕ) (x : X) → slice_get xs i ≡ Some x → map f (take (i + 1) xs) ≡ map f (take i xs) ++ f x ∷ []
map_more f xs i x h = rw add-one (ap (map f) (take_slice xs i x h) ∙ map-append f (take i xs) (x ∷ []))
