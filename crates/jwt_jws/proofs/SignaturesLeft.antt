-- What is left of a list, from the element of a number on.
use Rattle.std.proofs.Common.{◌≡◌, ℕ, zero, suc, ◌+◌, ◌<◌, List, [], ◌∷◌, length, drop, slice_get, Some, None, refl, arith, add-one}

here : {X : Type 0} (xs : List X) (n : ℕ) (x : X) → slice_get xs n ≡ Some x → drop n xs ≡ x ∷ drop (suc n) xs
here [] n x e = absurd cc
here (y ∷ ys) zero x e = cc
here (y ∷ ys) (suc n) x e = here ys n x e

pub from_here : {X : Type 0} (xs : List X) (n : ℕ) (x : X) → slice_get xs n ≡ Some x → drop n xs ≡ x ∷ drop (n + 1) xs
from_here xs n x e = rw add-one (here xs n x e)

pub none_left : {X : Type 0} (xs : List X) (n : ℕ) → slice_get xs n ≡ None → drop n xs ≡ []
none_left [] zero e = refl
none_left [] (suc n) e = refl
none_left (y ∷ ys) zero e = absurd cc
none_left (y ∷ ys) (suc n) e = none_left ys n e

pub inside : {X : Type 0} (xs : List X) (n : ℕ) (x : X) → slice_get xs n ≡ Some x → n < length xs
inside [] n x e = absurd cc
inside (y ∷ ys) zero x e = omega arith
inside (y ∷ ys) (suc n) x e = let l = inside ys n x e in omega (arith, l)
