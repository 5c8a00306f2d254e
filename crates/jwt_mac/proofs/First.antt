-- The first verifier that names an algorithm, place by place.
use Rattle.std.proofs.Common.{◌≡◌, ℕ, ◌+◌, ◌<◌, true, false, cond, List, ◌∷◌, length, map, drop, get_or, Some, sym, ap, ◌∙◌}
use Rattle.std.proofs.lemmas.List.{drop_more}
use Rattle.jwt_mac.specs.Verifying.{Meaning, first_naming}
use Rattle.jwt_mac.specs.declared.algorithm.Alg.{Alg}

module _ {X : Type 0} (meaning_of : X → Meaning) (alg : Alg) (xs : List X) (i : ℕ) (x : X) (within : i < length xs) (here : x ≡ get_or xs i x) where
  -- the verifiers from place i on
  from_here : first_naming (map meaning_of (drop i xs)) alg ≡ first_naming (meaning_of x ∷ map meaning_of (drop (i + 1) xs)) alg
  from_here = ap (λ l. first_naming (map meaning_of l) alg) (drop_more xs i x within ∙ ap (λ y. y ∷ drop (i + 1) xs) (sym here))

  pub first-here : (meaning_of x).named alg ≡ true → first_naming (map meaning_of (drop i xs)) alg ≡ Some (meaning_of x)
  first-here names = from_here ∙ ap (λ b. cond b (Some (meaning_of x)) (first_naming (map meaning_of (drop (i + 1) xs)) alg)) names

  pub first-later : (meaning_of x).named alg ≡ false → first_naming (map meaning_of (drop i xs)) alg ≡ first_naming (map meaning_of (drop (i + 1) xs)) alg
  first-later names = from_here ∙ ap (λ b. cond b (Some (meaning_of x)) (first_naming (map meaning_of (drop (i + 1) xs)) alg)) names
