-- Octets in percent-encoding, one after the other.
use Rattle.std.proofs.Common.{◌≡◌, ℕ, ◌==◌, Bool, true, false, cond, List, [], ◌∷◌, ◌++◌, Option, Some, None, option_map, option_and_then, refl, sym, ap, ◌∙◌, append_assoc}
use Rattle.jwt_possession.specs.Uris.{decoded, normal_triplet}

-- an octet that is no percent sign stands for itself
pub plain : (a : ℕ) (rest : List ℕ) → (a == 37) ≡ false → decoded (a ∷ rest) ≡ option_map (λ more. a ∷ more) (decoded rest)
plain a [] differs = rw differs refl
plain a (b ∷ []) differs = rw differs (by (b == 37))
  where
    by : (t : Bool) → cond t None (Some (a ∷ b ∷ [])) ≡ option_map (λ more. a ∷ more) (cond t None (Some (b ∷ [])))
    by true = refl
    by false = refl
plain a (b ∷ c ∷ rest) differs = rw differs refl

onto : (done front : List ℕ) (o : Option (List ℕ)) → option_map (λ more. done ++ more) (option_map (λ more. front ++ more) o) ≡ option_map (λ more. (done ++ front) ++ more) o
onto done front None = refl
onto done front (Some more) = ap Some (sym (append_assoc done front more))

pub plain_step : (text done rest more : List ℕ) (a : ℕ) → decoded text ≡ option_map (λ m. done ++ m) (decoded rest) → rest ≡ a ∷ more → (a == 37) ≡ false
    → decoded text ≡ option_map (λ m. (done ++ a ∷ []) ++ m) (decoded more)
plain_step text done rest more a is cut differs =
    is ∙ ap (λ r. option_map (λ m. done ++ m) (decoded r)) cut ∙ ap (option_map (λ m. done ++ m)) (plain a more differs) ∙ onto done (a ∷ []) (decoded more)

pub triplet_step : (text done rest front more : List ℕ) (b c : ℕ) → decoded text ≡ option_map (λ m. done ++ m) (decoded rest) → rest ≡ 37 ∷ b ∷ c ∷ more → normal_triplet b c ≡ Some front
    → decoded text ≡ option_map (λ m. (done ++ front) ++ m) (decoded more)
triplet_step text done rest front more b c is cut has =
    is ∙ ap (λ r. option_map (λ m. done ++ m) (decoded r)) cut ∙ ap (λ o. option_map (λ m. done ++ m) (option_and_then (λ f. option_map (λ m. f ++ m) (decoded more)) o)) has ∙ onto done front (decoded more)

pub no_triplet : (text done rest more : List ℕ) (b c : ℕ) → decoded text ≡ option_map (λ m. done ++ m) (decoded rest) → rest ≡ 37 ∷ b ∷ c ∷ more → normal_triplet b c ≡ None → None ≡ decoded text
no_triplet text done rest more b c is cut has =
    sym (is ∙ ap (λ r. option_map (λ m. done ++ m) (decoded r)) cut ∙ ap (λ o. option_map (λ m. done ++ m) (option_and_then (λ f. option_map (λ m. f ++ m) (decoded more)) o)) has)
