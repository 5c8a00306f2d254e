-- What is found of the issuers of a service, one by one.
use Rattle.std.proofs.Common.{◌≡◌, ℕ, ◌+◌, ◌<◌, List, [], ◌∷◌, ◌++◌, length, drop, get_or, Result, Ok, Err, IfOk, sym, ap, ◌∙◌, append_assoc}
use Rattle.std.proofs.lemmas.List.{drop_more}
use Rattle.jwt_mac.specs.Verifying.{Meaning}
use Rattle.jwt_advice.specs.Findings.{Findings}
use Rattle.jwt_document.specs.Entries.{Issuer}
use Rattle.jwt_document.specs.declared.document.Document.{Document}
use Rattle.jwt_command.specs.Services.{found_from, found_of}

-- a loop's step
pub found_more : (vs : List Meaning) (d : Document) (all : List Findings) (xs : List Issuer) (i : ℕ) (x : Issuer) (seen : List Findings) (f : Findings) → i < length xs → (seen ++ found_from vs d i (drop i xs)) ≡ all → f ≡ found_of vs d i (get_or xs i x)
    → ((seen ++ f ∷ []) ++ found_from vs d (i + 1) (drop (i + 1) xs)) ≡ all
found_more vs d all xs i x seen f lt so_far is =
    let rest = found_from vs d (i + 1) (drop (i + 1) xs) in
    let here : found_from vs d i (drop i xs) ≡ found_of vs d i (get_or xs i x) ∷ rest = ap (found_from vs d i) (drop_more xs i x lt) in
    append_assoc seen (f ∷ []) rest ∙ ap (λ (g : Findings). seen ++ g ∷ rest) is ∙ ap (λ (l : List Findings). seen ++ l) (sym here) ∙ so_far

-- what follows from two facts on a value
pub with_both : {T E : Type 0} (r : Result T E) {P Q R : T → Type 0} → IfOk r P → IfOk r Q → ((x : T) → P x → Q x → R x) → IfOk r R
with_both (Ok x) p q follows = follows x p q
with_both (Err e) p q follows = tt
