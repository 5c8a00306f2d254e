-- The rows of a table of doubles.
use Rattle.std.proofs.Common.{◌≡◌, ℕ, ◌<◌, List, [], ◌∷◌, length, get_or, suc, zero, ◌+◌, ap, subst, refl, arith}
use Rattle.ecdsa.specs.Curve.{Domain, Point}
use Rattle.ecdsa.specs.Doubles.{DoublesRow, Rows}
use Rattle.ecdsa.specs.declared.field.Field.{Field}

-- what stands at a place doesn't depend on what is given for none
pub at_place : (xs : List (List ℕ)) (i : ℕ) (d : List ℕ) → i < length xs → get_or xs i d ≡ get_or xs i []
at_place [] i d within = absurd (omega arith)
at_place (x ∷ xs) zero d within = refl
at_place (x ∷ xs) (suc i) d within = at_place xs i d (omega arith)

pub as_long : {N KIND : ℕ} (f : Field N KIND) (E : Domain) (k : ℕ) (P : Point) (xs ys : List (List ℕ)) → Rows f E k P xs ys → length ys ≡ length xs
as_long f E k P [] [] rows = refl
as_long f E k P [] (y ∷ ys) rows = absurd rows
as_long f E k P (x ∷ xs) [] rows = absurd rows
as_long f E k P (x ∷ xs) (y ∷ ys) rows = ap suc (as_long f E (suc k) P xs ys rows.1)

pub row_at : {N KIND : ℕ} (f : Field N KIND) (E : Domain) (k : ℕ) (P : Point) (xs ys : List (List ℕ)) → Rows f E k P xs ys → (i : ℕ) → i < length xs →
    DoublesRow f E (k + i) P (get_or xs i []) (get_or ys i [])
row_at f E k P [] ys rows i within = absurd (omega arith)
row_at f E k P (x ∷ xs) [] rows i within = absurd rows
row_at f E k P (x ∷ xs) (y ∷ ys) rows zero within =
    let same : k ≡ k + 0 = omega arith in
    subst (λ n. DoublesRow f E n P x y) same rows.0
row_at f E k P (x ∷ xs) (y ∷ ys) rows (suc i) within =
    let same : suc k + i ≡ k + suc i = omega arith in
    subst (λ n. DoublesRow f E n P (get_or xs i []) (get_or ys i [])) same (row_at f E (suc k) P xs ys rows.1 i (omega arith))

pub row_from_first : {N KIND : ℕ} (f : Field N KIND) (E : Domain) (P : Point) (xs ys : List (List ℕ)) → Rows f E 0 P xs ys → (i : ℕ) → i < length xs →
    DoublesRow f E i P (get_or xs i []) (get_or ys i [])
row_from_first f E P xs ys rows i within =
    let same : 0 + i ≡ i = omega arith in
    subst (λ n. DoublesRow f E n P (get_or xs i []) (get_or ys i [])) same (row_at f E 0 P xs ys rows i within)
