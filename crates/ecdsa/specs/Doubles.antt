-- The doubles of a curve's base point, as a table has them.
use Rattle.std.specs.Prelude.{ℕ, ◌≡◌, ◌*◌, suc, List, [], ◌∷◌, length}
use Rattle.ecdsa.specs.Curve.{Domain, Point, Point.Affine, doubled}
use Rattle.ecdsa.specs.declared.field.Field.{Field}
use Rattle.ecdsa.specs.Field.{size, value, Below}
use Rattle.ecdsa.specs.Stands.{AreFor}

-- x and y, in the field's form, of P doubled so often
pub record DoublesRow {N KIND : ℕ} (f : Field N KIND) (E : Domain) (i : ℕ) (P : Point) (x y : List ℕ) : Type 0 where
  pub x_below : Below f x
  pub y_below : Below f y
  pub stands : AreFor (size f) (value f x) (value f y) 1 (doubled E i P)

-- the doubles of P from the i-th
abbrev pub Rows : {N KIND : ℕ} → Field N KIND → Domain → ℕ → Point → List (List ℕ) → List (List ℕ) → Type 0
Rows f E i P [] [] = Unit
Rows f E i P [] (y ∷ ys) = ⊥
Rows f E i P (x ∷ xs) [] = ⊥
Rows f E i P (x ∷ xs) (y ∷ ys) = DoublesRow f E i P x y × Rows f E (suc i) P xs ys

-- all the doubles of the base point that a multiple may need
pub record IsTable {N KIND : ℕ} (f : Field N KIND) (E : Domain) (xs ys : List (List ℕ)) : Type 0 where
  pub long : length xs ≡ 4 * E.digits
  pub rows : Rows f E 0 (Affine E.gx E.gy) xs ys
