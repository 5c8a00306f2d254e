-- The first row that holds, by number.
use Rattle.std.proofs.Common.{◌≡◌, ℕ, zero, suc, ◌<◌, Bool, true, false, cond, List, [], ◌∷◌, Some, None, refl, arith}
use Rattle.std.specs.Prelude.{slice_get}
use Rattle.jwt_text.specs.Rows.{Row, ◌⇒◌, first_row, IsFirstRow, NoRow}

none_cons : {F : Type 0} (r : Row F) (rs : List (Row F)) → r.holds ≡ false → NoRow rs → NoRow (r ∷ rs)
none_cons r rs off h zero s e = let same : r ≡ s = cc in rw (← same) off
none_cons r rs off h (suc k) s e = h k s e

first_none : {F : Type 0} (b : Bool) (f : F) (rs : List (Row F)) → (first_row rs ≡ None → NoRow rs) → cond b (Some f) (first_row rs) ≡ None → NoRow ((b ⇒ f) ∷ rs)
first_none true f rs h e = absurd cc
first_none false f rs h e = none_cons (false ⇒ f) rs refl (h e)

pub no_row : {F : Type 0} (rs : List (Row F)) → first_row rs ≡ None → NoRow rs
no_row [] e = λ k r is. absurd cc
no_row (r ∷ rs) e = first_none r.holds r.answer rs (no_row rs) e

some_cons : {F : Type 0} (r : Row F) (rs : List (Row F)) (f : F) → r.holds ≡ false → IsFirstRow rs f → IsFirstRow (r ∷ rs) f
some_cons {F = F} r rs f off h = (suc h.0, h.1, before)
  where
    before : (k : ℕ) (s : Row F) → k < suc h.0 → slice_get (r ∷ rs) k ≡ Some s → s.holds ≡ false
    before zero s lt e = let same : r ≡ s = cc in rw (← same) off
    before (suc k) s lt e = h.2 k s (omega arith) e

first_some : {F : Type 0} (b : Bool) (a f : F) (rs : List (Row F)) → (first_row rs ≡ Some f → IsFirstRow rs f) → cond b (Some a) (first_row rs) ≡ Some f → IsFirstRow ((b ⇒ a) ∷ rs) f
first_some true a f rs h e = let same : a ≡ f = cc in rw (← same) (zero, refl, λ k r lt _. absurd (omega arith))
first_some false a f rs h e = some_cons (false ⇒ a) rs f refl (h e)

pub first_row_is : {F : Type 0} (rs : List (Row F)) (f : F) → first_row rs ≡ Some f → IsFirstRow rs f
first_row_is [] f e = absurd cc
first_row_is (r ∷ rs) f e = first_some r.holds r.answer f rs (first_row_is rs f) e
