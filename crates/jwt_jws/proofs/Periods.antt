-- Cutting at the first period.
use Rattle.memchr.specs.Find.{IsFirstByte, is_byte}
use Rattle.std.proofs.lemmas.Bool.Decides.{nat_tests}
use Rattle.std.proofs.Common.{◌≡◌, ℕ, ◌+◌, ◌<◌, ◌≤◌, Bool, true, false, cond, ltb, List, [], ◌∷◌, length, take, drop, Option, Some, None, Err, refl, sym, ap, subst, ◌∙◌, arith, zero, suc, slice_index}
use Rattle.std.specs.Prelude.{position}
use Rattle.std.specs.List.{slice_split, onto_first, position_or_len}
use Rattle.std.proofs.lemmas.Option.{cond_some}
use Rattle.std.proofs.lemmas.Bool.{ltb-true, ltb-false}
use Rattle.std.proofs.lemmas.List.Splits.{slice_split_first, slice_split_none}
use Rattle.std.proofs.lemmas.List.Sums.{fails_before_first}
use Rattle.std.proofs.lemmas.List.Elements.{All-from_get_or}
use Rattle.jwt_jws.specs.Forms.{is_period, compact_of}
use Rattle.jwt_jws.specs.declared.fault.FormFault.TheVariants.{Segments}

-- ---- what `memchr` finds is the position

refused : (b : Bool) → ¬ (b ≡ true) → b ≡ false
refused true h = absurd (h refl)
refused false h = refl

found_at : (z : List ℕ) (k : ℕ) → k < length z → is_period (slice_index z k) ≡ true → ((j : ℕ) → j < k → ¬ (is_period (slice_index z j) ≡ true)) → position_or_len is_period z ≡ k
found_at [] k low here before = absurd (omega arith)
found_at (c ∷ cs) zero low here before = rw here refl
found_at (c ∷ cs) (suc k) low here before =
    let off : is_period c ≡ false = refused (is_period c) (before zero (omega arith)) in
    let more = found_at cs k (omega arith) here (λ j l. before (suc j) (omega arith)) in
    rw off (ap (λ n. 1 + n) more ∙ omega arith)

found_nowhere : (z : List ℕ) → ((j : ℕ) → j < length z → ¬ (is_period (slice_index z j) ≡ true)) → position_or_len is_period z ≡ length z
found_nowhere [] none = refl
found_nowhere (c ∷ cs) none =
    let off : is_period c ≡ false = refused (is_period c) (none zero (omega arith)) in
    let more = found_nowhere cs (λ j l. none (suc j) (omega arith)) in
    rw off (ap (λ n. 1 + n) more ∙ omega arith)

pub first_is_position : (z : List ℕ) (r : Option ℕ) → IsFirstByte (is_byte 46) z r → r ≡ position is_period z
first_is_position z None h =
    let at = found_nowhere z (λ j low. h j (omega arith) low) in
    let past : ltb (length z) (length z) ≡ false = grind (arith, nat_tests) in
    rw (at, past) refl
first_is_position z (Some k) h =
    let at = found_at z k h.0.high h.1 (λ j low. h.0.before j (omega arith) low) in
    let inside : ltb k (length z) ≡ true = grind (arith, nat_tests, h.0.high) in
    rw (at, inside) refl

-- ---- cutting

-- what a search found cuts the list there
pub record CutAt (z : List ℕ) (i : ℕ) : Type 0 where
  pub inside : i < length z
  pub parts : slice_split is_period z ≡ take i z ∷ slice_split is_period (drop (i + 1) z)

pub period_found : (z : List ℕ) (i : ℕ) → Some i ≡ position is_period z → CutAt z i
period_found z i e =
    let g = cond_some (ltb (position_or_len is_period z) (length z)) (position_or_len is_period z) i (sym e) in
    let lt : position_or_len is_period z < length z = ltb-true _ _ g.0 in
    subst (λ (n : ℕ). CutAt z n) g.1 (record { inside = lt; parts = slice_split_first is_period z 0 lt })

was_none : {A : Type 0} (b : Bool) (x : A) → None ≡ cond b (Some x) None → b ≡ false
was_none true x e = absurd cc
was_none false x e = refl

pub no_period : (z : List ℕ) → None ≡ position is_period z → slice_split is_period z ≡ z ∷ []
no_period z e =
    let past : length z ≤ position_or_len is_period z = ltb-false _ _ (was_none (ltb (position_or_len is_period z) (length z)) (position_or_len is_period z) e) in
    slice_split_none is_period z (All-from_get_or (λ x. is_period x ≡ false) z 0 (λ i h. fails_before_first is_period z i 0 (omega arith)))

-- a list is cut into one part at least
some_part : (p : ℕ → Bool) (z : List ℕ) → (x : List ℕ) × (rest : List (List ℕ)) × (slice_split p z ≡ x ∷ rest)
some_part p [] = ([], [], refl)
some_part p (y ∷ ys) =
    let more = some_part p ys in
    elim (p y) as (λ b. (x : List ℕ) × (rest : List (List ℕ)) × (cond b ([] ∷ slice_split p ys) (onto_first y (slice_split p ys)) ≡ x ∷ rest)) [
      | true ↦ ([], slice_split p ys, refl)
      | false ↦ (y ∷ more.0, more.1, ap (onto_first y) more.2)
    ]

-- six parts and more are no token
pub more_periods : (a b c d e z : List ℕ) → compact_of (a ∷ b ∷ c ∷ d ∷ e ∷ slice_split is_period z) ≡ Err Segments
more_periods a b c d e z = rw (some_part is_period z).2 refl
