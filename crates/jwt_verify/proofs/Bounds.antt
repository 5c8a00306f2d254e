-- The tries are in order, eligible and within the bound.
use Rattle.std.proofs.Common.{◌≡◌, ℕ, zero, suc, ◌+◌, ◌*◌, ◌<◌, ◌≤◌, Bool, true, false, cond, List, [], ◌∷◌, ◌++◌, length, refl, sym, arith, add-one, append_assoc, inl, inr, ◌⊎◌, Option, None}
use Rattle.std.specs.Prelude.{◌&&◌}
use Rattle.std.specs.List.{All, AllPairs, sum_by}
use Rattle.std.proofs.lemmas.List.{append-nil}
use Rattle.std.proofs.lemmas.List.Elements.{All-nil, All-head, All-tail, All-push, All-weaker, filter_passes}
use Rattle.std.proofs.lemmas.List.Quantifiers.{all_pairs_push}
use Rattle.std.proofs.lemmas.List.Sums.{sum_by-cons}
use Rattle.std.proofs.Math.Nat.{mul-le-mul_right, suc-mul}
use Rattle.jwt_verify.specs.declared.report.Try.{Try}
use Rattle.jwt_verify.specs.Table.{Table, reached, tried, entry, pairs, tries, work, is_within, stop}
use Rattle.jwt_verify.specs.Walk.{is_tried, row, rows}
use Rattle.jwt_verify.specs.Laws.{IsBefore, bound, TriesAreBounded}
use Rattle.jwt_verify.proofs.Paying.{paid_all, within_less}
use Rattle.jwt_verify.proofs.Walking.{row-zero, row-more, rows-zero, rows-more, tries_are_rows, length-rows}

-- e stands before the pair of i and j
abbrev pub IsEarlier : ℕ → ℕ → Try → Type 0
IsEarlier i j e = (e.signature < i) ⊎ ((e.signature ≡ i) × (e.key < j))

abbrev pub HasCost : Table → Try → Type 0
HasCost t e = e.cost ≡ t.cost e.signature e.key

pub record IsOrdered (t : Table) (i j : ℕ) (es : List Try) : Type 0 where
  pub ordered : AllPairs IsBefore es
  pub earlier : All (IsEarlier i j) es
  pub costs : All (HasCost t) es

later : (t : Table) (i j : ℕ) (es : List Try) → IsOrdered t i j es → IsOrdered t i (j + 1) es
later t i j es o = record {
  costs = o.costs;
  ordered = o.ordered;
  earlier = All-weaker (IsEarlier i j) (IsEarlier i (j + 1)) (λ e h. elim h [ inl l ↦ inl l | inr p ↦ inr (p.0, omega (arith, p.1)) ]) es o.earlier;
}

next_row : (t : Table) (i j : ℕ) (es : List Try) → IsOrdered t i j es → IsOrdered t (i + 1) 0 es
next_row t i j es o = record {
  costs = o.costs;
  ordered = o.ordered;
  earlier = All-weaker (IsEarlier i j) (IsEarlier (i + 1) 0) (λ e h. elim h [ inl l ↦ inl (omega (arith, l)) | inr p ↦ inl (omega (arith, p.0)) ]) es o.earlier;
}

pushed : (t : Table) (i j : ℕ) (es : List Try) → IsOrdered t i j es → IsOrdered t i (j + 1) (es ++ entry t i j ∷ [])
pushed t i j es o = record {
  costs = All-push (HasCost t) es (entry t i j) o.costs refl;
  ordered = all_pairs_push IsBefore es (entry t i j) o.ordered (λ k d l. o.earlier k d l);
  earlier = All-push (IsEarlier i (j + 1)) es (entry t i j) (later t i j es o).earlier (inr (refl, omega arith));
}

row_step : (t : Table) (i j : ℕ) (es : List Try) (b : Bool) → IsOrdered t i j es → IsOrdered t i (j + 1) (es ++ cond b (entry t i j ∷ []) [])
row_step t i j es true o = pushed t i j es o
row_step t i j es false o = rw append-nil (later t i j es o)

pub row_ordered : (t : Table) (i j : ℕ) → IsOrdered t i 0 (rows t i) → IsOrdered t i j (rows t i ++ row t i j)
row_ordered t i zero o = rw (row-zero, append-nil) o
row_ordered t i (suc j) o =
    let e : suc j ≡ j + 1 = sym (add-one j) in
    rw (e, row-more, ← append_assoc) (row_step t i j (rows t i ++ row t i j) (tried t i j) (row_ordered t i j o))

pub rows_ordered : (t : Table) (i : ℕ) → IsOrdered t i 0 (rows t i)
rows_ordered t zero = rw rows-zero (record { ordered = λ i j d l m. absurd (omega arith); earlier = All-nil (IsEarlier 0 0); costs = All-nil (HasCost t) })
rows_ordered t (suc i) =
    let e : suc i ≡ i + 1 = sym (add-one i) in
    rw (e, rows-more) (next_row t i t.keys (rows t i ++ row t i t.keys) (row_ordered t i t.keys (rows_ordered t i)))

tried_eligible : (t : Table) (i j : ℕ) → tried t i j ≡ true → t.eligible i j ≡ true
unfolding tried
tried_eligible t i j h = and_left (t.eligible i j) _ (and_right (reached t i) _ h)
  where
    and_left : (a b : Bool) → (a && b) ≡ true → a ≡ true
    and_left true b h = refl
    and_left false b h = h

    and_right : (a b : Bool) → (a && b) ≡ true → b ≡ true
    and_right true b h = h
    and_right false b h = cc

pub tries_eligible : (t : Table) → All (λ e. t.eligible e.signature e.key ≡ true) (tries t)
unfolding tries
tries_eligible t = All-weaker (λ e. is_tried t e ≡ true) (λ e. t.eligible e.signature e.key ≡ true) (λ e h. tried_eligible t e.signature e.key h) (tries t) (filter_passes (is_tried t) (pairs t))

pub sum_bound : (t : Table) (common : ℕ) (extra : ℕ → ℕ → ℕ) → ((i j : ℕ) → t.eligible i j ≡ true → t.cost i j ≤ common + extra i j) → (es : List Try) → All (HasCost t) es → All (λ e. t.eligible e.signature e.key ≡ true) es
    → sum_by (λ e. e.cost) es ≤ length es * common + sum_by (λ e. extra e.signature e.key) es
sum_bound t common extra h [] all eligible = omega arith
sum_bound t common extra h (e ∷ es) all eligible =
    let here : e.cost ≡ t.cost e.signature e.key = All-head (HasCost t) e es all in
    let rest = sum_bound t common extra h es (All-tail (HasCost t) e es all) (All-tail (λ e. t.eligible e.signature e.key ≡ true) e es eligible) in
    let may : t.eligible e.signature e.key ≡ true = All-head (λ e. t.eligible e.signature e.key ≡ true) e es eligible in
    omega (arith, here, rest, h e.signature e.key may, sum_by-cons (λ (e : Try). e.cost) e es, sum_by-cons (λ (e : Try). extra e.signature e.key) e es, suc-mul (length es) common)

pub length-tries : (t : Table) → length (tries t) ≤ t.signatures * t.keys
length-tries t = rw tries_are_rows (length-rows t t.signatures)

pub work_bounded : (t : Table) (common : ℕ) (extra : ℕ → ℕ → ℕ) → ((i j : ℕ) → t.eligible i j ≡ true → t.cost i j ≤ common + extra i j) → work (tries t) ≤ bound t common extra
unfolding work
work_bounded t common extra h =
    let costs : All (HasCost t) (tries t) = rw tries_are_rows (rows_ordered t t.signatures).costs in
    omega (arith, sum_bound t common extra h (tries t) costs (tries_eligible t), mul-le-mul_right common (length-tries t))

pub tries_bounded : TriesAreBounded
tries_bounded t = (rw tries_are_rows (rows_ordered t t.signatures).ordered, tries_eligible t, length-tries t, work_bounded t)

-- with room for all tries nothing stops the run
pub never_stops : (t : Table) (octets : ℕ) (calls : Option ℕ) → work (tries t) ≤ octets → is_within calls (t.signatures * t.keys) ≡ true → stop t octets calls ≡ None
never_stops t octets calls w c = (paid_all t octets calls (tries t) refl w (within_less calls (length (tries t)) (t.signatures * t.keys) (length-tries t) c)).1
