-- The steps of a run.
use Rattle.std.proofs.Common.{◌≡◌, ℕ, zero, suc, ◌+◌, ◌-◌, ◌<◌, ◌≤◌, Bool, true, false, cond, List, [], ◌∷◌, ◌++◌, map, length, refl, sym, ◌∙◌, ap, arith, add-one, add-zero, append_assoc, length-append, Some}
use Rattle.std.specs.Prelude.{◌||◌, ◌&&◌, not}
use Rattle.std.specs.List.{list_any, find}
use Rattle.std.proofs.lemmas.List.{append-nil, length-map}
use Rattle.std.proofs.lemmas.List.Sums.{length-filter, count_by-le-length}
use Rattle.std.proofs.lemmas.List.Folds.{find-append}
use Rattle.std.proofs.lemmas.Nat.{mul-add-lt}
use Rattle.std.proofs.lemmas.Bool.{cases_Bool, false≢true}
use Rattle.std.proofs.Common.{inl, inr}
use Rattle.std.proofs.Math.Nat.{suc-mul}
use Rattle.std.specs.Prelude.{None, ◌*◌}
use Rattle.jwt_policy.specs.declared.mode.Mode.TheVariants.{Any, All}
use Rattle.jwt_verify.specs.declared.report.Try.{Try}
use Rattle.jwt_verify.specs.Table.{Table, below, verifies, verified, reached_in, reached, tried, entry, pairs, tries}
use Rattle.jwt_verify.specs.Walk.{is_tried, row, rows, HasComeTo, IsThrough, goes_on}
use Rattle.jwt_verify.specs.Paying.{IsFront}
use Rattle.jwt_verify.proofs.Below.{below-zero, below_more, length-below, grows, list_any-below, list_all-below, filter-map-below, flat_map-below, filter-flat_map, list_any-gap, filter-gap, flat_map-gap}

false_not_true : {A : Type 0} → (b : Bool) → b ≡ true → b ≡ false → A
false_not_true b x y = cc

pub row-zero : (t : Table) (i : ℕ) → row t i 0 ≡ []
unfolding row
row-zero t i = rw below-zero refl

pub row-more : (t : Table) (i j : ℕ) → row t i (j + 1) ≡ row t i j ++ cond (tried t i j) (entry t i j ∷ []) []
unfolding row
row-more t i j = filter-map-below (is_tried t) (entry t i) j

pub rows-zero : (t : Table) → rows t 0 ≡ []
unfolding rows
rows-zero t = rw below-zero refl

pub rows-more : (t : Table) (i : ℕ) → rows t (i + 1) ≡ rows t i ++ row t i t.keys
unfolding rows
rows-more t i = flat_map-below (λ n. row t n t.keys) i

pub tries_are_rows : (t : Table) → tries t ≡ rows t t.signatures
unfolding tries rows row pairs
tries_are_rows t = filter-flat_map (is_tried t) (λ i. map (entry t i) (below t.keys)) (below t.signatures)

-- once signature i is reached
pub tried_here : (t : Table) (i j : ℕ) → reached t i ≡ true → tried t i j ≡ (t.eligible i j && not (list_any (verifies t i) (below j)))
unfolding tried
tried_here t i j h = rw h refl

tried_unreached : (t : Table) (i j : ℕ) → reached t i ≡ false → tried t i j ≡ false
unfolding tried
tried_unreached t i j h = rw h refl

and-false : (b : Bool) → (b && false) ≡ false
and-false true = refl
and-false false = refl

pub untried_after : (t : Table) (i j : ℕ) → list_any (verifies t i) (below j) ≡ true → tried t i j ≡ false
unfolding tried
untried_after t i j h = rw h (ap (λ b. reached t i && b) (and-false (t.eligible i j)) ∙ and-false (reached t i))

ineligible_untried : (t : Table) (i j : ℕ) → t.eligible i j ≡ false → tried t i j ≡ false
unfolding tried
ineligible_untried t i j h = rw h (and-false (reached t i))

not-or : (a b : Bool) → not (a || b) ≡ (not a && not b)
not-or true b = refl
not-or false b = refl

pub reached-next : (t : Table) (i : ℕ) → reached t (i + 1) ≡ (reached t i && goes_on t.mode (verified t i))
unfolding reached reached_in
reached-next t i = elim t.mode as (λ m. reached_in m t (i + 1) ≡ (reached_in m t i && goes_on m (verified t i))) [
  | Any ↦ ap not (list_any-below (verified t) i) ∙ not-or (list_any (verified t) (below i)) (verified t i)
  | All ↦ list_all-below (verified t) i
]

pub reached-zero : (t : Table) → reached t 0 ≡ true
unfolding reached reached_in
reached-zero t = elim t.mode as (λ m. reached_in m t 0 ≡ true) [ Any ↦ rw below-zero refl | All ↦ rw below-zero refl ]

unreached_after : (t : Table) (i d : ℕ) → reached t i ≡ false → reached t (i + d) ≡ false
unreached_after t i zero h = ap (reached t) (add-zero i) ∙ h
unreached_after t i (suc d) h =
    let e : i + suc d ≡ (i + d) + 1 = omega arith in
    ap (reached t) e ∙ reached-next t (i + d) ∙ ap (λ b. b && goes_on t.mode (verified t (i + d))) (unreached_after t i d h)

-- a signature that is not reached has no tries
row_unreached : (t : Table) (i j : ℕ) → reached t i ≡ false → row t i j ≡ []
row_unreached t i zero h = row-zero t i
row_unreached t i (suc j) h =
    let e : suc j ≡ j + 1 = sym (add-one j) in
    ap (row t i) e ∙ row-more t i j ∙ rw (tried_unreached t i j h, row_unreached t i j h) refl

row_skips : (t : Table) (i j d : ℕ) → ((n : ℕ) → j ≤ n → n < j + d → tried t i n ≡ false) → row t i (j + d) ≡ row t i j
unfolding row
row_skips t i j d h = filter-gap (is_tried t) (entry t i) j d h

pub verifies_ineligible : (t : Table) (i j : ℕ) → t.eligible i j ≡ false → verifies t i j ≡ false
unfolding verifies
verifies_ineligible t i j h = rw h refl

pub verifies_is : (t : Table) (i j : ℕ) → t.eligible i j ≡ true → verifies t i j ≡ t.valid i j
unfolding verifies
verifies_is t i j h = rw h refl

pub at_start : (t : Table) → HasComeTo t 0 0 []
at_start t = record {
  listed = rw (rows-zero, row-zero) refl;
  reached = reached-zero t;
  unverified = rw below-zero refl;
}

-- keys that are not eligible are passed over
pub at_skip : (t : Table) (i j d : ℕ) (es : List Try) → HasComeTo t i j es → ((n : ℕ) → j ≤ n → n < j + d → t.eligible i n ≡ false) → HasComeTo t i (j + d) es
at_skip t i j d es a h = record {
  listed = a.listed ∙ ap (λ ys. rows t i ++ ys) (sym (row_skips t i j d (λ n l r. ineligible_untried t i n (h n l r))));
  reached = a.reached;
  unverified = list_any-gap (verifies t i) j d (λ n l r. verifies_ineligible t i n (h n l r)) ∙ a.unverified;
}

pub row-eligible : (t : Table) (i j : ℕ) (es : List Try) → HasComeTo t i j es → t.eligible i j ≡ true → row t i (j + 1) ≡ row t i j ++ entry t i j ∷ []
row-eligible t i j es a h = row-more t i j ∙ rw (tried_here t i j a.reached, h, a.unverified) refl

listed-more : (t : Table) (i j : ℕ) (es : List Try) → HasComeTo t i j es → t.eligible i j ≡ true → es ++ entry t i j ∷ [] ≡ rows t i ++ row t i (j + 1)
listed-more t i j es a h = rw (row-eligible t i j es a h, a.listed) (append_assoc (rows t i) (row t i j) (entry t i j ∷ []))

-- an eligible key that is not valid is tried
pub at_failed : (t : Table) (i j : ℕ) (es : List Try) → HasComeTo t i j es → t.eligible i j ≡ true → t.valid i j ≡ false → HasComeTo t i (j + 1) (es ++ entry t i j ∷ [])
at_failed t i j es a h v = record {
  listed = listed-more t i j es a h;
  reached = a.reached;
  unverified = list_any-below (verifies t i) j ∙ rw (a.unverified, verifies_is t i j h) v;
}

-- after the last key
pub at_end : (t : Table) (i : ℕ) (es : List Try) → HasComeTo t i t.keys es → IsThrough t i false es
unfolding verified
at_end t i es a = record { listed = a.listed ∙ sym (rows-more t i); reached = a.reached; verified = a.unverified }

or-true : (b : Bool) → (b || true) ≡ true
or-true true = refl
or-true false = refl

pub any_beyond : (p : ℕ → Bool) (a d : ℕ) → list_any p (below a) ≡ true → list_any p (below (a + d)) ≡ true
any_beyond p a zero h = ap (λ n. list_any p (below n)) (add-zero a) ∙ h
any_beyond p a (suc d) h =
    let e : a + suc d ≡ (a + d) + 1 = omega arith in
    ap (λ n. list_any p (below n)) e ∙ list_any-below p (a + d) ∙ ap (λ b. b || p (a + d)) (any_beyond p a d h)

-- an eligible key that is valid is tried, and no key after it
pub at_verified : (t : Table) (i j : ℕ) (es : List Try) → HasComeTo t i j es → j < t.keys → t.eligible i j ≡ true → t.valid i j ≡ true → IsThrough t i true (es ++ entry t i j ∷ [])
unfolding verified
at_verified t i j es a l h v =
    let here : list_any (verifies t i) (below (j + 1)) ≡ true = list_any-below (verifies t i) j ∙ rw (verifies_is t i j h, v) (or-true (list_any (verifies t i) (below j))) in
    let d = t.keys - (j + 1) in
    let e : (j + 1) + d ≡ t.keys = omega arith in
    let beyond : (n : ℕ) → j + 1 ≤ n → list_any (verifies t i) (below n) ≡ true =
    λ n m. (let f : (j + 1) + (n - (j + 1)) ≡ n = omega arith in ap (λ n. list_any (verifies t i) (below n)) (sym f) ∙ any_beyond (verifies t i) (j + 1) (n - (j + 1)) here) in
    record {
      listed = listed-more t i j es a h ∙ ap (λ ys. rows t i ++ ys) (sym (row_skips t i (j + 1) d (λ n m r. untried_after t i n (beyond n m))) ∙ ap (row t i) e) ∙ sym (rows-more t i);
      reached = a.reached;
      verified = beyond t.keys (omega arith);
    }

-- the next signature
pub through_next : (t : Table) (i : ℕ) (v : Bool) (es : List Try) → IsThrough t i v es → goes_on t.mode v ≡ true → HasComeTo t (i + 1) 0 es
through_next t i v es a h = record {
  listed = a.listed ∙ rw row-zero (sym (append-nil (rows t (i + 1))));
  reached = reached-next t i ∙ rw (a.reached, a.verified) h;
  unverified = rw below-zero refl;
}

rows_skip : (t : Table) (i d : ℕ) → reached t i ≡ false → rows t (i + d) ≡ rows t i
unfolding rows
rows_skip t i d h = flat_map-gap (λ n. row t n t.keys) i d
    (λ n l r. (let e : i + (n - i) ≡ n = omega arith in row_unreached t n t.keys (ap (reached t) (sym e) ∙ unreached_after t i (n - i) h)))

-- the mode ends the run
pub through_last : (t : Table) (i : ℕ) (v : Bool) (es : List Try) → IsThrough t i v es → i < t.signatures → goes_on t.mode v ≡ false → es ≡ tries t
through_last t i v es a l h =
    let out : reached t (i + 1) ≡ false = reached-next t i ∙ rw (a.reached, a.verified) h in
    let e : (i + 1) + (t.signatures - (i + 1)) ≡ t.signatures = omega arith in
    a.listed ∙ sym (rows_skip t (i + 1) (t.signatures - (i + 1)) out) ∙ ap (rows t) e ∙ sym (tries_are_rows t)

-- no signature is left
pub at_last : (t : Table) (es : List Try) → HasComeTo t t.signatures 0 es → es ≡ tries t
at_last t es a = a.listed ∙ rw row-zero (append-nil (rows t t.signatures)) ∙ sym (tries_are_rows t)

regroup : {X : Type 0} (before here x y es : List X) (e : X) → es ≡ before ++ here → (before ++ ((here ++ e ∷ []) ++ x)) ++ y ≡ es ++ e ∷ (x ++ y)
regroup before here x y es e h = rw h (simp append_assoc)

-- an eligible key is the next try
pub at_pending : (t : Table) (i j : ℕ) (es : List Try) → HasComeTo t i j es → i < t.signatures → j < t.keys → t.eligible i j ≡ true → (rest : List Try) × (tries t ≡ es ++ entry t i j ∷ rest)
at_pending t i j es a l m h =
    let r = grows (row t i) (λ n. cond (tried t i n) (entry t i n ∷ []) []) (row-more t i) (j + 1) (t.keys - (j + 1)) in
    let q = grows (rows t) (λ n. row t n t.keys) (rows-more t) (i + 1) (t.signatures - (i + 1)) in
    let e : (j + 1) + (t.keys - (j + 1)) ≡ t.keys = omega arith in
    let f : (i + 1) + (t.signatures - (i + 1)) ≡ t.signatures = omega arith in (
      r.0 ++ q.0,
      tries_are_rows t ∙ ap (rows t) (sym f) ∙ q.1 ∙ ap (λ ys. ys ++ q.0) (rows-more t i ∙ ap (λ ys. rows t i ++ ys) (ap (row t i) (sym e) ∙ r.1 ∙ ap (λ ys. ys ++ r.0) (row-eligible t i j es a h)))
          ∙ regroup (rows t i) (row t i j) r.0 q.0 es (entry t i j) a.listed,
    )

length-row : (t : Table) (i j : ℕ) → length (row t i j) ≤ j
unfolding row
length-row t i j = omega (arith, length-filter (is_tried t) (map (entry t i) (below j)), count_by-le-length (is_tried t) (map (entry t i) (below j)), length-map (below j) (entry t i), length-below j)

pub length-rows : (t : Table) (i : ℕ) → length (rows t i) ≤ i * t.keys
length-rows t zero = rw rows-zero (omega arith)
length-rows t (suc i) =
    let e : suc i ≡ i + 1 = sym (add-one i) in
    let split : length (rows t (suc i)) ≡ length (rows t i) + length (row t i t.keys) = ap (λ n. length (rows t n)) e ∙ ap length (rows-more t i) ∙ length-append (rows t i) (row t i t.keys) in
    omega (arith, split, length-rows t i, length-row t i t.keys, suc-mul i t.keys)

-- fewer tries than pairs stand before a pair
pub at_room : {t : Table} {i j : ℕ} {es : List Try} → HasComeTo t i j es → i < t.signatures → j < t.keys → length es < t.signatures * t.keys
at_room {t} {i} {j} {es} a l m =
    let e : length es ≡ length (rows t i) + length (row t i j) = ap length a.listed ∙ length-append (rows t i) (row t i j) in
    omega (arith, e, length-rows t i, length-row t i j, mul-add-lt i t.keys j t.signatures l m)

rows_front : (t : Table) (i : ℕ) → i ≤ t.signatures → IsFront t (rows t i)
rows_front t i l =
    let f : i + (t.signatures - i) ≡ t.signatures = omega arith in
    let q = grows (rows t) (λ n. row t n t.keys) (rows-more t) i (t.signatures - i) in
    (q.0, tries_are_rows t ∙ ap (rows t) (sym f) ∙ q.1)

-- the tries before a pair are a prefix of the tries
pub at_front : {t : Table} {i j : ℕ} {es : List Try} → HasComeTo t i j es → i < t.signatures → j ≤ t.keys → IsFront t es
at_front {t} {i} {j} {es} a l m =
    let e : j + (t.keys - j) ≡ t.keys = omega arith in
    let r = grows (row t i) (λ n. cond (tried t i n) (entry t i n ∷ []) []) (row-more t i) j (t.keys - j) in
    let q = rows_front t (i + 1) (omega arith) in
    (r.0 ++ q.0, q.1 ∙ ap (λ ys. ys ++ q.0) (rows-more t i ∙ ap (λ ys. rows t i ++ ys) (ap (row t i) (sym e) ∙ r.1)) ∙ rw a.listed (simp append_assoc))

pub through_front : {t : Table} {i : ℕ} {v : Bool} {es : List Try} → IsThrough t i v es → i < t.signatures → IsFront t es
through_front {t} {i} {v} {es} a l = let q = rows_front t (i + 1) (omega arith) in (q.0, q.1 ∙ ap (λ ys. ys ++ q.0) (sym a.listed))

pub find_none : (p : ℕ → Bool) (xs : List ℕ) → list_any p xs ≡ false → find p xs ≡ None
find_none p [] h = refl
find_none p (x ∷ xs) h = grind (arith, find_none p xs)

-- the least number that passes
pub find-below : (p : ℕ → Bool) (j d : ℕ) → list_any p (below j) ≡ false → p j ≡ true → find p (below ((j + 1) + d)) ≡ Some j
find-below p j zero h k = ap (λ n. find p (below n)) (add-zero (j + 1)) ∙ ap (find p) (below_more j) ∙ find-append p (below j) (j ∷ []) ∙ rw (find_none p (below j) h, k) refl
find-below p j (suc d) h k =
    let e : (j + 1) + suc d ≡ ((j + 1) + d) + 1 = omega arith in
    ap (λ n. find p (below n)) e ∙ ap (find p) (below_more ((j + 1) + d)) ∙ find-append p (below ((j + 1) + d)) (((j + 1) + d) ∷ []) ∙ rw (find-below p j d h k) refl

pub found_at : (t : Table) (i j : ℕ) (es : List Try) → HasComeTo t i j es → j < t.keys → t.eligible i j ≡ true → t.valid i j ≡ true → find (verifies t i) (below t.keys) ≡ Some j
found_at t i j es a l h v =
    let e : (j + 1) + (t.keys - (j + 1)) ≡ t.keys = omega arith in
    ap (λ n. find (verifies t i) (below n)) (sym e) ∙ find-below (verifies t i) j (t.keys - (j + 1)) a.unverified (verifies_is t i j h ∙ v)

pub found_none : (t : Table) (i : ℕ) (es : List Try) → HasComeTo t i t.keys es → find (verifies t i) (below t.keys) ≡ None
found_none t i es a = find_none (verifies t i) (below t.keys) a.unverified

-- a key that is eligible was seen
pub seen_at : (p : ℕ → Bool) (j d : ℕ) → p j ≡ true → list_any p (below ((j + 1) + d)) ≡ true
seen_at p j d h = any_beyond p (j + 1) d (list_any-below p j ∙ rw h (or-true (list_any p (below j))))

reached_before : (t : Table) (n d : ℕ) → reached t (n + d) ≡ true → reached t n ≡ true
reached_before t n d h = elim (cases_Bool (reached t n)) [
  | inl y ↦ y
  | inr f ↦ absurd (false≢true (sym (unreached_after t n d f) ∙ h))
]

pub reached_up_to : (t : Table) (n i : ℕ) → n ≤ i → reached t i ≡ true → reached t n ≡ true
reached_up_to t n i l h = let e : n + (i - n) ≡ i = omega arith in reached_before t n (i - n) (ap (reached t) e ∙ h)

pub unreached_from : (t : Table) (i m : ℕ) → i ≤ m → reached t i ≡ false → reached t m ≡ false
unreached_from t i m l h = let e : i + (m - i) ≡ m = omega arith in ap (reached t) (sym e) ∙ unreached_after t i (m - i) h
