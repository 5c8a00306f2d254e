-- A run asks for the validity of its tries alone.
use Rattle.std.proofs.Common.{◌≡◌, ℕ, zero, suc, ◌+◌, ◌-◌, ◌<◌, ◌≤◌, Bool, true, false, cond, List, [], ◌∷◌, ◌++◌, map, length, take, drop, get_or, refl, sym, ◌∙◌, ap, subst, arith, add-one, append_assoc, length-append, inl, inr, ◌⊎◌, Option, None, Some, eqb, ltb}
use Rattle.std.specs.Prelude.{◌&&◌, ◌||◌, not, slice_get}
use Rattle.std.specs.List.{All, Contains, list_any, find}
use Rattle.std.proofs.lemmas.List.{append-nil, get_or_append_left, get_or_push, take_at, take-append-drop, drop_more}
use Rattle.std.proofs.lemmas.List.Elements.{All-weaker}
use Rattle.std.proofs.lemmas.List.FromFn.{get_or-map-range_with_len}
use Rattle.std.proofs.lemmas.Bool.{cases_lt}
use Rattle.std.proofs.Common.{zero-add}
use Rattle.jwt_verify.proofs.Bounds.{IsEarlier, rows_ordered, row_ordered}
use Rattle.std.proofs.lemmas.Option.{slice_get_past}
use Rattle.std.specs.Prelude.{replicate}
use Rattle.std.specs.Option.{option_map_or}
use Rattle.std.proofs.lemmas.Bool.{cases_Bool, false≢true}
use Rattle.jwt_policy.specs.declared.sig_fault.SigFault.{SigFault}
use Rattle.jwt_verify.specs.declared.report.Try.{Try}
use Rattle.jwt_verify.specs.declared.report.SigState.{SigState}
use Rattle.jwt_verify.specs.declared.report.SigState.TheVariants.{Verified, NotReached, Stopped}
use Rattle.jwt_verify.specs.Table.{Table, below, verifies, verified, tried, entry, tries, stop, reached, state_at, states_at, outcome, work, is_within, paid, affords}
use Rattle.jwt_verify.specs.Walk.{HasComeTo, IsThrough, row, rows, goes_on}
use Rattle.jwt_verify.proofs.SignedBy.{state_of}
use Rattle.jwt_verify.proofs.Pending.{IsPending}
use Rattle.jwt_verify.specs.Laws.{with_valid}
use Rattle.jwt_verify.proofs.Below.{below-zero, list_any-below, map-agree, grows}
use Rattle.jwt_verify.proofs.Paying.{paid_is, paid_all, paid_rest, paid_fits, paid_over, slice_get_at, paid_front, within_less, work-append}
use Rattle.jwt_verify.proofs.Ending.{recorded_stop, recorded_done, recorded_all, recorded_filled, state_before, state_reached}
use Rattle.jwt_verify.proofs.Walking.{row-zero, row-more, row-eligible, rows-zero, rows-more, tries_are_rows, tried_here, verifies_is, verifies_ineligible, reached-next, reached-zero, reached_up_to, at_start, at_skip, at_failed, at_end, at_verified, at_pending, through_next, through_last, at_last, found_at, found_none}

All-left : {X : Type 0} (P : X → Type 0) (xs ys : List X) → All P (xs ++ ys) → All P xs
All-left P xs ys h k d l = let m : k < length (xs ++ ys) = omega (arith, length-append xs ys) in rw get_or_append_left at (h k d m)

All-at_end : {X : Type 0} (P : X → Type 0) (xs : List X) (x : X) → All P (xs ++ x ∷ []) → P x
All-at_end P xs x h = let m : length xs < length (xs ++ x ∷ []) = omega (arith, length-append xs (x ∷ [])) in subst P (get_or_push xs x x (length xs) refl) (h (length xs) x m)

or_false : (a b : Bool) → (a || b) ≡ false → (a ≡ false) × (b ≡ false)
or_false true b h = (h, cc)
or_false false b h = (refl, h)

and_true : (a b : Bool) → (a && b) ≡ true → (a ≡ true) × (b ≡ true)
and_true true b h = (refl, h)
and_true false b h = (h, cc)

not_true : (a : Bool) → not a ≡ true → a ≡ false
not_true true h = sym h
not_true false h = refl

-- the least number that passes
pub least_found : (p : ℕ → Bool) (n : ℕ) → list_any p (below n) ≡ true → (j : ℕ) × (j < n) × (p j ≡ true) × (list_any p (below j) ≡ false)
least_found p zero h = absurd (false≢true (sym (ap (list_any p) below-zero) ∙ h))
least_found p (suc n) h =
    let r = least_found p n in
    let e : suc n ≡ n + 1 = sym (add-one n) in
    let any : (list_any p (below n) || p n) ≡ true = sym (list_any-below p n) ∙ ap (λ m. list_any p (below m)) (sym e) ∙ h in
    elim (cases_Bool (list_any p (below n))) [
      | inl t ↦ (let q = r t in (q.0, omega (arith, q.1), q.2, q.3))
      | inr f ↦ (n, omega arith, rw f at any, f)
    ]

split : {X : Type 0} (xs ys es : List X) (e : X) (rest : List X) → xs ++ ys ≡ es ++ e ∷ rest → ((r : List X) × (xs ≡ es ++ e ∷ r)) ⊎ ((fs : List X) × (es ≡ xs ++ fs) × (ys ≡ fs ++ e ∷ rest))
split [] ys es e rest h = inr (es, refl, h)
split (x ∷ xs) ys [] e rest h = let p : x ≡ e = cc in inl (xs, ap (λ y. y ∷ xs) p)
split (x ∷ xs) ys (y ∷ es) e rest h =
    let p : x ≡ y = cc in
    let q : xs ++ ys ≡ es ++ e ∷ rest = cc in
    elim (split xs ys es e rest q) [
      | inl r ↦ inl (r.0, rw (p, r.1) refl)
      | inr r ↦ inr (r.0, rw (p, r.1) refl, r.2)
    ]

not_nil : {X A : Type 0} (es : List X) (e : X) (rest : List X) → [] ≡ es ++ e ∷ rest → A
not_nil [] e rest h = cc
not_nil (x ∷ es) e rest h = cc

only_one : {X : Type 0} (x : X) (es : List X) (e : X) (rest : List X) → x ∷ [] ≡ es ++ e ∷ rest → (es ≡ []) × (e ≡ x)
only_one x [] e rest h = let p : e ≡ x = cc in (refl, p)
only_one x (y ∷ es) e rest h = let q : [] ≡ es ++ e ∷ rest = cc in not_nil es e rest q

tried_parts : (t : Table) (i j : ℕ) → tried t i j ≡ true → (reached t i ≡ true) × (t.eligible i j ≡ true) × (list_any (verifies t i) (below j) ≡ false)
unfolding tried
tried_parts t i j h =
    let p = and_true (reached t i) (t.eligible i j && not (list_any (verifies t i) (below j))) h in
    let q = and_true (t.eligible i j) (not (list_any (verifies t i) (below j))) p.1 in
    (p.0, q.0, not_true (list_any (verifies t i) (below j)) q.1)

locate_row : (t : Table) (i j : ℕ) (es : List Try) (e : Try) (rest : List Try) → row t i j ≡ es ++ e ∷ rest → (n : ℕ) × (n < j) × (es ≡ row t i n) × (tried t i n ≡ true) × (e ≡ entry t i n)
locate_row t i zero es e rest h = not_nil es e rest (sym (row-zero t i) ∙ h)
locate_row t i (suc j) es e rest h =
    let f : suc j ≡ j + 1 = sym (add-one j) in
    let k : row t i j ++ cond (tried t i j) (entry t i j ∷ []) [] ≡ es ++ e ∷ rest = sym (row-more t i j) ∙ ap (row t i) (sym f) ∙ h in
    let ih = locate_row t i j es e in
    elim (split (row t i j) (cond (tried t i j) (entry t i j ∷ []) []) es e rest k) [
      | inl r ↦ (let q = ih r.0 r.1 in (q.0, omega (arith, q.1), q.2, q.3, q.4))
      | inr r ↦ elim (cases_Bool (tried t i j)) [
        | inl y ↦ (let one = only_one (entry t i j) r.0 e rest (rw y at r.2) in (j, omega arith, r.1 ∙ ap (λ ys. row t i j ++ ys) one.0 ∙ append-nil (row t i j), y, one.1))
        | inr n ↦ not_nil r.0 e rest (rw n at r.2)
      ]
    ]

-- a try stands at a pair, and the tries before it are those before that pair
locate : (t : Table) (i : ℕ) (es : List Try) (e : Try) (rest : List Try) → rows t i ≡ es ++ e ∷ rest → (m : ℕ) × (n : ℕ) × (m < i) × IsPending t m n es × (e ≡ entry t m n)
locate t zero es e rest h = not_nil es e rest (sym (rows-zero t) ∙ h)
locate t (suc i) es e rest h =
    let f : suc i ≡ i + 1 = sym (add-one i) in
    let k : rows t i ++ row t i t.keys ≡ es ++ e ∷ rest = sym (rows-more t i) ∙ ap (rows t) (sym f) ∙ h in
    let ih = locate t i es e in
    elim (split (rows t i) (row t i t.keys) es e rest k) [
      | inl r ↦ (let q = ih r.0 r.1 in (q.0, q.1, omega (arith, q.2), q.3, q.4))
      | inr r ↦ (let q = locate_row t i t.keys r.0 e rest r.2 in
          let p = tried_parts t i q.0 q.3 in (
            i,
            q.0,
            omega arith,
            record { at = record { listed = r.1 ∙ ap (λ ys. rows t i ++ ys) q.2; reached = p.0; unverified = p.2 }; within = q.1; eligible = p.1 },
            q.4,
          ))
    ]

module _ (t : Table) (v : ℕ → ℕ → Bool) where
  abbrev Agrees : Try → Type 0
  Agrees e = t.valid e.signature e.key ≡ v e.signature e.key

  abbrev other : Table
  other = with_valid t v

  -- within a signature
  along : (i j : ℕ) (es : List Try) → HasComeTo other i 0 (rows t i) → HasComeTo t i j es → All Agrees es → HasComeTo other i j es
  along i zero es start a agree = rw (a.listed, row-zero, append-nil) start
  along i (suc j) es start a agree =
      let before = rows t i ++ row t i j in
      let e : suc j ≡ j + 1 = sym (add-one j) in
      let none : (list_any (verifies t i) (below j) || verifies t i j) ≡ false = sym (list_any-below (verifies t i) j) ∙ ap (λ m. list_any (verifies t i) (below m)) (sym e) ∙ a.unverified in
      let parts = or_false (list_any (verifies t i) (below j)) (verifies t i j) none in
      let at : HasComeTo t i j before = record { listed = refl; reached = a.reached; unverified = parts.0 } in
      let split : es ≡ before ++ cond (tried t i j) (entry t i j ∷ []) [] = a.listed ∙ ap (λ m. rows t i ++ row t i m) e ∙ ap (λ ys. rows t i ++ ys) (row-more t i j) ∙ sym (append_assoc (rows t i) (row t i j) _) in
      let agree' : All Agrees (before ++ cond (tried t i j) (entry t i j ∷ []) []) = subst (All Agrees) split agree in
      let there : HasComeTo other i j before = along i j before start at (All-left Agrees before _ agree') in
      elim (cases_Bool (t.eligible i j)) [
        | inl y ↦ (let yes : tried t i j ≡ true = tried_here t i j a.reached ∙ rw (y, parts.0) refl in
            let whole : es ≡ before ++ entry t i j ∷ [] = rw yes at split in
            let same : t.valid i j ≡ v i j = All-at_end Agrees before (entry t i j) (subst (All Agrees) whole agree) in
            let fails : v i j ≡ false = sym same ∙ sym (verifies_is t i j y) ∙ parts.1 in
            rw (e, whole) (at_failed other i j before there y fails))
        | inr n ↦ (let no : tried t i j ≡ false = tried_here t i j a.reached ∙ rw n refl in
            let whole : es ≡ before = rw (no, append-nil) at split in
            rw (e, whole) (at_skip other i j 1 before there (λ m l r. (let q : j ≡ m = omega arith in rw (← q) n))))
      ]

  -- through a signature
  through : (i : ℕ) (b : Bool) (es : List Try) → HasComeTo other i 0 (rows t i) → IsThrough t i b es → All Agrees es → IsThrough other i b es × (find (verifies other i) (below t.keys) ≡ find (verifies t i) (below t.keys))
  unfolding verified
  through i false es start a agree =
      let at : HasComeTo t i t.keys es = record { listed = a.listed ∙ rows-more t i; reached = a.reached; unverified = a.verified } in
      let there : HasComeTo other i t.keys es = along i t.keys es start at agree in
      (at_end other i es there, found_none other i es there ∙ sym (found_none t i es at))
  through i true es start a agree =
      let l = least_found (verifies t i) t.keys a.verified in
      let j = l.0 in
      let before = rows t i ++ row t i j in
      let at : HasComeTo t i j before = record { listed = refl; reached = a.reached; unverified = l.3 } in
      let eligible : t.eligible i j ≡ true = elim (cases_Bool (t.eligible i j)) [ inl y ↦ y | inr n ↦ absurd (false≢true (sym (verifies_ineligible t i j n) ∙ l.2)) ] in
      let valid : t.valid i j ≡ true = sym (verifies_is t i j eligible) ∙ l.2 in
      let done = at_verified t i j before at l.1 eligible valid in
      let whole : es ≡ before ++ entry t i j ∷ [] = a.listed ∙ sym done.listed in
      let agree' : All Agrees (before ++ entry t i j ∷ []) = subst (All Agrees) whole agree in
      let there : HasComeTo other i j before = along i j before start at (All-left Agrees before (entry t i j ∷ []) agree') in
      let valid' : v i j ≡ true = sym (All-at_end Agrees before (entry t i j) agree') ∙ valid in (
        rw whole (at_verified other i j before there l.1 eligible valid'),
        found_at other i j before there l.1 eligible valid' ∙ sym (found_at t i j before at l.1 eligible valid),
      )

  -- up to a signature
  starts : (i : ℕ) → reached t i ≡ true → All Agrees (rows t i) → HasComeTo other i 0 (rows t i)
  starts zero h agree = rw rows-zero (at_start other)
  starts (suc i) h agree =
      let e : suc i ≡ i + 1 = sym (add-one i) in
      let parts = and_true (reached t i) (goes_on t.mode (verified t i)) (sym (reached-next t i) ∙ ap (reached t) (sym e) ∙ h) in
      let agree' : All Agrees (rows t i ++ row t i t.keys) = subst (All Agrees) (ap (rows t) e ∙ rows-more t i) agree in
      let start : HasComeTo other i 0 (rows t i) = starts i parts.0 (All-left Agrees (rows t i) (row t i t.keys) agree') in
      let a : IsThrough t i (verified t i) (rows t (i + 1)) = record { listed = refl; reached = parts.0; verified = refl } in
      let there = through i (verified t i) (rows t (i + 1)) start a (subst (All Agrees) (ap (rows t) e) agree) in
      rw e (through_next other i (verified t i) (rows t (i + 1)) there.0 parts.1)

  -- what becomes of a signature that the run is through with
  same_outcome : (i : ℕ) → reached t i ≡ true → All Agrees (rows t (i + 1)) → outcome other i ≡ outcome t i
  unfolding outcome
  same_outcome i h agree =
      let agree' : All Agrees (rows t i ++ row t i t.keys) = subst (All Agrees) (rows-more t i) agree in
      let start : HasComeTo other i 0 (rows t i) = starts i h (All-left Agrees (rows t i) (row t i t.keys) agree') in
      let a : IsThrough t i (verified t i) (rows t (i + 1)) = record { listed = refl; reached = h; verified = refl } in
      ap (state_of (t.bar i) (list_any (t.eligible i) (below t.keys))) (through i (verified t i) (rows t (i + 1)) start a agree).1

-- the first signature that ends the run
last_reached : (t : Table) (n : ℕ) → reached t n ≡ false → (i : ℕ) × (i < n) × (reached t i ≡ true) × (goes_on t.mode (verified t i) ≡ false)
last_reached t zero h = absurd (false≢true (sym h ∙ reached-zero t))
last_reached t (suc n) h =
    let e : suc n ≡ n + 1 = sym (add-one n) in
    let ih = last_reached t n in
    let step : (reached t n && goes_on t.mode (verified t n)) ≡ false = sym (reached-next t n) ∙ ap (reached t) (sym e) ∙ h in
    elim (cases_Bool (reached t n)) [
      | inl y ↦ (n, omega arith, y, rw y at step)
      | inr f ↦ (let q = ih f in (q.0, omega (arith, q.1), q.2, q.3))
    ]

rows_within : (t : Table) (m i : ℕ) → m ≤ i → (rest : List Try) × (rows t i ≡ rows t m ++ rest)
rows_within t m i l =
    let e : m + (i - m) ≡ i = omega arith in
    let q = grows (rows t) (λ n. row t n t.keys) (rows-more t) m (i - m) in
    (q.0, ap (rows t) (sym e) ∙ q.1)

take_next : {X : Type 0} (es : List X) (e : X) (rest : List X) → take (length es + 1) (es ++ e ∷ rest) ≡ es ++ e ∷ []
take_next es e rest = ap (take (length es + 1)) (sym (append_assoc es (e ∷ []) rest)) ∙ take_at (es ++ e ∷ []) rest (length es + 1) (length-append es (e ∷ []))

module _ (t : Table) (v : ℕ → ℕ → Bool) (octets : ℕ) (calls : Option ℕ) where
  abbrev twin : Table
  twin = with_valid t v

  -- what a run leaves is the same
  pub record IsSame : Type 0 where
    pub paid_same : paid twin octets calls ≡ paid t octets calls
    pub stop_same : stop twin octets calls ≡ stop t octets calls
    pub states_same : states_at twin (stop t octets calls) ≡ states_at t (stop t octets calls)

  agree_before : (m i : ℕ) → m ≤ i → All (Agrees t v) (rows t i) → All (Agrees t v) (rows t m)
  agree_before m i l agree = let q = rows_within t m i l in All-left (Agrees t v) (rows t m) q.0 (subst (All (Agrees t v)) q.1 agree)

  outcomes : (i : ℕ) → reached t i ≡ true → All (Agrees t v) (rows t i) → map (outcome twin) (below i) ≡ map (outcome t) (below i)
  outcomes i h agree = map-agree (outcome twin) (outcome t) i (λ n l. same_outcome t v n (reached_up_to t n i (omega arith) h) (agree_before (n + 1) i (omega (arith, l)) agree))

  filled : List SigState → List SigState
  filled sts = sts ++ replicate (t.signatures - length sts) NotReached

  same_stopped : (e : Try) (rest : List Try) → tries t ≡ paid t octets calls ++ e ∷ rest → All (Agrees t v) (paid t octets calls) → IsSame
  unfolding stop affords filled
  same_stopped e rest whole agree =
      let p = paid t octets calls in
      let loc = locate t t.signatures p e rest (sym (tries_are_rows t) ∙ whole) in
      let i = loc.0 in
      let j = loc.1 in
      let pending = loc.3 in
      let agree' : All (Agrees t v) (rows t i) = All-left (Agrees t v) (rows t i) (row t i j) (subst (All (Agrees t v)) pending.at.listed agree) in
      let there : HasComeTo twin i j p = along t v i j p (starts t v i pending.at.reached agree') pending.at agree in
      let next = at_pending twin i j p there loc.2 pending.within pending.eligible in
      let is : e ≡ entry t i j = loc.4 in
      let whole' : tries twin ≡ p ++ e ∷ next.0 = next.1 ∙ ap (λ x. p ++ x ∷ next.0) (sym is) in
      let fits = paid_fits t octets calls in
      let longer : length p < length (tries t) = omega (arith, ap length whole, length-append p (e ∷ rest)) in
      let fronts : take (length p + 1) (tries twin) ≡ take (length p + 1) (tries t) =
      ap (take (length p + 1)) whole' ∙ take_next p e next.0 ∙ sym (ap (take (length p + 1)) whole ∙ take_next p e rest) in
      let over : affords twin octets calls (length p + 1) ≡ false = rw fronts (paid_over t octets calls longer) in
      let paid' : paid twin octets calls ≡ p = paid_is twin octets calls p (e ∷ next.0) whole' fits.0 fits.1 (λ l. over) in
      let here : stop t octets calls ≡ Some e = ap (λ ys. slice_get ys (length p)) whole ∙ slice_get_at p e rest in
      let stop' : stop twin octets calls ≡ Some e = rw paid' (ap (λ ys. slice_get ys (length p)) whole' ∙ slice_get_at p e next.0) in
      let o : stop t octets calls ≡ Some (entry t i j) = here ∙ ap Some is in
      record {
        paid_same = paid';
        stop_same = stop' ∙ sym here;
        states_same =
            sym (recorded_filled (recorded_stop twin i j (stop t octets calls) (map (outcome twin) (below i)) o there.reached loc.2 refl))
            ∙ ap (λ sts. filled (sts ++ Stopped ∷ [])) (outcomes i pending.at.reached agree')
            ∙ recorded_filled (recorded_stop t i j (stop t octets calls) (map (outcome t) (below i)) o pending.at.reached loc.2 refl);
      }

  same_through : paid t octets calls ≡ tries t → stop t octets calls ≡ None → All (Agrees t v) (paid t octets calls) → IsSame
  unfolding filled
  same_through all none agree = elim (cases_Bool (reached t t.signatures)) [
    | inl y ↦ (let whole : rows t t.signatures ≡ paid t octets calls = sym (tries_are_rows t) ∙ sym all in
        let agree' : All (Agrees t v) (rows t t.signatures) = subst (All (Agrees t v)) (sym whole) agree in
        let there = starts t v t.signatures y agree' in
        let at : HasComeTo t t.signatures 0 (rows t t.signatures) = record { listed = rw row-zero (sym (append-nil (rows t t.signatures))); reached = y; unverified = rw below-zero refl } in
        let fits = paid_fits t octets calls in
        let p = paid_all twin octets calls (paid t octets calls) (sym whole ∙ at_last twin (rows t t.signatures) there) fits.0 fits.1 in
        record {
          paid_same = p.0;
          stop_same = p.1 ∙ sym none;
          states_same = rw none (sym (recorded_filled (recorded_all twin (rows t t.signatures) (map (outcome twin) (below t.signatures)) there refl))
              ∙ ap filled (outcomes t.signatures y agree')
              ∙ recorded_filled (recorded_all t (rows t t.signatures) (map (outcome t) (below t.signatures)) at refl));
        })
    | inr f ↦ (let last = last_reached t t.signatures f in
        let i = last.0 in
        let a : IsThrough t i (verified t i) (rows t (i + 1)) = record { listed = refl; reached = last.2; verified = refl } in
        let whole : rows t (i + 1) ≡ paid t octets calls = through_last t i (verified t i) (rows t (i + 1)) a last.1 last.3 ∙ sym all in
        let agree1 : All (Agrees t v) (rows t (i + 1)) = subst (All (Agrees t v)) (sym whole) agree in
        let agree' : All (Agrees t v) (rows t i) = agree_before i (i + 1) (omega arith) agree1 in
        let there = (through t v i (verified t i) (rows t (i + 1)) (starts t v i last.2 agree') a agree1).0 in
        let fits = paid_fits t octets calls in
        let p = paid_all twin octets calls (paid t octets calls) (sym whole ∙ through_last twin i (verified t i) (rows t (i + 1)) there last.1 last.3) fits.0 fits.1 in
        record {
          paid_same = p.0;
          stop_same = p.1 ∙ sym none;
          states_same = rw none (sym (recorded_filled (recorded_done twin i (verified t i) (rows t (i + 1)) (map (outcome twin) (below i)) there last.3 last.1 refl))
              ∙ ap (λ x. filled x) (ap (λ ys. ys ++ outcome twin i ∷ []) (outcomes i last.2 agree') ∙ ap (λ z. map (outcome t) (below i) ++ z ∷ []) (same_outcome t v i last.2 agree1))
              ∙ recorded_filled (recorded_done t i (verified t i) (rows t (i + 1)) (map (outcome t) (below i)) a last.3 last.1 refl));
        })
  ]

  pub same_run : All (Agrees t v) (paid t octets calls) → IsSame
  unfolding stop
  same_run agree =
      let p = paid t octets calls in
      let r = paid_rest t octets calls in
      elim r.0 as (λ rest. tries t ≡ p ++ rest → IsSame) [
        | [] ↦ λ w. (let whole : p ≡ tries t = sym (w ∙ append-nil p) in
            same_through whole (slice_get_past (tries t) (length p) (omega (arith, ap length whole))) agree)
        | ◌∷◌ e rest ↦ λ w. same_stopped e rest w agree
      ] r.1

-- the other half: a paid try decides the state of its signature

find_passes : (p : ℕ → Bool) (xs : List ℕ) (j : ℕ) → find p xs ≡ Some j → p j ≡ true
find_passes p [] j h = cc
find_passes p (x ∷ xs) j h = elim (cases_Bool (p x)) [
  | inl t ↦ (let e : Some x ≡ Some j = rw t at h in let q : x ≡ j = cc in ap p (sym q) ∙ t)
  | inr f ↦ find_passes p xs j (rw f at h)
]

state_found : (b : Option SigFault) (seen : Bool) (found : Option ℕ) (j : ℕ) → state_of b seen found ≡ Verified j → found ≡ Some j
state_found (Some f) seen found j h = cc
state_found None seen (Some k) j h = let q : k ≡ j = cc in ap Some q
state_found None true None j h = cc
state_found None false None j h = cc

-- a state is Verified(j) only where key j is eligible and valid
state_verifies : (t : Table) (o : Option Try) (i j : ℕ) → state_at t o i ≡ Verified j → verifies t i j ≡ true
unfolding state_at outcome
state_verifies t o i j h = cases (option_map_or (λ e. eqb e.signature i) o false) (reached t i && not (option_map_or (λ e. ltb e.signature i) o false)) h
  where
    cases : (a b : Bool) → cond a Stopped (cond b (state_of (t.bar i) (list_any (t.eligible i) (below t.keys)) (find (verifies t i) (below t.keys))) NotReached) ≡ Verified j → verifies t i j ≡ true
    cases true b k = cc
    cases false false k = cc
    cases false true k = find_passes (verifies t i) (below t.keys) j (state_found (t.bar i) (list_any (t.eligible i) (below t.keys)) (find (verifies t i) (below t.keys)) j k)

valid_of : (t : Table) (i j : ℕ) → verifies t i j ≡ true → t.valid i j ≡ true
unfolding verifies
valid_of t i j h = (and_true (t.eligible i j) (t.valid i j) h).1

outcome_found : (t : Table) (i j : ℕ) → t.bar i ≡ None → find (verifies t i) (below t.keys) ≡ Some j → outcome t i ≡ Verified j
unfolding outcome
outcome_found t i j b f = rw (b, f) refl

stop_none : (t : Table) (octets : ℕ) (calls : Option ℕ) → tries t ≡ paid t octets calls → stop t octets calls ≡ None
unfolding stop
stop_none t octets calls w = slice_get_past (tries t) (length (paid t octets calls)) (omega (arith, ap length w))

stop_some : (t : Table) (octets : ℕ) (calls : Option ℕ) (e : Try) (rest : List Try) → tries t ≡ paid t octets calls ++ e ∷ rest → stop t octets calls ≡ Some e
unfolding stop
stop_some t octets calls e rest w = ap (λ ys. slice_get ys (length (paid t octets calls))) w ∙ slice_get_at (paid t octets calls) e rest

-- the tries of a signature at which a try is pending are more than those before that try
pending_longer : (t : Table) (m n i : ℕ) (es : List Try) → IsPending t m n es → m ≤ i → length es < length (rows t (i + 1))
pending_longer t m n i es p l =
    let within : n < t.keys = p.within in
    let e : (n + 1) + (t.keys - (n + 1)) ≡ t.keys = omega arith in
    let w = grows (row t m) (λ k. cond (tried t m k) (entry t m k ∷ []) []) (row-more t m) (n + 1) (t.keys - (n + 1)) in
    let q = rows_within t (m + 1) (i + 1) (omega arith) in
    omega (
      arith,
      ap length p.at.listed,
      length-append (rows t m) (row t m n),
      ap length (row-eligible t m n es p.at p.eligible),
      length-append (row t m n) (entry t m n ∷ []),
      ap length w.1,
      length-append (row t m (n + 1)) w.0,
      ap (λ k. length (row t m k)) e,
      ap length (rows-more t m),
      length-append (rows t m) (row t m t.keys),
      ap length q.1,
      length-append (rows t (m + 1)) q.0,
    )

-- the state of a signature with a paid try that is valid
state_paid : (t : Table) (octets : ℕ) (calls : Option ℕ) (i j : ℕ) (es more : List Try) → IsPending t i j es → i < t.signatures → t.bar i ≡ None → t.valid i j ≡ true → paid t octets calls ≡ es ++ entry t i j ∷ more → state_at t (stop t octets calls) i ≡ Verified j
state_paid t octets calls i j es more p l unbarred valid e =
    let a = paid t octets calls in
    let r = paid_rest t octets calls in
    let done = at_verified t i j es p.at p.within p.eligible valid in
    let here : length (rows t (i + 1)) + length more ≡ length a =
    omega (arith, ap length done.listed, length-append es (entry t i j ∷ []), ap length e, length-append es (entry t i j ∷ more)) in
    let found : outcome t i ≡ Verified j = outcome_found t i j unbarred (found_at t i j es p.at p.within p.eligible valid) in
    elim r.0 as (λ rest. tries t ≡ a ++ rest → state_at t (stop t octets calls) i ≡ Verified j) [
      | [] ↦ λ w. (let none : stop t octets calls ≡ None = stop_none t octets calls (w ∙ append-nil a) in
          ap (λ o. state_at t o i) none ∙ state_reached t i p.at.reached ∙ found)
      | ◌∷◌ f rest ↦ λ w. (let q = locate t t.signatures a f rest (sym (tries_are_rows t) ∙ w) in
          let o : stop t octets calls ≡ Some (entry t q.0 q.1) = stop_some t octets calls f rest w ∙ ap Some q.4 in
          let later : i < q.0 = elim (cases_lt i q.0) [ inl y ↦ y | inr n ↦ absurd (omega (arith, pending_longer t q.0 q.1 i a q.3 n, here)) ] in
          ap (λ o. state_at t o i) o ∙ state_before t q.0 q.1 i later p.at.reached ∙ found)
    ] r.1

-- the signature and the key of an entry
entry_signature : (t : Table) (i j m n : ℕ) → entry t i j ≡ entry t m n → i ≡ m
entry_signature t i j m n e = ap (λ (x : Try). x.signature) e

entry_key : (t : Table) (i j m n : ℕ) → entry t i j ≡ entry t m n → j ≡ n
entry_key t i j m n e = ap (λ (x : Try). x.key) e

same_states : (t u : Table) (o q : Option Try) → u.signatures ≡ t.signatures → states_at u o ≡ states_at t q → (i : ℕ) → i < t.signatures → state_at u o i ≡ state_at t q i
unfolding states_at below
same_states t u o q s e i l =
    sym (get_or-map-range_with_len (state_at u o) 0 u.signatures i i NotReached (omega (arith, s)) (zero-add i))
    ∙ ap (λ ys. get_or ys i NotReached) e
    ∙ get_or-map-range_with_len (state_at t q) 0 t.signatures i i NotReached l (zero-add i)

pub changed_states : (t : Table) (v : ℕ → ℕ → Bool) (octets : ℕ) (calls : Option ℕ) → ((i j : ℕ) → t.eligible i j ≡ true → t.bar i ≡ None)
    → (i j : ℕ) → Contains (paid t octets calls) (entry t i j) → v i j ≡ not (t.valid i j) → ((m n : ℕ) → (m ≡ i → n ≡ j → ⊥) → v m n ≡ t.valid m n)
    → states_at (with_valid t v) (stop (with_valid t v) octets calls) ≡ states_at t (stop t octets calls) → ⊥
changed_states t v octets calls unbarred i j c changed others same =
    let p = paid t octets calls in
    let u = with_valid t v in
    let k = c.0 in
    let es = take k p in
    let more = drop (k + 1) p in
    let whole : p ≡ es ++ entry t i j ∷ more = sym (take-append-drop k p) ∙ ap (λ ys. es ++ ys) (drop_more p k (entry t i j) c.1 ∙ ap (λ x. x ∷ more) c.2) in
    let r = paid_rest t octets calls in
    let split_tries : rows t t.signatures ≡ es ++ entry t i j ∷ (more ++ r.0) = sym (tries_are_rows t) ∙ r.1 ∙ ap (λ ys. ys ++ r.0) whole ∙ append_assoc es (entry t i j ∷ more) r.0 in
    let q = locate t t.signatures es (entry t i j) (more ++ r.0) split_tries in
    let pm : IsPending t i q.1 es = subst (λ m. IsPending t m q.1 es) (sym (entry_signature t i j q.0 q.1 q.4)) q.3 in
    let pending : IsPending t i j es = subst (λ n. IsPending t i n es) (sym (entry_key t i j q.0 q.1 q.4)) pm in
    let l : i < t.signatures = omega (arith, q.2, entry_signature t i j q.0 q.1 q.4) in
    let earlier : All (IsEarlier i j) es = subst (All (IsEarlier i j)) (sym pending.at.listed) (row_ordered t i j (rows_ordered t i)).earlier in
    let agree : All (Agrees t v) es = All-weaker (IsEarlier i j) (Agrees t v) (λ e h. sym (others e.signature e.key (λ a b. elim h [ inl x ↦ omega (arith, x, a) | inr x ↦ omega (arith, x.1, b) ]))) es earlier in
    let agree_rows : All (Agrees t v) (rows t i) = All-left (Agrees t v) (rows t i) (row t i j) (subst (All (Agrees t v)) pending.at.listed agree) in
    let at : HasComeTo u i j es = along t v i j es (starts t v i pending.at.reached agree_rows) pending.at agree in
    let pending' : IsPending u i j es = record { at = at; within = pending.within; eligible = pending.eligible } in
    let next = at_pending u i j es at l pending.within pending.eligible in
    let front = es ++ entry t i j ∷ [] in
    let whole2 : p ≡ front ++ more = whole ∙ sym (append_assoc es (entry t i j ∷ []) more) in
    let fits = paid_fits t octets calls in
    let small : work front ≤ octets = omega (arith, fits.0, ap work whole2, work-append front more) in
    let short : is_within calls (length front) ≡ true = within_less calls (length front) (length p) (omega (arith, ap length whole2, length-append front more)) fits.1 in
    let other_paid = paid_front u octets calls front next.0 (next.1 ∙ sym (append_assoc es (entry t i j ∷ []) next.0)) small short in
    let equal : state_at u (stop u octets calls) i ≡ state_at t (stop t octets calls) i = same_states t u (stop u octets calls) (stop t octets calls) refl same i l in
    let free : t.bar i ≡ None = unbarred i j pending.eligible in
    elim (cases_Bool (t.valid i j)) [
      | inl y ↦ (let mine = state_paid t octets calls i j es more pending l free y whole in
          let theirs : v i j ≡ true = valid_of u i j (state_verifies u (stop u octets calls) i j (equal ∙ mine)) in
          false≢true (sym (changed ∙ ap not y) ∙ theirs))
      | inr n ↦ (let theirs = state_paid u octets calls i j es other_paid.0 pending' l free (changed ∙ ap not n) (other_paid.1 ∙ append_assoc es (entry t i j ∷ []) other_paid.0) in
          let mine : t.valid i j ≡ true = valid_of t i j (state_verifies t (stop t octets calls) i j (sym equal ∙ theirs)) in
          false≢true (sym n ∙ mine))
    ]
