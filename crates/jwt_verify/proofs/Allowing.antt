-- What is paid, in words.
use Rattle.std.proofs.Common.{◌≡◌, ℕ, ◌+◌, ◌<◌, ◌≤◌, Bool, true, false, List, [], ◌∷◌, ◌++◌, length, take, Option, Some, None, refl, sym, ◌∙◌, ap, subst, inl, inr, arith, length-append, append_assoc}
use Rattle.std.specs.Prelude.{◌↔◌, ◌&&◌, nat_le, slice_get}
use Rattle.std.proofs.lemmas.Bool.{le-leb, lt-leb, leb-true, leb-false, false≢true}
use Rattle.std.proofs.lemmas.List.{append-nil, take_at, nil_from_length}
use Rattle.std.proofs.lemmas.List.Elements.{All-contains, Contains-append_right}
use Rattle.std.proofs.lemmas.Option.{slice_get_past}
use Rattle.std.specs.List.{All, Contains}
use Rattle.jwt_verify.specs.declared.report.Try.{Try}
use Rattle.jwt_verify.specs.Table.{Table, entry, tries, work, is_within, affords, paid, stop}
use Rattle.jwt_verify.specs.Paying.{IsFront, IsNext, IsWithin, AreAllowed, ArePaid}
use Rattle.jwt_verify.specs.Accepted.{StopsAt}
use Rattle.jwt_verify.proofs.Bounds.{HasCost, rows_ordered}
use Rattle.jwt_verify.proofs.Walking.{tries_are_rows}
use Rattle.jwt_verify.proofs.Paying.{work-push, paid_all, paid_stop, paid_front, paid_rest, paid_fits, paid_over, slice_get_at}
use Rattle.jwt_verify.proofs.Stepwise.{StopsStepwise}

-- ---- the ceiling on calls

pub within_words : (calls : Option ℕ) (n : ℕ) → (is_within calls n ≡ true) ↔ IsWithin calls n
unfolding is_within
within_words None n = (λ y most e. cc, λ h. refl)
within_words (Some c) n = (λ y most e. (let l : n ≤ c = leb-true n c y in let s : c ≡ most = cc in omega (arith, l, s)), λ h. le-leb n c (h c refl))

pub beyond_words : (calls : Option ℕ) (n : ℕ) → (is_within calls n ≡ false) ↔ ((most : ℕ) × (calls ≡ Some most) × (most < n))
unfolding is_within
beyond_words None n = (λ y. absurd (false≢true (sym y)), λ (most, e, l). cc)
beyond_words (Some c) n = (λ y. (c, refl, leb-false n c y), λ (most, e, l). (let s : c ≡ most = cc in lt-leb n c (omega (arith, l, s))))

-- ---- the paid tries

pub front_paid : (t : Table) (w : ℕ) (calls : Option ℕ) (es : List Try) → IsFront t es → AreAllowed w calls es → (more : List Try) × (paid t w calls ≡ es ++ more)
front_paid t w calls es f a = paid_front t w calls es f.0 f.1 a.0 ((within_words calls (length es)).1 a.1)

pub paid_allowed : (t : Table) (w : ℕ) (calls : Option ℕ) → AreAllowed w calls (paid t w calls)
paid_allowed t w calls = let f = paid_fits t w calls in (f.0, (within_words calls (length (paid t w calls))).0 f.1)

pub are_paid : (t : Table) (w : ℕ) (calls : Option ℕ) → ArePaid t w calls (paid t w calls)
are_paid t w calls = record {
  front = paid_rest t w calls;
  allowed = paid_allowed t w calls;
  longest = λ fs f a. (let p = front_paid t w calls fs f a in omega (arith, ap length p.1, length-append fs p.0));
}

pub paid_only : (t : Table) (w : ℕ) (calls : Option ℕ) (es : List Try) → ArePaid t w calls es → es ≡ paid t w calls
paid_only t w calls es h =
    let p = front_paid t w calls es h.front h.allowed in
    let l : length (paid t w calls) ≤ length es = h.longest (paid t w calls) (paid_rest t w calls) (paid_allowed t w calls) in
    let none : p.0 ≡ [] = nil_from_length p.0 (omega (arith, l, ap length p.1, length-append es p.0)) in
    sym (p.1 ∙ ap (λ more. es ++ more) none ∙ append-nil es)

-- ---- no ceiling stops the run

pub unstopped_words : (t : Table) (w : ℕ) (calls : Option ℕ) → stop t w calls ≡ None → AreAllowed w calls (tries t)
unfolding stop
unstopped_words t w calls none = let r = paid_rest t w calls in go r.0 r.1
  where
    go : (rest : List Try) → tries t ≡ paid t w calls ++ rest → AreAllowed w calls (tries t)
    go [] e = subst (AreAllowed w calls) (sym (e ∙ append-nil (paid t w calls))) (paid_allowed t w calls)
    go (f ∷ rest) e = let here = sym none ∙ ap (λ es. slice_get es (length (paid t w calls))) e ∙ slice_get_at (paid t w calls) f rest in cc

pub words_unstopped : (t : Table) (w : ℕ) (calls : Option ℕ) → AreAllowed w calls (tries t) → stop t w calls ≡ None
words_unstopped t w calls a = (paid_all t w calls (tries t) refl a.0 ((within_words calls (length (tries t))).1 a.1)).1

-- ---- the run stops at a pair

next_paid : (t : Table) (w : ℕ) (calls : Option ℕ) (e : Try) → stop t w calls ≡ Some e → IsNext t (paid t w calls) e
unfolding stop
next_paid t w calls e some = let r = paid_rest t w calls in go r.0 r.1
  where
    go : (rest : List Try) → tries t ≡ paid t w calls ++ rest → IsNext t (paid t w calls) e
    go [] is =
        let same : tries t ≡ paid t w calls = is ∙ append-nil (paid t w calls) in
        let past = sym some ∙ slice_get_past (tries t) (length (paid t w calls)) (omega (arith, ap length same)) in
        cc
    go (f ∷ rest) is =
        let here : Some e ≡ Some f = sym some ∙ ap (λ es. slice_get es (length (paid t w calls))) is ∙ slice_get_at (paid t w calls) f rest in
        let same : f ≡ e = cc in
        (rest, is ∙ ap (λ e. paid t w calls ++ e ∷ rest) same)

-- a try is the entry of its pair
entry_of : (t : Table) (e : Try) → HasCost t e → e ≡ entry t e.signature e.key
entry_of t e cost = λ d. record { signature = e.signature; key = e.key; cost = cost d }

next_entry : (t : Table) (es : List Try) (e : Try) → IsNext t es e → e ≡ entry t e.signature e.key
next_entry t es e n =
    let costs : All (HasCost t) (tries t) = rw tries_are_rows (rows_ordered t t.signatures).costs in
    let here : Contains (tries t) e = subst (λ xs. Contains xs e) (sym n.1) (Contains-append_right es (e ∷ n.0) e (0, omega arith, refl)) in
    entry_of t e (All-contains (HasCost t) (tries t) e costs here)

stops_words : (t : Table) (w : ℕ) (calls : Option ℕ) (e : Try) (i j : ℕ) → stop t w calls ≡ Some e → e.signature ≡ i → e.key ≡ j
    → StopsAt t w calls i j (paid t w calls)
stops_words t w calls e i j some is js =
    let n = next_paid t w calls e some in
    let same : e ≡ entry t i j = next_entry t (paid t w calls) e n ∙ ap (λ i. entry t i e.key) is ∙ ap (entry t i) js in
    record { next = subst (IsNext t (paid t w calls)) same n; allowed = paid_allowed t w calls }

-- the paid tries and the next one are not afforded
over_words : (t : Table) (w : ℕ) (calls : Option ℕ) (e : Try) → IsNext t (paid t w calls) e → is_within calls (length (paid t w calls) + 1) ≡ true
    → w < work (paid t w calls) + e.cost
unfolding affords
over_words t w calls e n within =
    let p = paid t w calls in
    let long : length p < length (tries t) = omega (arith, ap length n.1, length-append p (e ∷ n.0)) in
    let front : take (length p + 1) (tries t) ≡ p ++ e ∷ [] =
    ap (take (length p + 1)) (n.1 ∙ sym (append_assoc p (e ∷ []) n.0)) ∙ take_at (p ++ e ∷ []) n.0 (length p + 1) (length-append p (e ∷ [])) in
    let over = paid_over t w calls long in
    let cost : work (take (length p + 1) (tries t)) ≡ work p + e.cost = ap work front ∙ work-push p e in
    let small = first_false (nat_le (work (take (length p + 1) (tries t))) w) (is_within calls (length p + 1)) over within in
    omega (arith, leb-false (work (take (length p + 1) (tries t))) w small, cost)
  where
    first_false : (a b : Bool) → (a && b) ≡ false → b ≡ true → a ≡ false
    first_false false b h y = refl
    first_false true b h y = absurd (false≢true (sym h ∙ y))

-- the cost of the pair of i and j exceeds what is left of the budget, and one more call is within the ceiling on calls
abbrev pub StopsForWork : Table → ℕ → Option ℕ → ℕ → ℕ → Type 0
StopsForWork t w calls i j = (es : List Try) × StopsAt t w calls i j es × (w < work es + t.cost i j) × IsWithin calls (length es + 1)

-- one more call exceeds the ceiling on calls
abbrev pub StopsForCalls : Table → ℕ → Option ℕ → ℕ → ℕ → Type 0
StopsForCalls t w calls i j = (es : List Try) × StopsAt t w calls i j es × ((most : ℕ) × (calls ≡ Some most) × (most < length es + 1))

pub work_words : (t : Table) (w : ℕ) (calls : Option ℕ) (i j : ℕ) → StopsStepwise t w calls i j → is_within calls (length (paid t w calls) + 1) ≡ true → StopsForWork t w calls i j
work_words t w calls i j s y =
    let at = stops_words t w calls s.0 i j s.1 s.2 s.3 in
    (paid t w calls, at, over_words t w calls (entry t i j) at.next y, (within_words calls (length (paid t w calls) + 1)).0 y)

pub calls_words : (t : Table) (w : ℕ) (calls : Option ℕ) (i j : ℕ) → StopsStepwise t w calls i j → is_within calls (length (paid t w calls) + 1) ≡ false → StopsForCalls t w calls i j
calls_words t w calls i j s n = (paid t w calls, stops_words t w calls s.0 i j s.1 s.2 s.3, (beyond_words calls (length (paid t w calls) + 1)).0 n)

pub words_work : (t : Table) (w : ℕ) (calls : Option ℕ) (i j : ℕ) → StopsForWork t w calls i j → StopsStepwise t w calls i j × (is_within calls (length (paid t w calls) + 1) ≡ true)
words_work t w calls i j (es, at, over, within) =
    let p = paid_stop t w calls es at.next.0 (entry t i j) at.next.1 at.allowed.0 ((within_words calls (length es)).1 at.allowed.1) (inl over) in
    ((entry t i j, p.1, refl, refl), rw p.0 ((within_words calls (length es + 1)).1 within))

pub words_calls : (t : Table) (w : ℕ) (calls : Option ℕ) (i j : ℕ) → StopsForCalls t w calls i j → StopsStepwise t w calls i j × (is_within calls (length (paid t w calls) + 1) ≡ false)
words_calls t w calls i j (es, at, beyond) =
    let no = (beyond_words calls (length es + 1)).1 beyond in
    let p = paid_stop t w calls es at.next.0 (entry t i j) at.next.1 at.allowed.0 ((within_words calls (length es)).1 at.allowed.1) (inr no) in
    ((entry t i j, p.1, refl, refl), rw p.0 no)
