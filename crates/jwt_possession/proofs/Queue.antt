-- The two tables of a memory say the same.
use Rattle.std.proofs.Common.{◌≡◌, ◌≤◌, ◌<◌, ◌⊎◌, ℕ, Bool, true, false, List, [], ◌∷◌, length, Option, Some, None, inl, inr, sym, ap, refl, subst, ◌∙◌, arith}
use Rattle.std.specs.Prelude.{cond}
use Rattle.std.specs.declared.cmp.Ordering.{Ordering}
use Rattle.std.specs.declared.cmp.Ordering.TheVariants.{Less, Equal, Greater}
use Rattle.std.specs.Ordering.{nat_cmp, ordering_then, is_eq, is_gt}
use Rattle.std.specs.BTreeMap.{BTreeMap}
use Rattle.std.specs.BTreeSet.{BTreeSet}
use Rattle.std.specs.Option.{option_map}
use Rattle.std.specs.Map.{lookup}
use Rattle.std.specs.List.{list_any}
use Rattle.std.proofs.Common.{eqb, is_some, ◌+◌, max}
use Rattle.std.proofs.lemmas.Bool.{true≢false, false≢true, cases_Bool, cases_lt, le-ltb, ne_eqb}
use Rattle.std.proofs.lemmas.Cmp.{tied_itself, nat_list_cmp_total, nat_cmp_total}
use Rattle.std.proofs.lemmas.Map.Lookups.{exact_bytes, exact_unsigned}
use Rattle.std.proofs.lemmas.Option.{none-some, same_Some}
use Rattle.std.specs.BTreeMap.{get}
use Rattle.jwt_possession.specs.declared.once.table.Holding.{Holding}
use Rattle.jwt_possession.specs.once.Tables.{by_mark, by_turn, held_in, moment_at, has_turn}

equal : (o : Ordering) → is_eq o ≡ true → o ≡ Equal
equal Less h = absurd (false≢true h)
equal Equal h = refl
equal Greater h = absurd (false≢true h)

pub both : (a b : Ordering) → is_eq (ordering_then a b) ≡ true → (is_eq a ≡ true) × (is_eq b ≡ true)
both Less b h = absurd (false≢true h)
both Equal b h = (refl, h)
both Greater b h = absurd (false≢true h)

pub same_mark : (mark other : List ℕ) → is_eq (by_mark mark other) ≡ true → mark ≡ other
same_mark mark other h = exact_bytes mark other (equal (by_mark mark other) h)

pub same_turn : (until moment : ℕ) (mark other : List ℕ) → is_eq (by_turn (until, mark) (moment, other)) ≡ true → (until ≡ moment) × (mark ≡ other)
same_turn until moment mark other h = let b = both (nat_cmp until moment) (by_mark mark other) h in (exact_unsigned until moment (equal (nat_cmp until moment) b.0), same_mark mark other b.1)

pub mark_itself : (mark : List ℕ) → is_eq (by_mark mark mark) ≡ true
mark_itself mark = ap is_eq (tied_itself nat_list_cmp_total mark)

pub turn_itself : (until : ℕ) (mark : List ℕ) → is_eq (by_turn (until, mark) (until, mark)) ≡ true
turn_itself until mark = ap (λ o. is_eq (ordering_then o (by_mark mark mark))) (tied_itself nat_cmp_total until) ∙ mark_itself mark

turn_as : (until moment : ℕ) (mark other : List ℕ) → until ≡ moment → mark ≡ other → is_eq (by_turn (until, mark) (moment, other)) ≡ true
turn_as until moment mark other u m = subst (λ x. is_eq (by_turn (until, mark) (x, other)) ≡ true) u (subst (λ x. is_eq (by_turn (until, mark) (until, x)) ≡ true) m (turn_itself until mark))

pub mark_as : (mark other : List ℕ) → mark ≡ other → is_eq (by_mark mark other) ≡ true
mark_as mark other m = subst (λ x. is_eq (by_mark mark x) ≡ true) m (mark_itself mark)

later : (a b : Ordering) → a ≡ Greater → is_gt (ordering_then a b) ≡ true
later a b h = ap (λ o. is_gt (ordering_then o b)) h

greater : (u v : ℕ) → v < u → nat_cmp u v ≡ Greater
greater u v h = ap (λ b. cond b Less (cond (eqb u v) Equal Greater)) (le-ltb u v (omega (arith, h))) ∙ ap (λ b. cond b Equal Greater) (ne_eqb u v (λ e. omega (arith, h, e)))

-- what isn't behind another in the queue has no later moment
pub no_later : (until moment : ℕ) (mark other : List ℕ) → is_gt (by_turn (until, mark) (moment, other)) ≡ false → until ≤ moment
no_later until moment mark other h = elim (cases_lt moment until) [
  | inl lt ↦ absurd (true≢false (sym (later (nat_cmp until moment) (by_mark mark other) (greater until moment lt)) ∙ h))
  | inr le ↦ le
]

abbrev pub Queued : BTreeMap (List ℕ) Holding → BTreeSet (ℕ × List ℕ) → Type 0
Queued held turns = (mark : List ℕ) (its : Holding) → held_in held mark ≡ Some its → has_turn turns its.moment mark ≡ true

abbrev pub Named : BTreeMap (List ℕ) Holding → BTreeSet (ℕ × List ℕ) → Type 0
Named held turns = (mark : List ℕ) (moment : ℕ) → has_turn turns moment mark ≡ true
    → (owner : Option (List ℕ)) × (held_in held mark ≡ Some (record { moment = moment; owner = owner }))

abbrev pub Told : BTreeMap (List ℕ) Holding → BTreeSet (ℕ × List ℕ) → Type 0
Told held turns = (mark : List ℕ) (moment : ℕ) → has_turn turns moment mark ≡ true → moment_at held mark ≡ Some moment

pub held_at : (o : Option Holding) (moment : ℕ) → option_map (λ its. its.moment) o ≡ Some moment → (owner : Option (List ℕ)) × (o ≡ Some (record { moment = moment; owner = owner }))
held_at None moment h = absurd (none-some moment h)
held_at (Some its) moment h = (its.owner, ap (λ (v : ℕ). let there : Option Holding = Some (record { moment = v; owner = its.owner }) in there) (same_Some its.moment moment h))

pub named : (m : BTreeMap (List ℕ) Holding) (t : BTreeSet (ℕ × List ℕ)) → Told m t → Named m t
named m t told mark moment h = held_at (held_in m mark) moment (told mark moment h)

pub told : (m : BTreeMap (List ℕ) Holding) (t : BTreeSet (ℕ × List ℕ)) → Named m t → Told m t
told m t names mark moment h = ap (option_map (λ (its : Holding). its.moment)) (names mark moment h).1

-- the one table after the other, with this at the mark
abbrev pub Writes : {X : Type 0} → BTreeMap (List ℕ) X → BTreeMap (List ℕ) X → List ℕ → Option X → Type 0
Writes m n mark put = (q : List ℕ) → get by_mark n q ≡ cond (is_eq (by_mark mark q)) put (get by_mark m q)

abbrev pub Turns : BTreeSet (ℕ × List ℕ) → BTreeSet (ℕ × List ℕ) → ℕ → List ℕ → Bool → Type 0
Turns t s until mark put = (q : ℕ × List ℕ) → has_turn s q.0 q.1 ≡ cond (is_eq (by_turn (until, mark) q)) put (has_turn t q.0 q.1)

module _ {X : Type 0} (m n : BTreeMap (List ℕ) X) (mark : List ℕ) (put : Option X) (up : Writes m n mark put) where
  pub at_mark : (q : List ℕ) → is_eq (by_mark mark q) ≡ true → get by_mark n q ≡ put
  at_mark q e = up q ∙ ap (λ b. cond b put (get by_mark m q)) e

  pub elsewhere : (q : List ℕ) → is_eq (by_mark mark q) ≡ false → get by_mark n q ≡ get by_mark m q
  elsewhere q e = up q ∙ ap (λ b. cond b put (get by_mark m q)) e

  pub others : (q : List ℕ) → (get by_mark n q ≡ get by_mark m q) ⊎ (q ≡ mark)
  others q = elim (cases_Bool (is_eq (by_mark mark q))) [
    | inl e ↦ inr (sym (same_mark mark q e))
    | inr e ↦ inl (elsewhere q e)
  ]

  pub here : get by_mark n mark ≡ put
  here = at_mark mark (mark_itself mark)

module _ (t s : BTreeSet (ℕ × List ℕ)) (until : ℕ) (mark : List ℕ) (put : Bool) (up : Turns t s until mark put) where
  turn_at : (u : ℕ) (q : List ℕ) → is_eq (by_turn (until, mark) (u, q)) ≡ true → has_turn s u q ≡ put
  turn_at u q e = up (u, q) ∙ ap (λ b. cond b put (has_turn t u q)) e

  turn_elsewhere : (u : ℕ) (q : List ℕ) → is_eq (by_turn (until, mark) (u, q)) ≡ false → has_turn s u q ≡ has_turn t u q
  turn_elsewhere u q e = up (u, q) ∙ ap (λ b. cond b put (has_turn t u q)) e

abbrev moment_in : Holding → ℕ
moment_in its = its.moment

module _ (m n : BTreeMap (List ℕ) Holding) (t s : BTreeSet (ℕ × List ℕ)) (mark : List ℕ) (it : Holding) where
  -- the mark is dropped
  pub less_queued : Writes m n mark None → Turns t s it.moment mark false → Queued m t → Queued n s
  less_queued up tp old q its h = elim (cases_Bool (is_eq (by_mark mark q))) [
    | inl e ↦ absurd (none-some its (sym (at_mark m n mark None up q e) ∙ h))
    | inr e ↦ elim (cases_Bool (is_eq (by_turn (it.moment, mark) (its.moment, q)))) [
      | inl f ↦ absurd (true≢false (sym (mark_as mark q (same_turn it.moment its.moment mark q f).1) ∙ e))
      | inr f ↦ turn_elsewhere t s it.moment mark false tp its.moment q f ∙ old q its (sym (elsewhere m n mark None up q e) ∙ h)
    ]
  ]

  pub less_named : Writes m n mark None → Turns t s it.moment mark false → held_in m mark ≡ Some it → Named m t → Named n s
  less_named up tp is old q u h = elim (cases_Bool (is_eq (by_turn (it.moment, mark) (u, q)))) [
    | inl f ↦ absurd (false≢true (sym (turn_at t s it.moment mark false tp u q f) ∙ h))
    | inr f ↦ (let held = old q u (sym (turn_elsewhere t s it.moment mark false tp u q f) ∙ h) in elim (cases_Bool (is_eq (by_mark mark q))) [
      | inl e ↦ absurd (true≢false (sym (turn_as it.moment u mark q (ap moment_in (same_Some it (record { moment = u; owner = held.0 }) (sym is ∙ ap (held_in m) (same_mark mark q e) ∙ held.1))) (same_mark mark q e)) ∙ f))
      | inr e ↦ (held.0, elsewhere m n mark None up q e ∙ held.1)
    ])
  ]

  -- the mark is added
  pub more_queued : Writes m n mark (Some it) → Turns t s it.moment mark true → Queued m t → Queued n s
  more_queued up tp old q its h = elim (cases_Bool (is_eq (by_turn (it.moment, mark) (its.moment, q)))) [
    | inl f ↦ turn_at t s it.moment mark true tp its.moment q f
    | inr f ↦ elim (cases_Bool (is_eq (by_mark mark q))) [
      | inl e ↦ absurd (true≢false (sym (turn_as it.moment its.moment mark q (ap moment_in (same_Some it its (sym (at_mark m n mark (Some it) up q e) ∙ h))) (same_mark mark q e)) ∙ f))
      | inr e ↦ turn_elsewhere t s it.moment mark true tp its.moment q f ∙ old q its (sym (elsewhere m n mark (Some it) up q e) ∙ h)
    ]
  ]

  pub more_named : Writes m n mark (Some it) → Turns t s it.moment mark true → held_in m mark ≡ None → Named m t → Named n s
  more_named up tp absent old q u h = elim (cases_Bool (is_eq (by_turn (it.moment, mark) (u, q)))) [
    | inl f ↦ (let is = same_turn it.moment u mark q f in
        (it.owner, at_mark m n mark (Some it) up q (mark_as mark q is.1) ∙ ap (λ (v : ℕ). Some (let its : Holding = record { moment = v; owner = it.owner } in its)) is.0))
    | inr f ↦ (let held = old q u (sym (turn_elsewhere t s it.moment mark true tp u q f) ∙ h) in elim (cases_Bool (is_eq (by_mark mark q))) [
      | inl e ↦ absurd (none-some _ (sym absent ∙ ap (held_in m) (same_mark mark q e) ∙ held.1))
      | inr e ↦ (held.0, elsewhere m n mark (Some it) up q e ∙ held.1)
    ])
  ]

-- a mark that was put where none was, and dropped again
pub undone : {X : Type 0} (m n o : BTreeMap (List ℕ) X) (mark : List ℕ) (put : Option X) → Writes m n mark put → Writes n o mark None → get by_mark m mark ≡ None → (q : List ℕ) → get by_mark o q ≡ get by_mark m q
undone m n o mark put up down absent q = elim (cases_Bool (is_eq (by_mark mark q))) [
  | inl e ↦ at_mark n o mark None down q e ∙ sym absent ∙ ap (get by_mark m) (same_mark mark q e)
  | inr e ↦ elsewhere n o mark None down q e ∙ elsewhere m n mark put up q e
]

-- where nothing stands in the queue, nothing is held
none_any : {K : Type 0} (test : K → Bool) (keys : List K) → length keys ≡ 0 → list_any test keys ≡ false
none_any test [] h = refl
none_any test (k ∷ ks) h = absurd (omega (arith, h))

none_in : (entries : List (List ℕ × Holding)) → ((mark : List ℕ) (its : Holding) → lookup (λ k. is_eq (by_mark mark k)) entries ≡ Some its → ⊥) → length entries ≡ 0
none_in [] nothing = refl
none_in (e ∷ es) nothing = absurd (nothing e.0 e.1 (ap (λ b. cond b (Some e.1) (lookup (λ k. is_eq (by_mark e.0 k)) es)) (mark_itself e.0)))

pub none_held : (m : BTreeMap (List ℕ) Holding) (t : BTreeSet (ℕ × List ℕ)) → Queued m t → length t.keys ≡ 0 → length m.entries ≡ 0
none_held m t queued empty = none_in m.entries (λ mark its is. false≢true (sym (none_any (λ k. is_eq (by_turn (its.moment, mark) k)) t.keys empty) ∙ queued mark its is))

-- a length that grows by at most one, or shrinks
pub one_more : (n m : ℕ) (o : Option ℕ) → n ≡ m + cond (is_some o) 0 1 → n ≤ m + 1
one_more n m None h = omega (arith, h)
one_more n m (Some x) h = omega (arith, h)

pub no_more : (n m : ℕ) (o : Option ℕ) → n + cond (is_some o) 1 0 ≡ m → n ≤ m
no_more n m None h = omega (arith, h)
no_more n m (Some x) h = omega (arith, h)

-- the greater of two moments
pub greatest : (a b r : ℕ) → r ≡ max a b → (a ≤ r) × (b ≤ r) × ((r ≡ a) ⊎ (r ≡ b))
greatest a b r h = (
  omega (arith, h),
  omega (arith, h),
  elim (cases_lt b a) [
    | inl lt ↦ inl (omega (arith, h, lt))
    | inr le ↦ inr (omega (arith, h, le))
  ],
)
