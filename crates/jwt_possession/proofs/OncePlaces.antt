-- The owners' queues go with what is held.
use Rattle.std.proofs.Common.{◌≡◌, ◌⊎◌, ℕ, Bool, true, false, List, [], ◌∷◌, length, Option, Some, None, inl, inr, sym, ap, refl, subst, ◌∙◌, arith}
use Rattle.std.specs.Prelude.{cond}
use Rattle.std.proofs.Common.{eqb, replicate}
use Rattle.std.specs.declared.cmp.Ordering.{Ordering}
use Rattle.std.specs.declared.cmp.Ordering.TheVariants.{Less, Equal, Greater}
use Rattle.std.specs.Ordering.{nat_cmp, ordering_then, ordering_reverse, is_eq, is_gt}
use Rattle.std.specs.BTreeMap.{BTreeMap}
use Rattle.std.specs.BTreeSet.{BTreeSet}
use Rattle.std.proofs.lemmas.Bool.{true≢false, false≢true, cases_Bool, cases_lt, lt-ltb}
use Rattle.std.proofs.lemmas.Cmp.{tied_itself, nat_list_cmp_total}
use Rattle.std.proofs.lemmas.Option.{none-some, same_Some}
use Rattle.jwt_possession.specs.declared.once.table.Holding.{Holding}
use Rattle.jwt_possession.specs.once.Tables.{by_mark, by_turn, by_place, held_in, has_place}
use Rattle.jwt_possession.proofs.Queue.{both, same_mark, same_turn, turn_itself}

pub same_place : (owner whose : List ℕ) (moment its : ℕ) (mark other : List ℕ) → is_eq (by_place (owner, (moment, mark)) (whose, (its, other))) ≡ true
    → (owner ≡ whose) × (moment ≡ its) × (mark ≡ other)
same_place owner whose moment its mark other h =
    let b = both (by_mark owner whose) (by_turn (moment, mark) (its, other)) h in
    let t = same_turn moment its mark other b.1 in
    (same_mark owner whose b.0, t.0, t.1)

place_itself : (owner : List ℕ) (moment : ℕ) (mark : List ℕ) → is_eq (by_place (owner, (moment, mark)) (owner, (moment, mark))) ≡ true
place_itself owner moment mark = ap (λ o. is_eq (ordering_then o (by_turn (moment, mark) (moment, mark)))) (tied_itself nat_list_cmp_total owner) ∙ turn_itself moment mark

place_as : (owner whose : List ℕ) (moment its : ℕ) (mark other : List ℕ) → owner ≡ whose → moment ≡ its → mark ≡ other → is_eq (by_place (owner, (moment, mark)) (whose, (its, other))) ≡ true
place_as owner whose moment its mark other o u m =
    subst (λ x. is_eq (by_place (owner, (moment, mark)) (x, (its, other))) ≡ true) o
    (subst (λ x. is_eq (by_place (owner, (moment, mark)) (owner, (x, other))) ≡ true) u
    (subst (λ x. is_eq (by_place (owner, (moment, mark)) (owner, (moment, x))) ≡ true) m (place_itself owner moment mark)))

abbrev pub its_owner : Holding → Option (List ℕ)
its_owner it = it.owner

abbrev pub its_moment : Holding → ℕ
its_moment it = it.moment

abbrev pub it_of : ℕ → List ℕ → Holding
it_of moment owner = record { moment = moment; owner = Some owner }

pub made : (it : Holding) (moment : ℕ) (owner : List ℕ) → it.moment ≡ moment → it.owner ≡ Some owner → it ≡ it_of moment owner
made it moment owner a b = λ i. record { moment = a i; owner = b i }

abbrev pub Places : Type 0
Places = BTreeSet (List ℕ × (ℕ × List ℕ))

abbrev pub Placed : BTreeMap (List ℕ) Holding → Places → Type 0
Placed held places = (owner : List ℕ) (moment : ℕ) (mark : List ℕ) → has_place places owner moment mark ≡ true → held_in held mark ≡ Some (it_of moment owner)

abbrev pub Owned : BTreeMap (List ℕ) Holding → Places → Type 0
Owned held places = (owner : List ℕ) (moment : ℕ) (mark : List ℕ) → held_in held mark ≡ Some (it_of moment owner) → has_place places owner moment mark ≡ true

-- the one queue after the other, with this at the place
abbrev pub Stands : Places → Places → List ℕ → ℕ → List ℕ → Bool → Type 0
Stands t s owner moment mark put = (whose : List ℕ) (its : ℕ) (other : List ℕ)
    → has_place s whose its other ≡ cond (is_eq (by_place (owner, (moment, mark)) (whose, (its, other)))) put (has_place t whose its other)

module _ (t s : Places) (owner : List ℕ) (moment : ℕ) (mark : List ℕ) (put : Bool) (up : Stands t s owner moment mark put) where
  stands_at : (o : List ℕ) (u : ℕ) (q : List ℕ) → is_eq (by_place (owner, (moment, mark)) (o, (u, q))) ≡ true → has_place s o u q ≡ put
  stands_at o u q e = up o u q ∙ ap (λ b. cond b put (has_place t o u q)) e

  stands_else : (o : List ℕ) (u : ℕ) (q : List ℕ) → is_eq (by_place (owner, (moment, mark)) (o, (u, q))) ≡ false → has_place s o u q ≡ has_place t o u q
  stands_else o u q e = up o u q ∙ ap (λ b. cond b put (has_place t o u q)) e

-- what stands in the queue keeps its length
pub whole_more : (t s : Places) (owner : List ℕ) (moment : ℕ) (mark : List ℕ) → Stands t s owner moment mark true → length mark ≡ 32
    → ((o : List ℕ) (u : ℕ) (q : List ℕ) → has_place t o u q ≡ true → length q ≡ 32) → (o : List ℕ) (u : ℕ) (q : List ℕ) → has_place s o u q ≡ true → length q ≡ 32
whole_more t s owner moment mark up long old o u q h = elim (cases_Bool (is_eq (by_place (owner, (moment, mark)) (o, (u, q))))) [
  | inl f ↦ ap length (sym (same_place owner o moment u mark q f).2) ∙ long
  | inr f ↦ old o u q (sym (stands_else t s owner moment mark true up o u q f) ∙ h)
]

pub whole_less : (t s : Places) (owner : List ℕ) (moment : ℕ) (mark : List ℕ) → Stands t s owner moment mark false
    → ((o : List ℕ) (u : ℕ) (q : List ℕ) → has_place t o u q ≡ true → length q ≡ 32) → (o : List ℕ) (u : ℕ) (q : List ℕ) → has_place s o u q ≡ true → length q ≡ 32
whole_less t s owner moment mark up old o u q h = elim (cases_Bool (is_eq (by_place (owner, (moment, mark)) (o, (u, q))))) [
  | inl f ↦ absurd (false≢true (sym (stands_at t s owner moment mark false up o u q f) ∙ h))
  | inr f ↦ old o u q (sym (stands_else t s owner moment mark false up o u q f) ∙ h)
]

-- put in and taken out again
pub unplaced : (t s r : Places) (owner : List ℕ) (moment : ℕ) (mark : List ℕ) → Stands t s owner moment mark true → Stands s r owner moment mark false → has_place t owner moment mark ≡ false
    → (o : List ℕ) (u : ℕ) (q : List ℕ) → has_place r o u q ≡ has_place t o u q
unplaced t s r owner moment mark up down absent o u q = elim (cases_Bool (is_eq (by_place (owner, (moment, mark)) (o, (u, q))))) [
  | inl f ↦ (let e = same_place owner o moment u mark q f in
      stands_at s r owner moment mark false down o u q f ∙ sym absent
      ∙ ap (λ x. has_place t x moment mark) e.0 ∙ ap (λ x. has_place t o x mark) e.1 ∙ ap (has_place t o u) e.2)
  | inr f ↦ stands_else s r owner moment mark false down o u q f ∙ stands_else t s owner moment mark true up o u q f
]

-- what is held elsewhere is the same
abbrev pub Differs : BTreeMap (List ℕ) Holding → BTreeMap (List ℕ) Holding → List ℕ → Type 0
Differs m n mark = (q : List ℕ) → (held_in n q ≡ held_in m q) ⊎ (q ≡ mark)

-- taken and let go again
pub back : (m n o : BTreeMap (List ℕ) Holding) (mark : List ℕ) → Differs m n mark → Differs n o mark → held_in m mark ≡ None → held_in o mark ≡ None → (q : List ℕ) → held_in o q ≡ held_in m q
back m n o mark there again absent gone q = elim (again q) [
  | inr e ↦ ap (held_in o) e ∙ gone ∙ sym absent ∙ ap (held_in m) (sym e)
  | inl e ↦ elim (there q) [
    | inl f ↦ e ∙ f
    | inr f ↦ ap (held_in o) f ∙ gone ∙ sym absent ∙ ap (held_in m) (sym f)
  ]
]

module _ (m n : BTreeMap (List ℕ) Holding) (mark : List ℕ) (it : Holding) (differs : Differs m n mark) where
  -- it is let go, and was nobody's
  pub less_placed_none : (t : Places) → held_in m mark ≡ Some it → it.owner ≡ None → Placed m t → Placed n t
  less_placed_none t is of old o u q h = let was = old o u q h in elim (differs q) [
    | inl e ↦ e ∙ was
    | inr e ↦ absurd (none-some o (sym of ∙ ap its_owner (same_Some it (it_of u o) (sym is ∙ ap (held_in m) (sym e) ∙ was))))
  ]

  pub less_owned_none : (t : Places) → held_in n mark ≡ None → Owned m t → Owned n t
  less_owned_none t gone old o u q h = elim (differs q) [
    | inl e ↦ old o u q (sym e ∙ h)
    | inr e ↦ absurd (none-some (it_of u o) (sym gone ∙ ap (held_in n) (sym e) ∙ h))
  ]

  -- it is taken, and is nobody's
  pub more_placed_none : (t : Places) → held_in m mark ≡ None → Placed m t → Placed n t
  more_placed_none t absent old o u q h = let was = old o u q h in elim (differs q) [
    | inl e ↦ e ∙ was
    | inr e ↦ absurd (none-some (it_of u o) (sym absent ∙ ap (held_in m) (sym e) ∙ was))
  ]

  pub more_owned_none : (t : Places) → held_in n mark ≡ Some it → it.owner ≡ None → Owned m t → Owned n t
  more_owned_none t added of old o u q h = elim (differs q) [
    | inl e ↦ old o u q (sym e ∙ h)
    | inr e ↦ absurd (none-some o (sym of ∙ ap its_owner (same_Some it (it_of u o) (sym added ∙ ap (held_in n) (sym e) ∙ h))))
  ]

  module _ (owner : List ℕ) (of : it.owner ≡ Some owner) (t s : Places) where
    as_place : (o : List ℕ) (u : ℕ) (q : List ℕ) → it ≡ it_of u o → q ≡ mark → is_eq (by_place (owner, (it.moment, mark)) (o, (u, q))) ≡ true
    as_place o u q is e = place_as owner o it.moment u mark q (same_Some owner o (sym of ∙ ap its_owner is)) (ap its_moment is) (sym e)

    -- it is let go
    pub less_placed : Stands t s owner it.moment mark false → held_in m mark ≡ Some it → Placed m t → Placed n s
    less_placed up is old o u q h = elim (cases_Bool (is_eq (by_place (owner, (it.moment, mark)) (o, (u, q))))) [
      | inl f ↦ absurd (false≢true (sym (stands_at t s owner it.moment mark false up o u q f) ∙ h))
      | inr f ↦ (let was = old o u q (sym (stands_else t s owner it.moment mark false up o u q f) ∙ h) in elim (differs q) [
        | inl e ↦ e ∙ was
        | inr e ↦ absurd (true≢false (sym (as_place o u q (same_Some it (it_of u o) (sym is ∙ ap (held_in m) (sym e) ∙ was)) e) ∙ f))
      ])
    ]

    pub less_owned : Stands t s owner it.moment mark false → held_in n mark ≡ None → Owned m t → Owned n s
    less_owned up gone old o u q h = elim (differs q) [
      | inl e ↦ elim (cases_Bool (is_eq (by_place (owner, (it.moment, mark)) (o, (u, q))))) [
        | inl f ↦ absurd (none-some (it_of u o) (sym gone ∙ ap (held_in n) (same_place owner o it.moment u mark q f).2 ∙ h))
        | inr f ↦ stands_else t s owner it.moment mark false up o u q f ∙ old o u q (sym e ∙ h)
      ]
      | inr e ↦ absurd (none-some (it_of u o) (sym gone ∙ ap (held_in n) (sym e) ∙ h))
    ]

    -- it is taken
    pub more_placed : Stands t s owner it.moment mark true → held_in m mark ≡ None → held_in n mark ≡ Some it → Placed m t → Placed n s
    more_placed up absent added old o u q h = elim (cases_Bool (is_eq (by_place (owner, (it.moment, mark)) (o, (u, q))))) [
      | inl f ↦ (let e = same_place owner o it.moment u mark q f in
          ap (held_in n) (sym e.2) ∙ added ∙ ap Some (made it u o e.1 (of ∙ ap Some e.0)))
      | inr f ↦ (let was = old o u q (sym (stands_else t s owner it.moment mark true up o u q f) ∙ h) in elim (differs q) [
        | inl e ↦ e ∙ was
        | inr e ↦ absurd (none-some (it_of u o) (sym absent ∙ ap (held_in m) (sym e) ∙ was))
      ])
    ]

    pub more_owned : Stands t s owner it.moment mark true → held_in n mark ≡ Some it → Owned m t → Owned n s
    more_owned up added old o u q h = elim (cases_Bool (is_eq (by_place (owner, (it.moment, mark)) (o, (u, q))))) [
      | inl f ↦ stands_at t s owner it.moment mark true up o u q f
      | inr f ↦ elim (differs q) [
        | inl e ↦ stands_else t s owner it.moment mark true up o u q f ∙ old o u q (sym e ∙ h)
        | inr e ↦ absurd (true≢false (sym (as_place o u q (same_Some it (it_of u o) (sym added ∙ ap (held_in n) (sym e) ∙ h)) e) ∙ f))
      ]
    ]

-- ---- the first of an owner's queue

-- thirty-two zeros are behind nothing as long
zero_step : (x : ℕ) (o : Ordering) → is_gt o ≡ false → is_gt (ordering_then (nat_cmp 0 x) o) ≡ false
zero_step x o h = elim (cases_lt 0 x) [
  | inl lt ↦ ap (λ b. is_gt (ordering_then (cond b Less (cond (eqb 0 x) Equal Greater)) o)) (lt-ltb 0 x lt)
  | inr le ↦ (let e : 0 ≡ x = omega (arith, le) in subst (λ y. is_gt (ordering_then (nat_cmp 0 y) o) ≡ false) e h)
]

zeros_like : (xs : List ℕ) → is_gt (by_mark (replicate (length xs) 0) xs) ≡ false
zeros_like [] = refl
zeros_like (x ∷ xs) = zero_step x (by_mark (replicate (length xs) 0) xs) (zeros_like xs)

zeros_first : (n : ℕ) (xs : List ℕ) → length xs ≡ n → is_gt (by_mark (replicate n 0) xs) ≡ false
zeros_first n xs e = subst (λ m. is_gt (by_mark (replicate m 0) xs) ≡ false) e (zeros_like xs)

pub from_start : (owner : List ℕ) (moment : ℕ) (mark : List ℕ) → length mark ≡ 32 → is_gt (by_place (owner, (0, replicate 32 0)) (owner, (moment, mark))) ≡ false
from_start owner moment mark long =
    ap (λ o. is_gt (ordering_then o (by_turn (0, replicate 32 0) (moment, mark)))) (tied_itself nat_list_cmp_total owner)
    ∙ zero_step moment (by_mark (replicate 32 0) mark) (zeros_first 32 mark long)

first_not_gt : (a b : Ordering) → is_gt (ordering_then a b) ≡ false → is_gt a ≡ false
first_not_gt Less b h = refl
first_not_gt Equal b h = refl
first_not_gt Greater b h = h

tied : (o p : Ordering) → o ≡ ordering_reverse p → is_gt o ≡ false → is_gt p ≡ false → is_eq o ≡ true
tied Less Less e g h = cc
tied Less Equal e g h = cc
tied Less Greater e g h = cc
tied Equal p e g h = refl
tied Greater p e g h = absurd (true≢false g)

-- what stands between the start of an owner's queue and a place of the owner's is the owner's
pub owner_between : (owner whose : List ℕ) (t u v : ℕ × List ℕ) → is_gt (by_place (owner, t) (whose, u)) ≡ false → is_gt (by_place (whose, u) (owner, v)) ≡ false → whose ≡ owner
owner_between owner whose t u v a b =
    let f = first_not_gt (by_mark owner whose) (by_turn t u) a in
    let g = first_not_gt (by_mark whose owner) (by_turn u v) b in
    same_mark whose owner (tied (by_mark whose owner) (by_mark owner whose) (nat_list_cmp_total.antisymm whose owner) g f)

pub turn_between : (owner whose : List ℕ) (u v : ℕ × List ℕ) → whose ≡ owner → is_gt (by_place (whose, u) (owner, v)) ≡ false → is_gt (by_turn u v) ≡ false
turn_between owner whose u v e h = ap (λ o. is_gt (ordering_then o (by_turn u v))) (sym (tied_itself nat_list_cmp_total owner)) ∙ subst (λ w. is_gt (by_place (w, u) (owner, v)) ≡ false) e h
