-- A memory holds no more than the shares of those whose things it holds.
use Rattle.std.proofs.Common.{◌≡◌, ◌<◌, ◌≤◌, ◌+◌, ◌*◌, ℕ, Bool, cond, List, [], ◌∷◌, length, Option, Some, None, inl, inr, sym, ap, refl, subst, ◌∙◌, arith}
use Rattle.std.specs.Ordering.{is_eq}
use Rattle.std.specs.List.{count_by}
use Rattle.std.specs.List.Sorted.{IsStrictlySortedBy}
use Rattle.std.specs.Map.{lookup, keys_of, values_of}
use Rattle.std.specs.BTreeMap.{is_at}
use Rattle.std.proofs.lemmas.Bool.{cases_Bool, cases_lt}
use Rattle.std.proofs.lemmas.Cmp.{nat_list_cmp_total, eq_by_cmp_equiv}
use Rattle.std.proofs.lemmas.List.Sums.{sum_by-cons}
use Rattle.std.proofs.lemmas.Map.{lookup-none}
use Rattle.std.proofs.lemmas.Map.Keys.{IsDistinct-from_sorted, sorted_tail}
use Rattle.std.proofs.lemmas.Map.Entries.{none_past_head, lookup_head, lookup_tail}
use Rattle.std.proofs.lemmas.Option.{none-some, same_Some}
use Rattle.jwt_possession.specs.declared.once.once.Once.{Once}
use Rattle.jwt_possession.specs.declared.once.once.Taken.TheVariants.{Full, OwnFull}
use Rattle.jwt_possession.specs.declared.once.table.Holding.{Holding}
use Rattle.jwt_possession.specs.once.Tables.{by_mark, is_of}
use Rattle.jwt_possession.specs.once.Steps.{held_of, size_of, share_of, IsOwnFull, holding, IsTaken}
use Rattle.jwt_possession.specs.once.Laws.{Call, IsRun, IsOneOf, IsTheirs, HoldsOnlyOf, AreCallsOf, IsAfter, NotShutOut, RoomForAll}
use Rattle.jwt_possession.proofs.Queue.{mark_itself}
use Rattle.jwt_possession.proofs.Numbers.{owner_from, of_itself}
use Rattle.jwt_possession.proofs.Runs.{answered}

abbrev Entries : Type 0
Entries = List (List ℕ × Holding)

-- it is so of each that is held
abbrev Each : (Holding → Type 0) → Entries → Type 0
Each P [] = Unit {0}
Each P (e ∷ es) = P e.1 × Each P es

each : (P : Holding → Type 0) (es : Entries) → IsStrictlySortedBy by_mark (keys_of es)
    → ((mark : List ℕ) (its : Holding) → lookup (is_at (by_mark mark)) es ≡ Some its → P its) → Each P es
each P [] sorted so = tt
each P (e ∷ es) sorted so = (
  so e.0 e.1 (lookup_head (is_at (by_mark e.0)) e es (mark_itself e.0)),
  each P es (sorted_tail by_mark e.0 (keys_of es) sorted) (λ mark its found. elim (cases_Bool (is_eq (by_mark mark e.0))) [
    | inl same ↦ absurd (none-some its (sym (lookup-none (is_at (by_mark mark)) es
        (none_past_head (eq_by_cmp_equiv nat_list_cmp_total) mark e es (IsDistinct-from_sorted by_mark (keys_of (e ∷ es)) sorted) same)) ∙ found))
    | inr other ↦ so mark its (lookup_tail (is_at (by_mark mark)) e es other ∙ found)
  ]),
)

abbrev own : List ℕ → Entries → ℕ
own owner es = count_by (is_of owner) (values_of es)

own-cons : (owner : List ℕ) (e : List ℕ × Holding) (es : Entries) → own owner (e ∷ es) ≡ cond (is_of owner e.1) 1 0 + own owner es
own-cons owner e es = sum_by-cons (λ (its : Holding). cond (is_of owner its) 1 0) e.1 (values_of es)

-- how many are held of all these owners' together, and how often one is one of theirs
total : List (List ℕ) → Entries → ℕ
total [] es = 0
total (o ∷ os) es = own o es + total os es

hits : List (List ℕ) → Holding → ℕ
hits [] its = 0
hits (o ∷ os) its = cond (is_of o its) 1 0 + hits os its

total-nil : (os : List (List ℕ)) → total os [] ≡ 0
unfolding total
total-nil [] = refl
total-nil (o ∷ os) = omega (arith, total-nil os)

total-cons : (os : List (List ℕ)) (e : List ℕ × Holding) (es : Entries) → total os (e ∷ es) ≡ hits os e.1 + total os es
unfolding total hits
total-cons [] e es = refl
total-cons (o ∷ os) e es = omega (arith, own-cons o e es, total-cons os e es)

hits-one : (os : List (List ℕ)) (its : Holding) → IsOneOf os its.owner → 1 ≤ hits os its
unfolding hits
hits-one [] its h = absurd h
hits-one (o ∷ os) its (inl e) = omega (arith, of_itself its o e)
hits-one (o ∷ os) its (inr h) = omega (arith, hits-one os its h)

-- as many as are held are the owners'
held_by_them : (os : List (List ℕ)) (es : Entries) → Each (λ its. IsOneOf os its.owner) es → length es ≤ total os es
held_by_them os [] h = omega arith
held_by_them os (e ∷ es) h = omega (arith, total-cons os e es, hits-one os e.1 h.0, held_by_them os es h.1)

-- and they have no more than their shares
within : (os : List (List ℕ)) (es : Entries) (share : ℕ) → ((owner : List ℕ) → own owner es ≤ share) → total os es ≤ length os * share
unfolding total
within [] es share few = omega arith
within (o ∷ os) es share few = omega (arith, few o, within os es share few)

-- fewer, where one of them has less than its share
below : (os : List (List ℕ)) (es : Entries) (share : ℕ) (owner : List ℕ) → ((whose : List ℕ) → own whose es ≤ share) → own owner es < share → IsOneOf os (Some owner)
    → total os es < length os * share
unfolding total
below [] es share owner few less h = absurd h
below (o ∷ os) es share owner few less (inl e) = omega (arith, subst (λ w. own w es < share) (same_Some owner o e) less, within os es share few)
below (o ∷ os) es share owner few less (inr h) = omega (arith, few o, below os es share owner few less h)

-- who has nothing has none
nothing : (es : Entries) (owner : List ℕ) → Each (λ its. its.owner ≡ Some owner → ⊥) es → own owner es ≡ 0
nothing [] owner h = refl
nothing (e ∷ es) owner h = elim (cases_Bool (is_of owner e.1)) [
  | inl is ↦ absurd (h.0 (owner_from e.1.owner owner is))
  | inr other ↦ omega (arith, own-cons owner e es, ap {B = ℕ} (λ (b : Bool). cond b 1 0) other, nothing es owner h.1)
]

no_one : (os : List (List ℕ)) → IsOneOf os None → ⊥
no_one [] h = h
no_one (o ∷ os) (inl e) = none-some o e
no_one (o ∷ os) (inr h) = no_one os h

-- ---- over runs

module _ (os : List (List ℕ)) (latest span : ℕ) where
  step : (old new : Once) (call : Call) → IsTaken old call.mark call.owner call.times call.now call.answer new → IsTheirs os latest span (holding call.times call.owner)
      → HoldsOnlyOf os latest span old → HoldsOnlyOf os latest span new
  step old new call taken of only mark its held = elim (taken.no_more mark its held) [
    | inl was ↦ only mark its was
    | inr new ↦ subst (IsTheirs os latest span) (sym new.2) of
  ]

  steps : (first last : Once) (calls : List Call) → HoldsOnlyOf os latest span first → AreCallsOf os latest span calls → IsRun first calls last → HoldsOnlyOf os latest span last
  steps first last [] only of run = subst (HoldsOnlyOf os latest span) run only
  steps first last (call ∷ calls) only of run = steps run.0 last calls (step first run.0 call run.1 of.0 only) of.1 run.2

same_most : (first last : Once) (calls : List Call) → IsRun first calls last → (last.most ≡ first.most) × (last.share ≡ first.share)
same_most first last [] run = (ap (λ (o : Once). o.most) (sym run), ap (λ (o : Once). o.share) (sym run))
same_most first last (call ∷ calls) run = let rest = same_most run.0 last calls run.2 in (rest.0 ∙ run.1.most, rest.1 ∙ run.1.share)

-- a call that finds the memory full: all that is held is live, and an owner that asks has less than its share
module _ (old new : Once) (call : Call) (taken : IsTaken old call.mark call.owner call.times call.now call.answer new) (owner : List ℕ) (of : call.owner ≡ Some owner) where
  full : call.answer ≡ Full → (size_of old ≡ old.most) × (share_of owner old < old.share) × ((mark : List ℕ) (its : Holding) → held_of old mark ≡ Some its → new.latest ≤ its.moment + new.span)
  full is = let it = answered old new call taken Full is in (
    it.3.0,
    elim (cases_lt (share_of owner old) old.share) [
      | inl lt ↦ lt
      | inr le ↦ absurd (it.2 (subst (λ (o : Option (List ℕ)). IsOwnFull old o new.latest new.span) (sym of)
          (omega (arith, le, old.shared owner), λ mark its held whose. it.3.1 mark its held)))
    ],
    it.3.1,
  )

  own_full : call.answer ≡ OwnFull → IsOwnFull old (Some owner) new.latest new.span
  own_full is = subst (λ (o : Option (List ℕ)). IsOwnFull old o new.latest new.span) of (answered old new call taken OwnFull is).2

each_of : (P : Holding → Type 0) (once : Once) → ((mark : List ℕ) (its : Holding) → held_of once mark ≡ Some its → P its) → Each P once.table.held.entries
each_of P once so = each P once.table.held.entries once.table.ordered so

module _ (owners : List (List ℕ)) (first last new : Once) (calls : List Call) (call : Call) (after : IsAfter owners first last new calls call) where
  only : HoldsOnlyOf owners new.latest new.span last
  only = steps owners new.latest new.span first last calls after.only after.calls_of after.run

  theirs : ((mark : List ℕ) (its : Holding) → held_of last mark ≡ Some its → new.latest ≤ its.moment + new.span) → Each (λ its. IsOneOf owners its.owner) last.table.held.entries
  theirs live = each_of (λ its. IsOneOf owners its.owner) last (λ mark its held. only mark its held (live mark its held))

pub not_shut_out : NotShutOut
not_shut_out others owner first last new calls call after of stranger room =
    let same = same_most first last calls after.run in (
      λ is. (let it = full last new call after.taken owner of is in
          let few = held_by_them others last.table.held.entries (theirs others first last new calls call after it.2) in
          let most = within others last.table.held.entries last.share last.shared in
          let shares = subst (λ (n : ℕ). total others last.table.held.entries ≤ length others * n) same.1 most in
          omega (arith, it.0, few, shares, same.0, room)),
      λ is. (let it = own_full last new call after.taken owner of is in
          let none = nothing last.table.held.entries owner (each_of (λ its. its.owner ≡ Some owner → ⊥) last
          (λ mark its held whose. stranger (subst (IsOneOf others) whose (only others first last new calls call after mark its held (it.1 mark its held whose))))) in
          omega (arith, it.0, none, last.one)),
    )

pub room_for_all : RoomForAll
room_for_all owners first last new calls call after one room is = by call.owner refl
  where
    by : (o : Option (List ℕ)) → call.owner ≡ o → ⊥
    by None e = no_one owners (subst (IsOneOf owners) e one)
    by (Some owner) e =
        let same = same_most first last calls after.run in
        let it = full last new call after.taken owner e is in
        let few = held_by_them owners last.table.held.entries (theirs owners first last new calls call after it.2) in
        let most = below owners last.table.held.entries last.share owner last.shared it.1 (subst (IsOneOf owners) e one) in
        let shares = subst (λ (n : ℕ). total owners last.table.held.entries < length owners * n) same.1 most in
        omega (arith, it.0, few, shares, same.0, room)
