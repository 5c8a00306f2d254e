-- What is taken is known from then on: it is held, or its moment is before the horizon.
use Rattle.std.proofs.Common.{◌≡◌, ◌<◌, ◌⊎◌, ℕ, List, [], ◌∷◌, ◌++◌, Some, inl, inr, sym, ap, refl, subst, ◌∙◌, arith}
use Rattle.std.proofs.lemmas.Bool.{cases_lt}
use Rattle.std.proofs.lemmas.Option.{same_Some}
use Rattle.serde_json.specs.Data.{Members}
use Rattle.jwt_policy.specs.Settings.{Settings}
use Rattle.jwt_possession.specs.declared.once.once.Once.{Once}
use Rattle.jwt_possession.specs.declared.once.once.Taken.{Taken}
use Rattle.jwt_possession.specs.declared.once.once.Taken.TheVariants.{New, Seen, Late, Full, OwnFull, OutOfMemory}
use Rattle.jwt_possession.specs.declared.once.once.Times.{Times}
use Rattle.jwt_possession.specs.declared.once.table.Holding.{Holding}
use Rattle.jwt_possession.specs.once.Steps.{held_of, IsHeld, IsLate, IsFullOfLive, IsOwnFull, holding, IsAnswer, IsTaken}
use Rattle.jwt_possession.specs.once.Accepted.{seconds}
use Rattle.jwt_possession.specs.once.Laws.{Call, IsRun, NoTokenTwice, NeverTwice, IsCallFor, NeverTwiceFor}

-- whatever has this mark and this moment is held, or was let go
abbrev Knows_it : Once → List ℕ → Holding → Type 0
Knows_it once mark its = (held_of once mark ≡ Some its) ⊎ (its.moment < once.horizon)

still_known : (old new : Once) (call : Call) (mark : List ℕ) (its : Holding) → IsTaken old call.mark call.owner call.times call.now call.answer new → Knows_it old mark its → Knows_it new mark its
still_known old new call mark its taken (inl held) = taken.known mark its held
still_known old new call mark its taken (inr gone) = inr (omega (arith, gone, taken.horizon.0))

known : (first last : Once) (calls : List Call) (mark : List ℕ) (its : Holding) → Knows_it first mark its → IsRun first calls last → Knows_it last mark its
known first last [] mark its is run = subst (λ (o : Once). Knows_it o mark its) run is
known first last (call ∷ calls) mark its is run = known run.0 last calls mark its (still_known first run.0 call mark its run.1 is) run.2

split : (first last : Once) (before rest : List Call) → IsRun first (before ++ rest) last → (mid : Once) × IsRun mid rest last
split first last [] rest run = (first, run)
split first last (call ∷ before) rest run = split run.0 last before rest run.2

parts : (first last : Once) (before rest : List Call) → IsRun first (before ++ rest) last → (mid : Once) × IsRun first before mid × IsRun mid rest last
parts first last [] rest run = (first, refl, run)
parts first last (call ∷ before) rest run = let p = parts run.0 last before rest run.2 in (p.0, (run.0, run.1, p.1), p.2)

module _ (old new : Once) (call : Call) (taken : IsTaken old call.mark call.owner call.times call.now call.answer new) where
  pub answered : (answer : Taken) → call.answer ≡ answer → IsAnswer answer (IsLate old new.latest call.times) (IsHeld old call.mark) (IsOwnFull old call.owner new.latest new.span) (IsFullOfLive old new.latest new.span)
  answered answer is = subst (λ x. IsAnswer x (IsLate old new.latest call.times) (IsHeld old call.mark) (IsOwnFull old call.owner new.latest new.span) (IsFullOfLive old new.latest new.span)) is taken.answers

  late_by : IsLate old new.latest call.times → (answer : Taken) → call.answer ≡ answer → call.answer ≡ Late
  late_by late Late is = is
  late_by late Seen is = absurd ((answered Seen is).0 late)
  late_by late OwnFull is = absurd ((answered OwnFull is).0 late)
  late_by late Full is = absurd ((answered Full is).0 late)
  late_by late New is = absurd ((answered New is).0 late)
  late_by late OutOfMemory is = absurd ((answered OutOfMemory is).0 late)

  pub late_where : IsLate old new.latest call.times → call.answer ≡ Late
  late_where late = late_by late call.answer refl

  -- what is new and was known before has a later moment
  later : (its : Holding) → call.answer ≡ New → Knows_it old call.mark its → its.moment < call.times.moment
  later its is (inl held) = absurd ((answered New is).1 (its, held))
  later its is (inr gone) = elim (cases_lt its.moment call.times.moment) [
    | inl lt ↦ lt
    | inr le ↦ absurd ((answered New is).0 (inr (inl (omega (arith, gone, le)))))
  ]

pub no_token_twice : NoTokenTwice
no_token_twice one two last twice =
    let a = split twice.first last twice.before (one ∷ (twice.between ++ (two ∷ []))) twice.run in
    let b = parts a.1.0 last twice.between (two ∷ []) a.1.2 in
    later b.0 b.2.0 two b.2.1 (holding one.times one.owner) twice.two_is_new
    (subst (λ m. Knows_it b.0 m (holding one.times one.owner)) twice.same (known a.1.0 b.0 twice.between one.mark (holding one.times one.owner) (inl (a.1.1.added twice.one_is_new)) b.1))

pub never_twice : NeverTwice
never_twice one two last same twice = omega (arith, no_token_twice one two last twice, same)

same_moment : (policy other : Settings) (claims : Members) (one two : Call) → IsCallFor policy claims one → IsCallFor other claims two → one.times.moment ≡ two.times.moment
same_moment policy other claims one two a b = ap (λ (t : Times). t.moment) a.5 ∙ ap seconds (same_Some a.1 b.1 (sym a.3 ∙ b.3)) ∙ sym (ap (λ (t : Times). t.moment) b.5)

pub never_twice_for : NeverTwiceFor
never_twice_for policy other claims one two last a b twice = never_twice one two last (same_moment policy other claims one two a b) twice
