-- What one call does.
use Rattle.std.specs.Prelude.{ℕ, ◌≡◌, ◌+◌, ◌≤◌, ◌<◌, ◌⊎◌, List, length, Option, Some, None}
use Rattle.jwt_possession.specs.declared.once.once.Once.{Once}
use Rattle.jwt_possession.specs.declared.once.once.Taken.{Taken}
use Rattle.jwt_possession.specs.declared.once.once.Taken.TheVariants.{New, Seen, Late, Full, OwnFull, OutOfMemory}
use Rattle.jwt_possession.specs.declared.once.once.Times.{Times}
use Rattle.jwt_possession.specs.declared.once.table.Holding.{Holding}
use Rattle.jwt_possession.specs.once.Tables.{held_in, number_of}

-- what is held by this mark, with its moment and its owner; None where nothing is
abbrev pub held_of : Once → List ℕ → Option Holding
held_of once mark = held_in once.table.held mark

-- something is held by this mark
abbrev pub IsHeld : Once → List ℕ → Type 0
IsHeld once mark = (its : Holding) × (held_of once mark ≡ Some its)

-- how many are held
abbrev pub size_of : Once → ℕ
size_of once = length once.table.held.entries

-- how many are held of this owner's
abbrev pub share_of : List ℕ → Once → ℕ
share_of owner once = number_of owner once.table.held

-- It may have been accepted before the memory was opened; or its moment is before the horizon, where the memory has let go; or its last moment has passed.
abbrev pub IsLate : Once → (latest : ℕ) → Times → Type 0
IsLate once latest times = (times.issued < once.opened) ⊎ (times.moment < once.horizon) ⊎ (times.moment + times.grace < latest)

-- as many are held as there is room for, and no one's moment has passed, by the longest grace that was told
abbrev pub IsFullOfLive : Once → (latest span : ℕ) → Type 0
IsFullOfLive once latest span =
    (size_of once ≡ once.most) × ((mark : List ℕ) (its : Holding) → held_of once mark ≡ Some its → latest ≤ its.moment + span)

-- there is an owner that has its share, and no one's moment of what it has has passed
abbrev pub IsOwnFull : Once → Option (List ℕ) → (latest span : ℕ) → Type 0
IsOwnFull once None latest span = ⊥
IsOwnFull once (Some owner) latest span =
    (share_of owner once ≡ once.share) × ((mark : List ℕ) (its : Holding) → held_of once mark ≡ Some its → its.owner ≡ Some owner → latest ≤ its.moment + span)

-- what counts is held on
abbrev pub Keeps : Once → Once → Type 0
Keeps old new = (mark : List ℕ) (its : Holding) → held_of old mark ≡ Some its → new.latest ≤ its.moment + new.span → held_of new mark ≡ Some its

-- what is let go has its moment before the horizon
abbrev pub Knows : Once → Once → Type 0
Knows old new = (mark : List ℕ) (its : Holding) → held_of old mark ≡ Some its → (held_of new mark ≡ Some its) ⊎ (its.moment < new.horizon)

-- the horizon goes on to what has passed by the longest grace, and no further
abbrev pub GoesOn : Once → Once → Type 0
GoesOn old new = (old.horizon ≤ new.horizon) × ((new.horizon ≡ old.horizon) ⊎ (new.horizon + new.span ≤ new.latest))

-- what is held was held before, or is this new one
abbrev pub HoldsNoMore : Once → Taken → List ℕ → Holding → Once → Type 0
HoldsNoMore old answer mark it new =
    (other : List ℕ) (its : Holding) → held_of new other ≡ Some its → (held_of old other ≡ Some its) ⊎ ((answer ≡ New) × (other ≡ mark) × (its ≡ it))

-- the answer, where it is late, where it is held, where its owner has its share, where there is no room
abbrev pub IsAnswer : Taken → Type 0 → Type 0 → Type 0 → Type 0 → Type 0
IsAnswer Late late held own full = late
IsAnswer Seen late held own full = ¬ late × held
IsAnswer OwnFull late held own full = ¬ late × ¬ held × own
IsAnswer Full late held own full = ¬ late × ¬ held × ¬ own × full
IsAnswer New late held own full = ¬ late × ¬ held × ¬ own × ¬ full
IsAnswer OutOfMemory late held own full = ¬ late × ¬ held × ¬ own × ¬ full

-- what is held of a thing with these times and this owner
abbrev pub holding : Times → Option (List ℕ) → Holding
holding times owner = record { moment = times.moment; owner = owner }

-- the call with this mark, this owner, these times and this moment takes the one memory to the other, and answers this
pub record IsTaken (old : Once) (mark : List ℕ) (owner : Option (List ℕ)) (times : Times) (now : ℕ) (answer : Taken) (new : Once) : Type 0 where
  -- the greatest moment that was told so far
  pub since : old.latest ≤ new.latest
  pub told : now ≤ new.latest
  pub least : (new.latest ≡ old.latest) ⊎ (new.latest ≡ now)
  -- the longest grace that was told so far
  pub longer : old.span ≤ new.span
  pub long : times.grace ≤ new.span
  pub longest : (new.span ≡ old.span) ⊎ (new.span ≡ times.grace)
  pub answers : IsAnswer answer (IsLate old new.latest times) (IsHeld old mark) (IsOwnFull old owner new.latest new.span) (IsFullOfLive old new.latest new.span)
  pub added : answer ≡ New → held_of new mark ≡ Some (holding times owner)
  pub kept : Keeps old new
  pub known : Knows old new
  pub horizon : GoesOn old new
  pub no_more : HoldsNoMore old answer mark (holding times owner) new
  pub opened : new.opened ≡ old.opened
  pub most : new.most ≡ old.most
  pub share : new.share ≡ old.share

-- ---- Cited by contracts of private functions alone

-- the one memory has let go of what has passed, and of nothing else, to become the other
pub record LetsGo (old new : Once) : Type 0 where
  pub opened : new.opened ≡ old.opened
  pub latest : new.latest ≡ old.latest
  pub span : new.span ≡ old.span
  pub most : new.most ≡ old.most
  pub share : new.share ≡ old.share
  pub horizon : GoesOn old new
  pub lost : (mark : List ℕ) (its : Holding) → held_of old mark ≡ Some its
      → (held_of new mark ≡ Some its) ⊎ ((size_of new < size_of old) × (its.moment < new.horizon) × (its.moment + old.span < old.latest))
  pub held : (mark : List ℕ) (its : Holding) → held_of new mark ≡ Some its → held_of old mark ≡ Some its
  pub size : (size_of new ≡ size_of old) ⊎ ((mark : List ℕ) × (its : Holding) × (held_of old mark ≡ Some its) × (its.moment + old.span < old.latest))
  pub fewer : size_of new ≤ size_of old
  pub own : (owner : List ℕ) → share_of owner new ≤ share_of owner old
