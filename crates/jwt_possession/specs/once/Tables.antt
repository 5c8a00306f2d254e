-- The tables of a memory.
use Rattle.std.specs.Prelude.{ℕ, Bool, false, List, Option, unwrap_or}
use Rattle.std.specs.Option.{option_map, option_map_or}
use Rattle.std.specs.List.{count_by}
use Rattle.std.specs.declared.cmp.Ordering.{Ordering}
use Rattle.std.specs.Ordering.{nat_cmp, ordering_then, is_eq}
use Rattle.std.specs.Cmp.Lexicographic.{slice_cmp}
use Rattle.std.specs.BTreeMap.{BTreeMap, get, values}
use Rattle.std.specs.BTreeSet.{BTreeSet, contains}
use Rattle.jwt_possession.specs.declared.once.table.Holding.{Holding}

-- the order of marks and owners
abbrev pub by_mark : List ℕ → List ℕ → Ordering
by_mark = slice_cmp nat_cmp

-- the order of a queue
abbrev pub by_turn : ℕ × List ℕ → ℕ × List ℕ → Ordering
by_turn x y = ordering_then (nat_cmp x.0 y.0) (by_mark x.1 y.1)

-- the order of the owners' queues, one behind another
abbrev pub by_place : List ℕ × (ℕ × List ℕ) → List ℕ × (ℕ × List ℕ) → Ordering
by_place x y = ordering_then (by_mark x.0 y.0) (by_turn x.1 y.1)

-- what is held by this mark
abbrev pub held_in : BTreeMap (List ℕ) Holding → List ℕ → Option Holding
held_in held mark = get by_mark held mark

-- the moment of what is held by this mark
abbrev pub moment_at : BTreeMap (List ℕ) Holding → List ℕ → Option ℕ
moment_at held mark = option_map (λ its. its.moment) (held_in held mark)

-- whether this is the owner of what is held
abbrev pub is_of : List ℕ → Holding → Bool
is_of owner its = option_map_or (λ whose. is_eq (by_mark whose owner)) its.owner false

-- how many are held of this owner's
abbrev pub number_of : List ℕ → BTreeMap (List ℕ) Holding → ℕ
number_of owner held = count_by (is_of owner) (values held)

-- the mark stands in the queue, at this moment
abbrev pub has_turn : BTreeSet (ℕ × List ℕ) → ℕ → List ℕ → Bool
has_turn turns moment mark = contains by_turn turns (moment, mark)

-- the mark stands in this owner's queue, at this moment
abbrev pub has_place : BTreeSet (List ℕ × (ℕ × List ℕ)) → List ℕ → ℕ → List ℕ → Bool
has_place places owner moment mark = contains by_place places (owner, (moment, mark))

-- how many are counted of this owner's
abbrev pub number_in : BTreeMap (List ℕ) ℕ → List ℕ → ℕ
number_in numbers owner = unwrap_or (get by_mark numbers owner) 0
