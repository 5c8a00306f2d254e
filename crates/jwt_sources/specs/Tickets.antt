-- Which tickets were handed out, and which answers came by them.
use Rattle.std.specs.Prelude.{◌≡◌, ◌≢◌, ◌⊎◌, ◌<◌, ℕ, List, [], ◌∷◌, Option}
use Rattle.jwt_sources.specs.Places.{Named}

pub data Entry (K : Type 0) : Type 0 where
  -- for this place a ticket was handed out
  handed : Named → ℕ → Entry K
  -- for this place an answer came by this ticket, with these keys or none
  answered : Named → ℕ → Option K → Entry K

-- In a log the newest entry stands first.

-- the ticket was handed out for this place, and is not answered
abbrev pub IsOpen : {K : Type 0} → Named → ℕ → List (Entry K) → Type 0
IsOpen place ticket [] = ⊥
IsOpen place ticket (handed other t ∷ log) = ((place ≡ other) × (ticket ≡ t)) ⊎ IsOpen place ticket log
IsOpen place ticket (answered other t brought ∷ log) = (ticket ≢ t) × IsOpen place ticket log

-- this answer came for this place by this ticket
abbrev pub WasAnswered : {K : Type 0} → Named → ℕ → Option K → List (Entry K) → Type 0
WasAnswered place ticket keys [] = ⊥
WasAnswered place ticket keys (handed other t ∷ log) = WasAnswered place ticket keys log
WasAnswered place ticket keys (answered other t brought ∷ log) =
    ((place ≡ other) × (ticket ≡ t) × (keys ≡ brought)) ⊎ WasAnswered place ticket keys log

-- each ticket that was handed out is below this one
abbrev pub AllBelow : {K : Type 0} → ℕ → List (Entry K) → Type 0
AllBelow next [] = Unit {0}
AllBelow next (handed place t ∷ log) = (t < next) × AllBelow next log
AllBelow next (answered place t brought ∷ log) = AllBelow next log

-- the logs that come about: each ticket is greater than those before it, and what is answered was handed out for that place, and wasn't answered
abbrev pub IsRun : {K : Type 0} → List (Entry K) → Type 0
IsRun [] = Unit {0}
IsRun (handed place ticket ∷ log) = AllBelow ticket log × IsRun log
IsRun (answered place ticket brought ∷ log) = IsOpen place ticket log × IsRun log

-- ---- Cited by laws alone

-- the ticket was handed out for this place
abbrev pub WasHanded : {K : Type 0} → Named → ℕ → List (Entry K) → Type 0
WasHanded place ticket [] = ⊥
WasHanded place ticket (handed other t ∷ log) = ((place ≡ other) × (ticket ≡ t)) ⊎ WasHanded place ticket log
WasHanded place ticket (answered other t brought ∷ log) = WasHanded place ticket log
