-- What happened to keys by URL. No moment of a clock stands in it, but how much time passed: a clock may begin anywhere.
use Rattle.std.specs.Prelude.{ℕ, ◌+◌, List, [], ◌∷◌, ◌++◌, Bool, true, false, Option, None, Some}
use Rattle.jwt_request.specs.declared.renewal.asker.Asker.{Asker}

pub data Event : Type 0 where
  -- so many milliseconds pass
  passed : ℕ → Event
  -- a fetch begins: who asked for it, and its ticket
  began : Asker → ℕ → Event
  -- it ends, with keys that are taken
  took : Event
  -- it ends without
  failed : Event
  -- a token begins to wait for it, under this name
  waits : ℕ → Event

-- In a history the newest event stands first.

-- the moment: the milliseconds since the history began
abbrev pub moment : List Event → ℕ
moment [] = 0
moment (passed d ∷ h) = moment h + d
moment (began a t ∷ h) = moment h
moment (took ∷ h) = moment h
moment (waits n ∷ h) = moment h
moment (failed ∷ h) = moment h

-- the moments at which fetches began
abbrev pub beginnings : List Event → List ℕ
beginnings [] = []
beginnings (passed d ∷ h) = beginnings h
beginnings (began a t ∷ h) = moment h ∷ beginnings h
beginnings (took ∷ h) = beginnings h
beginnings (waits n ∷ h) = beginnings h
beginnings (failed ∷ h) = beginnings h

-- the newest one
abbrev pub newest : List ℕ → Option ℕ
newest [] = None
newest (m ∷ ms) = Some m

-- the ticket of the fetch that began last; 0 before the first
abbrev pub last_ticket : List Event → ℕ
last_ticket [] = 0
last_ticket (passed d ∷ h) = last_ticket h
last_ticket (began a t ∷ h) = t
last_ticket (took ∷ h) = last_ticket h
last_ticket (waits n ∷ h) = last_ticket h
last_ticket (failed ∷ h) = last_ticket h

-- that fetch has not ended
abbrev pub is_open : List Event → Bool
is_open [] = false
is_open (passed d ∷ h) = is_open h
is_open (began a t ∷ h) = true
is_open (took ∷ h) = false
is_open (waits n ∷ h) = is_open h
is_open (failed ∷ h) = false

-- the moment at which the fetch of the keys began, which are those that were taken last: what was withdrawn before it isn't among them
abbrev pub keys_since : List Event → Option ℕ
keys_since [] = None
keys_since (passed d ∷ h) = keys_since h
keys_since (began a t ∷ h) = keys_since h
keys_since (took ∷ h) = newest (beginnings h)
keys_since (waits n ∷ h) = keys_since h
keys_since (failed ∷ h) = keys_since h

-- the ticket of that fetch, which is the name of the keys
abbrev pub keys_ticket : List Event → ℕ
keys_ticket [] = 0
keys_ticket (passed d ∷ h) = keys_ticket h
keys_ticket (began a t ∷ h) = keys_ticket h
keys_ticket (took ∷ h) = last_ticket h
keys_ticket (waits n ∷ h) = keys_ticket h
keys_ticket (failed ∷ h) = keys_ticket h

-- the names under which tokens wait for the fetch that began last, as long as it hasn't ended; the first stands first
abbrev pub waiting : List Event → List ℕ
waiting [] = []
waiting (passed d ∷ h) = waiting h
waiting (began a t ∷ h) = []
waiting (took ∷ h) = []
waiting (waits n ∷ h) = waiting h ++ n ∷ []
waiting (failed ∷ h) = []
