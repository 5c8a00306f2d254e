-- Which state stands for which history: its numbers, each a reading of it.
use Rattle.std.specs.Prelude.{◌≡◌, ℕ, ◌-◌, ◌^◌, min, List, [], ◌∷◌, take, Option, None, Some}
use Rattle.jwt_request.specs.declared.renewal.renewal.Renewal.{Renewal}
use Rattle.jwt_request.specs.declared.renewal.waiters.Waiters.{Waiters}
use Rattle.jwt_request.specs.renewal.Runs.{IsRun}
use Rattle.jwt_request.specs.renewal.History.{Event, moment, beginnings, newest, last_ticket, is_open, keys_since, keys_ticket, waiting}

-- the milliseconds since a moment, as far as 64 bits count; the greatest number where there is no such moment
abbrev pub age : Option ℕ → ℕ → ℕ
age None now = 2 ^ 64 - 1
age (Some since) now = min (now - since) (2 ^ 64 - 1)

-- the names under which tokens wait: of the four places the first so many
abbrev pub names : Waiters → List ℕ
names it = take it.count (it.first ∷ it.second ∷ it.third ∷ it.fourth ∷ [])

-- the history came about by these times, and the numbers are its readings
pub record Stands (state : Renewal) (h : List Event) : Type 0 where
  pub run : IsRun state.times h
  pub keys : state.keys_age ≡ age (keys_since h) (moment h)
  pub keys_named : state.keys_ticket ≡ keys_ticket h
  pub begun : state.begun_age ≡ age (newest (beginnings h)) (moment h)
  pub named : state.ticket ≡ last_ticket h
  pub is_open : state.is_open ≡ is_open h
  pub waiting : names state.waiters ≡ waiting h
