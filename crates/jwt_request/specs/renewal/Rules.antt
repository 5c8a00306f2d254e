-- What may be done with keys by URL, after what happened.
use Rattle.std.specs.Prelude.{◌≡◌, ◌≢◌, ◌⊎◌, ◌<◌, ◌≤◌, ◌+◌, ◌-◌, ◌%◌, ◌^◌, ℕ, List, ◌∷◌, Bool, true, false, Option, None, Some, length}
use Rattle.std.specs.List.{All}
use Rattle.jwt_request.specs.declared.renewal.times.Times.{Times}
use Rattle.jwt_request.specs.declared.renewal.asker.Asker.{Asker}
use Rattle.jwt_request.specs.declared.renewal.asker.Asker.TheVariants.{Token, Refused, Owner, Waited}
use Rattle.jwt_request.specs.declared.renewal.answer.Fetch.{Fetch}
use Rattle.jwt_request.specs.declared.renewal.answer.Fetch.TheVariants.{Nothing, Begin, UnderWay}
use Rattle.jwt_request.specs.renewal.History.{Event, began, waits, waiting, moment, beginnings, newest, last_ticket, is_open, keys_since, keys_ticket}

-- fewer milliseconds than the span lie between the one moment, which is there, and now
abbrev pub IsWithin : ℕ → Option ℕ → ℕ → Type 0
IsWithin span None now = ⊥
IsWithin span (Some since) now = now - since < span

-- the fetch that began last has not ended, and its deadline isn't over
abbrev pub IsUnderWay : Times → List Event → Type 0
IsUnderWay times h = (is_open h ≡ true) × IsWithin times.timeout (newest (beginnings h)) (moment h)

-- there are keys, and they are younger than the greatest age
abbrev pub IsUsable : Times → List Event → Type 0
IsUsable times h = IsWithin times.max_age (keys_since h) (moment h)

-- there are keys, and they need no newer ones yet
abbrev pub IsFresh : Times → List Event → Type 0
IsFresh times h = IsUsable times h × IsWithin times.refresh_after (keys_since h) (moment h)

-- of all fetches that ever began, whoever asked for them, each began at least a cool-down ago
abbrev pub IsCool : Times → List Event → Type 0
IsCool times h = All (λ began_at. times.cool_down ≤ moment h - began_at) (beginnings h)

-- whoever asks wants newer keys: for a token that comes, where the keys aren't fresh; for one that was refused, where the keys are those by which
-- it was; and who has waited wants no other fetch
abbrev pub Wants : Times → Asker → List Event → Type 0
Wants times Token h = ¬ IsFresh times h
Wants times (Refused keys) h = keys_ticket h ≡ keys
Wants times Owner h = Unit {0}
Wants times Waited h = ⊥

-- a fetch may begin: none is under way; and where it isn't the owner of the service who asks, all are a cool-down ago
abbrev pub MayBegin : Times → Asker → List Event → Type 0
MayBegin times Token h = (¬ IsUnderWay times h) × IsCool times h
MayBegin times (Refused keys) h = (¬ IsUnderWay times h) × IsCool times h
MayBegin times Owner h = ¬ IsUnderWay times h
MayBegin times Waited h = ⊥

-- the milliseconds that a fetch has left, which began then
abbrev pub left_of : ℕ → Option ℕ → ℕ → ℕ
left_of timeout None now = 0
left_of timeout (Some since) now = timeout - (now - since)

-- the answer to whoever asks: which fetch begins, or is to be waited for
abbrev pub IsFetch : Times → Asker → List Event → Fetch → Type 0
IsFetch times asker h Nothing = ¬ (Wants times asker h × (IsUnderWay times h ⊎ MayBegin times asker h))
IsFetch times asker h (Begin ticket) = Wants times asker h × MayBegin times asker h × (ticket ≡ (last_ticket h + 1) % 2 ^ 64)
IsFetch times asker h (UnderWay ticket left) =
    Wants times asker h × IsUnderWay times h × (ticket ≡ last_ticket h) × (left ≡ left_of times.timeout (newest (beginnings h)) (moment h))

-- what happened, when that was answered
abbrev pub with_fetch : Asker → Fetch → List Event → List Event
with_fetch asker Nothing h = h
with_fetch asker (Begin ticket) h = began asker ticket ∷ h
with_fetch asker (UnderWay ticket left) h = h

-- which keys are to be used: those that were taken last, and none where they are too old
abbrev pub IsKeys : Times → List Event → Option ℕ → Type 0
IsKeys times h None = ¬ IsUsable times h
IsKeys times h (Some ticket) = IsUsable times h × (ticket ≡ keys_ticket h)

-- what is said of an end counts: the fetch with that ticket is under way
abbrev pub Counts : Times → ℕ → List Event → Type 0
Counts times ticket h = IsUnderWay times h × (ticket ≡ last_ticket h)

-- a token may wait for the fetch with that ticket, under this name: it is under way, fewer than four wait for it, and none of them has that name
abbrev pub MayWait : Times → ℕ → ℕ → List Event → Type 0
MayWait times ticket name h = Counts times ticket h × (length (waiting h) < 4) × All (λ other. other ≢ name) (waiting h)

-- what happened, when that was answered
abbrev pub with_waiting : ℕ → Bool → List Event → List Event
with_waiting name true h = waits name ∷ h
with_waiting name false h = h

-- what happened, when an end was told
abbrev pub with_end : Event → Bool → List Event → List Event
with_end ended true h = ended ∷ h
with_end ended false h = h
