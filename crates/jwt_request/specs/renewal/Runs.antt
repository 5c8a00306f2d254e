-- The histories that come about, whatever is told and asked.
use Rattle.std.specs.Prelude.{◌≡◌, ◌≢◌, ◌+◌, ◌<◌, ◌%◌, ◌^◌, ℕ, List, [], ◌∷◌, length}
use Rattle.std.specs.List.{All}
use Rattle.jwt_request.specs.declared.renewal.times.Times.{Times}
use Rattle.jwt_request.specs.declared.renewal.asker.Asker.TheVariants.{Token, Refused, Owner, Waited}
use Rattle.jwt_request.specs.renewal.History.{Event, passed, began, took, failed, waits, waiting, last_ticket}
use Rattle.jwt_request.specs.renewal.Rules.{IsUnderWay, Wants, MayBegin}

-- each fetch began where it was wanted and might, under the next ticket; and what ended was under way
abbrev pub IsRun : Times → List Event → Type 0
IsRun times [] = Unit {0}
IsRun times (passed d ∷ h) = IsRun times h
IsRun times (began asker ticket ∷ h) = Wants times asker h × MayBegin times asker h × (ticket ≡ (last_ticket h + 1) % 2 ^ 64) × IsRun times h
IsRun times (took ∷ h) = IsUnderWay times h × IsRun times h
IsRun times (waits name ∷ h) = IsUnderWay times h × (length (waiting h) < 4) × All (λ other. other ≢ name) (waiting h) × IsRun times h
IsRun times (failed ∷ h) = IsUnderWay times h × IsRun times h

-- ---- Cited by laws alone

-- how many fetches began for a token that came or was refused
abbrev pub asked : List Event → ℕ
asked [] = 0
asked (passed d ∷ h) = asked h
asked (began Token ticket ∷ h) = asked h + 1
asked (began (Refused keys) ticket ∷ h) = asked h + 1
asked (began Owner ticket ∷ h) = asked h
asked (began Waited ticket ∷ h) = asked h
asked (took ∷ h) = asked h
asked (waits name ∷ h) = asked h
asked (failed ∷ h) = asked h
