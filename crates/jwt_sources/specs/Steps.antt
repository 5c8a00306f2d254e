-- How far a fetch is, and what one call does to it.
use Rattle.std.specs.Prelude.{◌≡◌, ℕ, Bool, true, false, List, ◌∷◌, Option, Some, None}
use Rattle.jwt_request.specs.renewal.History.{Event, took, failed}
use Rattle.jwt_request.specs.declared.renewal.answer.Fetch.{Fetch}
use Rattle.jwt_request.specs.declared.renewal.answer.Fetch.TheVariants.{Nothing as NoFetch, Begin, UnderWay}
use Rattle.jwt_sources.specs.declared.place.Place.{Place}
use Rattle.jwt_sources.specs.declared.step.Step.{Step}
use Rattle.jwt_sources.specs.declared.step.Step.TheVariants.{Nothing, Due, Out}
use Rattle.jwt_sources.specs.declared.step.Target.{Target}
use Rattle.jwt_sources.specs.declared.step.Keys.{Keys}
use Rattle.jwt_sources.specs.declared.step.Failure.TheVariants.{NoKeys}
use Rattle.jwt_sources.specs.declared.step.Follows.{Follows}
use Rattle.jwt_sources.specs.declared.step.Follows.TheVariants.{Keys as KeysCame, Step as StepCame, Failed as FetchFailed}
use Rattle.jwt_sources.specs.declared.source.Came.{Came}
use Rattle.jwt_sources.specs.declared.source.Came.TheVariants.{Taken, Next, Failed, Late}
use Rattle.jwt_sources.specs.Places.{first_of}

-- the ticket under which it is handed out
abbrev pub ticket_of : Step → Option ℕ
ticket_of Nothing = None
ticket_of (Due target) = None
ticket_of (Out ticket target) = Some ticket

-- it is to be fetched, and isn't handed out yet
abbrev pub is_due : Step → Bool
is_due Nothing = false
is_due (Due target) = true
is_due (Out ticket target) = false

-- what is due is handed out under this ticket
abbrev pub IsHanded : Step → ℕ → Step → Type 0
IsHanded old ticket new = (target : Target) × (old ≡ Due target) × (new ≡ Out ticket target)

-- what is to be fetched where a fetch begins; else nothing changes
abbrev pub IsBegun : Fetch → Place → Step → Step → Type 0
IsBegun NoFetch place old new = new ≡ old
IsBegun (Begin ticket) place old new = new ≡ Due (record { asked = first_of place; led = None; followed = 0 })
IsBegun (UnderWay ticket left) place old new = new ≡ old

-- what becomes of a fetch that is under way, by what follows on the answer, and by whether keys came with it
abbrev pub came_of : Follows → Bool → Came
came_of KeysCame true = Taken
came_of KeysCame false = Failed NoKeys
came_of (StepCame target) brought = Next
came_of (FetchFailed why) brought = Failed why

-- of one that isn't: it comes too late, whatever follows
abbrev pub IsCameBy : Follows → Bool → Came → Type 0 → Type 0
IsCameBy it brought came under = (under → came ≡ came_of it brought) × ((¬ under) → came ≡ Late)

-- the keys after an answer: those that came with it, where they are taken, and else those that were there
abbrev pub AreKeys : {K : Type 0} → Came → Option (Keys K) → ℕ → Option K → Option (Keys K) → Type 0
AreKeys Taken old ticket brought None = ⊥
AreKeys Taken old ticket brought (Some new) = (new.ticket ≡ ticket) × (brought ≡ Some new.prepared)
AreKeys Next old ticket brought new = new ≡ old
AreKeys (Failed why) old ticket brought new = new ≡ old
AreKeys Late old ticket brought new = new ≡ old

-- what happened to the keys by an answer
abbrev pub with_answer : Came → List Event → List Event
with_answer Taken h = took ∷ h
with_answer Next h = h
with_answer (Failed why) h = failed ∷ h
with_answer Late h = h

-- what is to be fetched after an answer: where the fetch goes on, what follows; else nothing
abbrev pub due_by : Follows → Step
due_by KeysCame = Nothing
due_by (StepCame target) = Due target
due_by (FetchFailed why) = Nothing

abbrev pub step_after : Came → Follows → Step
step_after Taken it = Nothing
step_after Next it = due_by it
step_after (Failed why) it = Nothing
step_after Late it = Nothing
