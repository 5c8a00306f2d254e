-- What one call does to one source.
use Rattle.std.specs.Prelude.{◌≡◌, ◌-◌, ◌↔◌, ℕ, Bool, IsTrue, List, [], ◌∷◌, Option, Some, None}
use Rattle.jwt_request.specs.declared.renewal.asker.Asker.{Asker}
use Rattle.jwt_request.specs.declared.renewal.answer.Answer.{Answer}
use Rattle.jwt_request.specs.declared.renewal.times.Times.{Times}
use Rattle.jwt_request.specs.renewal.History.{Event, passed, failed}
use Rattle.jwt_request.specs.renewal.Rules.{IsFetch, IsUnderWay, MayWait, with_end, with_fetch, with_waiting}
use Rattle.jwt_request.specs.renewal.Standing as Renewed
use Rattle.jwt_sources.specs.declared.place.Place.{Place}
use Rattle.jwt_sources.specs.declared.source.Came.{Came}
use Rattle.jwt_sources.specs.declared.source.Source.{Source}
use Rattle.jwt_sources.specs.declared.step.Follows.{Follows}
use Rattle.jwt_sources.specs.declared.step.Step.TheVariants.{Nothing}
use Rattle.jwt_sources.specs.Follows.{IsAfterStep, told_of}
use Rattle.jwt_sources.specs.Places.{named}
use Rattle.jwt_sources.specs.Steps.{ticket_of, IsBegun, IsHanded, AreKeys, IsCameBy, step_after, with_answer}

-- a source without keys, which has fetched nothing
pub record IsNew {K : Type 0} (source : Source K) (place : Place) (times : Times) : Type 0 where
  pub placed : source.place ≡ place
  pub timed : source.renewal.times ≡ times
  pub renewed : Renewed.Stands source.renewal []
  pub step : ticket_of source.step ≡ None
  pub keys : source.keys ≡ None

-- it was told this moment: its ages grow by what passed, and nothing else changes
pub record IsTold {K : Type 0} (old : Source K) (now : ℕ) (new : Source K) : Type 0 where
  pub renewed : (h : List Event) → Renewed.Stands old.renewal h → Renewed.Stands new.renewal (passed (now - old.renewal.heard) ∷ h)
  pub times : new.renewal.times ≡ old.renewal.times
  pub heard : new.renewal.heard ≡ now
  pub step : new.step ≡ old.step
  pub keys : new.keys ≡ old.keys
  pub place : new.place ≡ old.place

-- it was asked: the fetch that it answers is the one of its history, and where one begins, its first request is due
pub record IsAsked {K : Type 0} (old : Source K) (asker : Asker) (now : ℕ) (answer : Answer) (new : Source K) : Type 0 where
  pub fetch : (h : List Event) → Renewed.Stands old.renewal h → IsFetch old.renewal.times asker (passed (now - old.renewal.heard) ∷ h) answer.fetch
  pub renewed : (h : List Event) → Renewed.Stands old.renewal h → Renewed.Stands new.renewal (with_fetch asker answer.fetch (passed (now - old.renewal.heard) ∷ h))
  pub times : new.renewal.times ≡ old.renewal.times
  pub heard : new.renewal.heard ≡ now
  pub step : IsBegun answer.fetch old.place old.step new.step
  pub keys : new.keys ≡ old.keys
  pub place : new.place ≡ old.place

-- a token asked whether it may wait for the fetch of this number
pub record IsWaited {K : Type 0} (old : Source K) (number name now : ℕ) (may : Bool) (new : Source K) : Type 0 where
  pub waits : (h : List Event) → Renewed.Stands old.renewal h → IsTrue may ↔ MayWait old.renewal.times number name (passed (now - old.renewal.heard) ∷ h)
  pub renewed : (h : List Event) → Renewed.Stands old.renewal h → Renewed.Stands new.renewal (with_waiting name may (passed (now - old.renewal.heard) ∷ h))
  pub times : new.renewal.times ≡ old.renewal.times
  pub heard : new.renewal.heard ≡ now
  pub step : new.step ≡ old.step
  pub keys : new.keys ≡ old.keys
  pub place : new.place ≡ old.place

-- what was due is handed out under this ticket, and nothing else changes
pub record IsHandedOut {K : Type 0} (old : Source K) (ticket : ℕ) (new : Source K) : Type 0 where
  pub step : IsHanded old.step ticket new.step
  pub renewal : new.renewal ≡ old.renewal
  pub keys : new.keys ≡ old.keys
  pub place : new.place ≡ old.place

-- an answer came by the ticket for which it waits: it waits for it no more, and its keys are those that came where they are taken, and else stay
pub record IsEnded {K : Type 0} (old : Source K) (ticket : ℕ) (brought : Option K) (now : ℕ) (came : Came) (new : Source K) : Type 0 where
  pub waited : ticket_of old.step ≡ Some ticket
  pub waits : ticket_of new.step ≡ None
  pub keys : AreKeys came old.keys ticket brought new.keys
  pub place : new.place ≡ old.place
  pub times : new.renewal.times ≡ old.renewal.times
  pub heard : new.renewal.heard ≡ now
  pub renewed : (h : List Event) → Renewed.Stands old.renewal h → Renewed.Stands new.renewal (with_answer came (passed (now - old.renewal.heard) ∷ h))

-- what follows on the status, the `Location` and the content is what becomes of the fetch, and what is fetched next
abbrev pub FollowsOn : {K : Type 0} → Source K → ℕ → List ℕ → List ℕ → Bool → ℕ → Came → Source K → Type 0
FollowsOn old status location octets brought now came new =
    (it : Follows) × IsAfterStep old.place old.step status location octets (told_of it) × (new.step ≡ step_after came it)
    × ((h : List Event) → Renewed.Stands old.renewal h → IsCameBy it brought came (IsUnderWay old.renewal.times (passed (now - old.renewal.heard) ∷ h)))

-- its fetch that is under way is over, without keys, and it waits for no answer; its keys stay
pub record IsLetGo {K : Type 0} (old : Source K) (now : ℕ) (new : Source K) : Type 0 where
  pub renewed : (h : List Event) → Renewed.Stands old.renewal h
      → (ended : Bool) × (IsTrue ended ↔ IsUnderWay old.renewal.times (passed (now - old.renewal.heard) ∷ h))
      × Renewed.Stands new.renewal (with_end failed ended (passed (now - old.renewal.heard) ∷ h))
  pub times : new.renewal.times ≡ old.renewal.times
  pub heard : new.renewal.heard ≡ now
  pub step : new.step ≡ Nothing
  pub keys : new.keys ≡ old.keys
  pub place : new.place ≡ old.place

-- they stand at one place, and have the same times
abbrev pub IsLike : {K : Type 0} → Source K → Source K → Type 0
IsLike one other = (named one.place ≡ named other.place) × (one.renewal.times ≡ other.renewal.times)
