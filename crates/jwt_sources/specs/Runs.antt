-- What any calls come to, whatever is asked and told.
use Rattle.std.specs.Prelude.{◌≡◌, ◌+◌, ◌-◌, ◌==◌, if◌then◌else◌, ℕ, Bool, List, [], ◌∷◌, Option}
use Rattle.jwt_request.specs.declared.renewal.asker.Asker.{Asker}
use Rattle.jwt_request.specs.declared.renewal.asker.Asker.TheVariants.{Token, Refused, Owner, Waited}
use Rattle.jwt_request.specs.declared.renewal.answer.Answer.{Answer}
use Rattle.jwt_request.specs.declared.renewal.answer.Fetch.{Fetch}
use Rattle.jwt_request.specs.declared.renewal.answer.Fetch.TheVariants.{Nothing, Begin, UnderWay}
use Rattle.jwt_sources.specs.declared.sources.Sources.{Sources}
use Rattle.jwt_sources.specs.declared.sources.Job.{Job}
use Rattle.jwt_sources.specs.declared.sources.Outcome.{Outcome}
use Rattle.jwt_sources.specs.declared.sources.Outcome.TheVariants.{Ended, Late}
use Rattle.jwt_sources.specs.Changes.{IsTold, IsAsked, IsWaited, IsHandedOut, IsLetGo}
use Rattle.jwt_sources.specs.Places.{Named, named}
use Rattle.jwt_sources.specs.Standing.{ChangesAt, AllChange, IsOutcome}
use Rattle.jwt_sources.specs.Tickets.{Entry, handed, answered}

-- a call, with its answer; of what is handed out and of what came, also the place
pub data Call (K : Type 0) : Type 0 where
  tell : ℕ → Call K
  let_go : ℕ → Call K
  ask : ℕ → Asker → ℕ → Answer → Call K
  wait : ℕ → ℕ → ℕ → ℕ → Bool → Call K
  next : Named → Job → Call K
  came : Named → ℕ → ℕ → List ℕ → List ℕ → Option K → ℕ → Outcome → Call K

-- the call takes the one state to the other
abbrev pub IsCall : {K : Type 0} → Sources K → Call K → Sources K → Type 0
IsCall old (tell now) new = AllChange old new (λ one other. IsTold one now other) × (new.tickets ≡ old.tickets)
IsCall old (let_go now) new = AllChange old new (λ one other. IsLetGo one now other) × (new.tickets ≡ old.tickets)
IsCall old (ask at asker now answer) new = ChangesAt at old new (λ one other. IsAsked one asker now answer other) × (new.tickets ≡ old.tickets)
IsCall old (wait at number name now may) new = ChangesAt at old new (λ one other. IsWaited one number name now may other) × (new.tickets ≡ old.tickets)
IsCall old (next place job) new =
    ChangesAt job.source old new (λ one other. (named one.place ≡ place) × IsHandedOut one job.ticket other) × (job.ticket ≡ old.tickets) × (new.tickets ≡ old.tickets + 1)
IsCall old (came place ticket status location octets brought now outcome) new =
    IsOutcome old place ticket status location octets brought now outcome new × (new.tickets ≡ old.tickets)

-- ---- Cited by laws alone

-- these calls, of which the newest stands first, take the one state to the other
abbrev pub AreCalls : {K : Type 0} → Sources K → List (Call K) → Sources K → Type 0
AreCalls first [] last = last ≡ first
AreCalls {K} first (call ∷ calls) last = (state : Sources K) × AreCalls first calls state × IsCall state call last

-- the log after an answer
abbrev pub with_outcome : {K : Type 0} → Named → Outcome → ℕ → Option K → List (Entry K) → List (Entry K)
with_outcome place (Ended at end) ticket brought log = answered place ticket brought ∷ log
with_outcome place Late ticket brought log = log

-- the log after these calls
abbrev pub log_after : {K : Type 0} → List (Call K) → List (Entry K) → List (Entry K)
log_after [] log = log
log_after (tell now ∷ calls) log = log_after calls log
log_after (let_go now ∷ calls) log = log_after calls log
log_after (ask at asker now answer ∷ calls) log = log_after calls log
log_after (wait at number name now may ∷ calls) log = log_after calls log
log_after (next place job ∷ calls) log = handed place job.ticket ∷ log_after calls log
log_after (came place ticket status location octets brought now outcome ∷ calls) log = with_outcome place outcome ticket brought (log_after calls log)

-- how many fetches of this source began for a token that came or was refused
abbrev pub counted : Asker → Fetch → ℕ
counted Token Nothing = 0
counted Token (Begin ticket) = 1
counted Token (UnderWay ticket left) = 0
counted (Refused keys) Nothing = 0
counted (Refused keys) (Begin ticket) = 1
counted (Refused keys) (UnderWay ticket left) = 0
counted Owner fetch = 0
counted Waited fetch = 0

abbrev pub begun_at : {K : Type 0} → ℕ → List (Call K) → ℕ
begun_at place [] = 0
begun_at place (tell now ∷ calls) = begun_at place calls
begun_at place (let_go now ∷ calls) = begun_at place calls
begun_at place (ask at asker now answer ∷ calls) = begun_at place calls + (if place == at then counted asker answer.fetch else 0)
begun_at place (wait at number name now may ∷ calls) = begun_at place calls
begun_at place (next stood job ∷ calls) = begun_at place calls
begun_at place (came stood ticket status location octets brought now outcome ∷ calls) = begun_at place calls

-- how many fetches of it began, whoever asked; and how many requests of it were handed out
abbrev pub begins : Fetch → ℕ
begins Nothing = 0
begins (Begin ticket) = 1
begins (UnderWay ticket left) = 0

abbrev pub fetches_at : {K : Type 0} → ℕ → List (Call K) → ℕ
fetches_at place [] = 0
fetches_at place (tell now ∷ calls) = fetches_at place calls
fetches_at place (let_go now ∷ calls) = fetches_at place calls
fetches_at place (ask at asker now answer ∷ calls) = fetches_at place calls + (if place == at then begins answer.fetch else 0)
fetches_at place (wait at number name now may ∷ calls) = fetches_at place calls
fetches_at place (next stood job ∷ calls) = fetches_at place calls
fetches_at place (came stood ticket status location octets brought now outcome ∷ calls) = fetches_at place calls

abbrev pub handed_at : {K : Type 0} → ℕ → List (Call K) → ℕ
handed_at place [] = 0
handed_at place (tell now ∷ calls) = handed_at place calls
handed_at place (let_go now ∷ calls) = handed_at place calls
handed_at place (ask at asker now answer ∷ calls) = handed_at place calls
handed_at place (wait at number name now may ∷ calls) = handed_at place calls
handed_at place (next stood job ∷ calls) = handed_at place calls + (if place == job.source then 1 else 0)
handed_at place (came stood ticket status location octets brought now outcome ∷ calls) = handed_at place calls

-- the moment that this source was told last, and the milliseconds that passed for it: of a clock that goes back, none
abbrev pub heard_at : {K : Type 0} → ℕ → ℕ → List (Call K) → ℕ
heard_at place first [] = first
heard_at place first (tell now ∷ calls) = now
heard_at place first (let_go now ∷ calls) = now
heard_at place first (ask at asker now answer ∷ calls) = if place == at then now else heard_at place first calls
heard_at place first (wait at number name now may ∷ calls) = if place == at then now else heard_at place first calls
heard_at place first (next stood job ∷ calls) = heard_at place first calls
heard_at place first (came stood ticket status location octets brought now (Ended at end) ∷ calls) = if place == at then now else heard_at place first calls
heard_at place first (came stood ticket status location octets brought now Late ∷ calls) = heard_at place first calls

abbrev pub passed_at : {K : Type 0} → ℕ → ℕ → List (Call K) → ℕ
passed_at place first [] = 0
passed_at place first (tell now ∷ calls) = passed_at place first calls + (now - heard_at place first calls)
passed_at place first (let_go now ∷ calls) = passed_at place first calls + (now - heard_at place first calls)
passed_at place first (ask at asker now answer ∷ calls) = passed_at place first calls + (if place == at then now - heard_at place first calls else 0)
passed_at place first (wait at number name now may ∷ calls) = passed_at place first calls + (if place == at then now - heard_at place first calls else 0)
passed_at place first (next stood job ∷ calls) = passed_at place first calls
passed_at place first (came stood ticket status location octets brought now (Ended at end) ∷ calls) = passed_at place first calls + (if place == at then now - heard_at place first calls else 0)
passed_at place first (came stood ticket status location octets brought now Late ∷ calls) = passed_at place first calls
