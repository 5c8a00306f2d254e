-- Which state stands for which tickets.
use Rattle.std.specs.Prelude.{◌≡◌, ◌≢◌, ◌-◌, ℕ, true, List, ◌∷◌, Option, Some, None, is_some}
use Rattle.std.specs.List.{slice_get}
use Rattle.jwt_request.specs.renewal.History.{Event, passed}
use Rattle.jwt_request.specs.renewal.Rules.{IsUnderWay}
use Rattle.jwt_request.specs.renewal.Standing as Renewed
use Rattle.jwt_sources.specs.declared.source.Source.{Source}
use Rattle.jwt_sources.specs.declared.step.Keys.{Keys}
use Rattle.jwt_sources.specs.declared.sources.Sources.{Sources}
use Rattle.jwt_sources.specs.declared.sources.Outcome.{Outcome}
use Rattle.jwt_sources.specs.declared.sources.Outcome.TheVariants.{Ended, Late}
use Rattle.jwt_sources.specs.Places.{Named, named}
use Rattle.jwt_sources.specs.Steps.{ticket_of, is_due}
use Rattle.jwt_sources.specs.Changes.{IsEnded, FollowsOn}
use Rattle.jwt_sources.specs.Tickets.{Entry, IsOpen, WasAnswered, AllBelow, IsRun}

-- the source at this place of the list
abbrev pub IsAt : {K : Type 0} → Sources K → ℕ → Source K → Type 0
IsAt state at source = slice_get state.sources.items at ≡ Some source

-- the log came about; its tickets are below the next one; what a source waits for is open for its place, and no other source waits for it; and its keys came with
-- an answer for its place
pub record Stands {K : Type 0} (state : Sources K) (log : List (Entry K)) : Type 0 where
  pub run : IsRun log
  pub below : AllBelow state.tickets log
  pub waits : (at : ℕ) (source : Source K) (ticket : ℕ) → IsAt state at source → ticket_of source.step ≡ Some ticket → IsOpen (named source.place) ticket log
  pub apart : (at other ticket : ℕ) (one two : Source K) → IsAt state at one → IsAt state other two → ticket_of one.step ≡ Some ticket → ticket_of two.step ≡ Some ticket → at ≡ other
  pub keys : (at : ℕ) (source : Source K) (it : Keys K) → IsAt state at source → source.keys ≡ Some it → WasAnswered (named source.place) it.ticket (Some it.prepared) log

-- all sources but this one stay as they are
abbrev pub OthersStay : {K : Type 0} → ℕ → Sources K → Sources K → Type 0
OthersStay at old new = (other : ℕ) → other ≢ at → slice_get new.sources.items other ≡ slice_get old.sources.items other

-- one source changes so, and all else stays
abbrev pub ChangesAt : {K : Type 0} → ℕ → Sources K → Sources K → (Source K → Source K → Type 0) → Type 0
ChangesAt {K} at old new R = (one : Source K) × (other : Source K) × IsAt old at one × IsAt new at other × R one other × OthersStay at old new

-- at each place of the list the source changes so
abbrev pub ChangesEach : {K : Type 0} → Option (Source K) → Option (Source K) → (Source K → Source K → Type 0) → Type 0
ChangesEach None None R = Unit {0}
ChangesEach None (Some new) R = ⊥
ChangesEach (Some old) None R = ⊥
ChangesEach (Some old) (Some new) R = R old new

abbrev pub AllChange : {K : Type 0} → Sources K → Sources K → (Source K → Source K → Type 0) → Type 0
AllChange old new R = (at : ℕ) → ChangesEach (slice_get old.sources.items at) (slice_get new.sources.items at) R

-- no source has something to be fetched that isn't handed out, and is in time
abbrev pub NothingIsDue : {K : Type 0} → Sources K → ℕ → Type 0
NothingIsDue {K} state now = (at : ℕ) (source : Source K) (h : List Event) → IsAt state at source → is_due source.step ≡ true → Renewed.Stands source.renewal h
    → ¬ IsUnderWay source.renewal.times (passed 0 ∷ passed (now - source.renewal.heard) ∷ h)

-- what an answer does to all of them: a late one nothing
abbrev pub IsOutcome : {K : Type 0} → Sources K → Named → ℕ → ℕ → List ℕ → List ℕ → Option K → ℕ → Outcome → Sources K → Type 0
IsOutcome {K} old place ticket status location octets brought now (Ended at came) new =
    ChangesAt at old new (λ one other. (named one.place ≡ place) × IsEnded one ticket brought now came other
    × FollowsOn one status location octets (is_some brought) now came other)
IsOutcome {K} old place ticket status location octets brought now Late new =
    (new ≡ old) × ((at : ℕ) (source : Source K) → IsAt old at source → ticket_of source.step ≢ Some ticket)
