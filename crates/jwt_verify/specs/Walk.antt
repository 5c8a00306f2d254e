-- A run that is under way: the clauses of private functions on the tries so far.
use Rattle.std.specs.Prelude.{ℕ, ◌+◌, ◌<◌, ◌≤◌, ◌≡◌, ◌++◌, ◌∷◌, Bool, true, false, not, List, [], map, length, Option, None, Some}
use Rattle.std.specs.List.{list_any, filter, flat_map, find}
use Rattle.jwt_verify.specs.declared.tries.RowEnd.{RowEnd}
use Rattle.jwt_verify.specs.declared.tries.RowEnd.TheVariants.{Through, Stop}
use Rattle.jwt_verify.specs.declared.signature_outcome.SignatureOutcome.{SignatureOutcome}
use Rattle.jwt_verify.specs.declared.tries.End.{End}
use Rattle.jwt_verify.specs.declared.tries.End.TheVariants.{Done, WorkExceeded, CallsExceeded, VerifierMemory}
use Rattle.jwt_verify.specs.declared.report.SigState.{SigState}
use Rattle.jwt_verify.specs.declared.report.SigState.TheVariants.{NotReached}
use Rattle.jwt_policy.specs.declared.mode.Mode.{Mode}
use Rattle.jwt_policy.specs.declared.mode.Mode.TheVariants.{Any, All}
use Rattle.jwt_verify.specs.declared.report.Try.{Try}
use Rattle.jwt_verify.specs.SignatureOutcome.{is_verified, outcome_key, outcome_state}
use Rattle.jwt_verify.specs.Table.{Table, below, verifies, verified, reached, tried, entry, tries, work, is_within, outcome, state_at}
use Rattle.jwt_verify.specs.Paying.{IsFront, IsNext}

abbrev pub is_tried : Table → Try → Bool
is_tried table entry = tried table entry.signature entry.key

-- the tries of the signature with the keys before this one
unfoldable pub row : Table → ℕ → ℕ → List Try
row table signature key = filter (is_tried table) (map (entry table signature) (below key))

-- the tries of the signatures before this one
unfoldable pub rows : Table → ℕ → List Try
rows table signature = flat_map (λ n. row table n table.keys) (below signature)

-- the run has come to this signature and this key, and has made the tries before that pair
pub record HasComeTo (table : Table) (signature key : ℕ) (made : List Try) : Type 0 where
  pub listed : made ≡ rows table signature ++ row table signature key
  pub reached : reached table signature ≡ true
  pub unverified : list_any (verifies table signature) (below key) ≡ false

-- the run is through with the signature, which it found verified or not
pub record IsThrough (table : Table) (signature : ℕ) (is_verified : Bool) (made : List Try) : Type 0 where
  pub listed : made ≡ rows table (signature + 1)
  pub reached : reached table signature ≡ true
  pub verified : verified table signature ≡ is_verified

-- whether the next signature is reached after one that is verified or not
abbrev pub goes_on : Mode → Bool → Bool
goes_on Any was_verified = not was_verified
goes_on All was_verified = was_verified

-- no key from the low number up to the high one is eligible for the signature
abbrev pub NoneEligible : Table → ℕ → ℕ → ℕ → Type 0
NoneEligible table signature low high = (n : ℕ) → low ≤ n → n < high → table.eligible signature n ≡ false

-- the least eligible key at or after a number
pub record IsNextKey (table : Table) (signature from key : ℕ) : Type 0 where
  pub after : from ≤ key
  pub within : key < table.keys
  pub eligible : table.eligible signature key ≡ true
  pub least : NoneEligible table signature from key

-- the budget has counted these tries, and they are within the ceilings
pub record IsCounted (fed called ceiling : ℕ) (max_calls : Option ℕ) (made : List Try) : Type 0 where
  pub octets : fed ≡ work made
  pub calls : called ≡ length made
  pub fits : work made ≤ ceiling
  pub within : is_within max_calls (length made) ≡ true

-- how a run ended
abbrev pub IsEnd : Table → ℕ → Option ℕ → List Try → End → Type 0
IsEnd table ceiling calls made Done = made ≡ tries table
IsEnd table ceiling calls made (WorkExceeded signature key) = IsNext table made (entry table signature key) × (ceiling < work made + table.cost signature key) × (is_within calls (length made + 1) ≡ true)
IsEnd table ceiling calls made (CallsExceeded signature key) = IsNext table made (entry table signature key) × (is_within calls (length made + 1) ≡ false)
IsEnd table ceiling calls made (VerifierMemory signature key) = IsFront table made × ((before : List Try) × (made ≡ before ++ entry table signature key ∷ [])) × (table.may_lack signature key ≡ true)

-- the pair at which a run stopped
abbrev pub stopped_at : Table → End → Option Try
stopped_at table Done = None
stopped_at table (WorkExceeded signature key) = Some (entry table signature key)
stopped_at table (CallsExceeded signature key) = Some (entry table signature key)
stopped_at table (VerifierMemory signature key) = Some (entry table signature key)

-- what becomes of the signature, and the key that verifies it
pub record IsOutcome (table : Table) (signature : ℕ) (ended : SignatureOutcome) : Type 0 where
  pub state : outcome_state ended ≡ outcome table signature
  pub key : find (verifies table signature) (below table.keys) ≡ outcome_key ended

-- how the tries of one signature ended
abbrev pub IsRowEnd : Table → ℕ → ℕ → Option ℕ → List Try → RowEnd → Type 0
IsRowEnd table signature ceiling calls made (Through ended) = IsThrough table signature (is_verified ended) made × IsOutcome table signature ended
IsRowEnd table signature ceiling calls made (Stop end) = IsEnd table ceiling calls made end × (reached table signature ≡ true) × ((key : ℕ) × (stopped_at table end ≡ Some (entry table signature key)))

-- the states of the first signatures were recorded, and no later signature is reached
pub record IsRecorded (table : Table) (stop : Option Try) (states : List SigState) : Type 0 where
  pub short : length states ≤ table.signatures
  pub listed : states ≡ map (state_at table stop) (below (length states))
  pub rest : (m : ℕ) → length states ≤ m → m < table.signatures → state_at table stop m ≡ NotReached
