-- The pairs of signature and key that are tried, those of them that are paid, and the state of each signature.
use Rattle.std.specs.Prelude.{ℕ, ◌+◌, ◌≡◌, ◌++◌, ◌∷◌, [], ◌==◌, Bool, true, false, ◌&&◌, not, if◌then◌else◌, nat_le, nat_lt, List, map, length, take, slice_get, Option, Some}
use Rattle.std.specs.List.{range_with_len, list_any, list_all, filter, flat_map, find, sum_by, prefix_len}
use Rattle.std.specs.Option.{option_map_or}
use Rattle.jwt_policy.specs.declared.mode.Mode.{Mode}
use Rattle.jwt_policy.specs.declared.sig_fault.SigFault.{SigFault}
use Rattle.jwt_policy.specs.declared.mode.Mode.TheVariants.{Any, All}
use Rattle.jwt_verify.specs.declared.report.Try.{Try}
use Rattle.jwt_verify.specs.declared.tries.End.{End}
use Rattle.jwt_verify.specs.declared.tries.End.TheVariants.{Done, WorkExceeded, CallsExceeded, VerifierMemory}
use Rattle.jwt_verify.specs.declared.report.SigState.{SigState}
use Rattle.jwt_verify.specs.declared.report.SigState.TheVariants.{Barred, NoKey, BadSignature, Verified, NotReached, Stopped}

-- what a token with its signatures asks of a list of keys; the validity of every pair is taken as known
pub record Table : Type 0 where
  pub signatures : ℕ
  pub keys : ℕ
  pub mode : Mode
  pub bar : ℕ → Option SigFault
  pub eligible : ℕ → ℕ → Bool
  pub valid : ℕ → ℕ → Bool
  pub may_lack : ℕ → ℕ → Bool
  pub cost : ℕ → ℕ → ℕ

-- so many numbers, from 0
unfoldable pub below : ℕ → List ℕ
below count = range_with_len 0 count

-- the key is eligible and valid for the signature
unfoldable pub verifies : Table → ℕ → ℕ → Bool
verifies table signature key = table.eligible signature key && table.valid signature key

-- some key is
unfoldable pub verified : Table → ℕ → Bool
verified table signature = list_any (verifies table signature) (below table.keys)

-- no signature before this one is verified, or each one is, by the mode
unfoldable pub reached_in : Mode → Table → ℕ → Bool
reached_in Any table signature = not (list_any (verified table) (below signature))
reached_in All table signature = list_all (verified table) (below signature)

unfoldable pub reached : Table → ℕ → Bool
reached table signature = reached_in table.mode table signature

-- the signature is reached, the key is eligible, and no key before it is eligible and valid
unfoldable pub tried : Table → ℕ → ℕ → Bool
tried table signature key = reached table signature && (table.eligible signature key && not (list_any (verifies table signature) (below key)))

abbrev pub entry : Table → ℕ → ℕ → Try
entry table signature key = record { signature = signature; key = key; cost = table.cost signature key }

-- all pairs in dictionary order
unfoldable pub pairs : Table → List Try
pairs table = flat_map (λ signature. map (entry table signature) (below table.keys)) (below table.signatures)

-- the tries: all pairs that are tried, in that order
unfoldable pub tries : Table → List Try
tries table = filter (λ e. tried table e.signature e.key) (pairs table)

unfoldable pub work : List Try → ℕ
work made = sum_by (λ e. e.cost) made

-- so many calls are within the ceiling, where there is one
unfoldable pub is_within : Option ℕ → ℕ → Bool
is_within ceiling calls = option_map_or (λ c. nat_le calls c) ceiling true

-- so many of the first tries are within both ceilings
unfoldable pub affords : Table → ℕ → Option ℕ → ℕ → Bool
affords table octets calls count = nat_le (work (take count (tries table))) octets && is_within calls count

-- the longest prefix of the tries within both ceilings
unfoldable pub paid : Table → ℕ → Option ℕ → List Try
paid table octets calls = take (prefix_len (affords table octets calls) (range_with_len 1 (length (tries table)))) (tries table)

-- the pair at which the run stops: the one after the paid ones
unfoldable pub stop : Table → ℕ → Option ℕ → Option Try
stop table octets calls = slice_get (tries table) (length (paid table octets calls))

-- what becomes of a signature that is reached and not stopped: it is barred, some key verifies it, or none does, and some or none
-- is eligible
unfoldable pub outcome : Table → ℕ → SigState
outcome table signature = option_map_or Barred (table.bar signature) (option_map_or Verified (find (verifies table signature) (below table.keys)) (if list_any (table.eligible signature) (below table.keys) then BadSignature else NoKey))

-- what becomes of the signature, by the pair at which the run stops, if it does
unfoldable pub state_at : Table → Option Try → ℕ → SigState
state_at table stopped signature =
    if option_map_or (λ e. e.signature == signature) stopped false then Stopped
    else if reached table signature && not (option_map_or (λ e. nat_lt e.signature signature) stopped false) then outcome table signature
    else NotReached

unfoldable pub states_at : Table → Option Try → List SigState
states_at table stopped = map (state_at table stopped) (below table.signatures)

abbrev pub states : Table → ℕ → Option ℕ → List SigState
states table octets calls = states_at table (stop table octets calls)

-- how a run ends that finds memory
abbrev pub ending : Table → ℕ → Option ℕ → End
ending table octets calls = option_map_or (λ e. if is_within calls (length (paid table octets calls) + 1) then WorkExceeded e.signature e.key else CallsExceeded e.signature e.key) (stop table octets calls) Done

-- ---- Cited by contracts of private functions alone

-- what a run that finds memory leaves: the paid tries, the states and the ending; where a verifier found none, the tries end with the pair that was asked
abbrev pub IsWholeRun : Table → ℕ → Option ℕ → List Try → List SigState → End → Type 0
IsWholeRun table octets calls made found (VerifierMemory signature key) = ((before : List Try) × (made ≡ before ++ entry table signature key ∷ [])) × (table.may_lack signature key ≡ true) × (found ≡ states_at table (Some (entry table signature key)))
IsWholeRun table octets calls made found end = (made ≡ paid table octets calls) × (found ≡ states table octets calls) × (end ≡ ending table octets calls)
