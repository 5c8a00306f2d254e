-- The report on a token.
use Rattle.std.specs.Prelude.{◌≡◌, ◌≢◌, ◌≤◌, ◌<◌, ◌+◌, ◌*◌, ◌⊎◌, ℕ, ℤ, ◌++◌, true, false, List, [], ◌∷◌, length, map, slice_get, Option, Some, None}
use Rattle.std.specs.List.{All, AllPairs, AllZip, sum_by}
use Rattle.jwt_mac.specs.Verifying.{Meaning}
use Rattle.jwt_jws.specs.declared.signed.Signed.{Signed}
use Rattle.jwt_jws.specs.Token.{Token}
use Rattle.jwt_jws.specs.Forms.{opens_object}
use Rattle.jwt_jws.specs.CompactForm.{IsCompact}
use Rattle.jwt_jws.specs.Views.{token as token_view}
use Rattle.jwt_keys.specs.declared.set.KeySet.{KeySet}
use Rattle.jwt_keys.specs.Views.{key_parts}
use Rattle.jwt_policy.specs.Settings.{Settings}
use Rattle.jwt_policy.specs.Laws.{IsEligible}
use Rattle.jwt_verify.specs.declared.report.Try.{Try}
use Rattle.jwt_verify.specs.declared.report.SigState.{SigState}
use Rattle.jwt_verify.specs.declared.report.SigState.TheVariants.{Barred, NoKey, BadSignature, Verified, NotReached, Stopped}
use Rattle.jwt_verify.specs.declared.report.InputFault.TheVariants.{Read}
use Rattle.jwt_verify.specs.declared.report.Fault.TheVariants.{OutOfMemory, VerifierMemory, Text}
use Rattle.jwt_verify.specs.declared.report.Report.{Report}
use Rattle.jwt_verify.specs.declared.report.Verdict.{Verdict}
use Rattle.jwt_verify.specs.declared.report.Verdict.TheVariants.{Refused}
use Rattle.jwt_verify.specs.Table.{Table, below, verified, reached, tries, work}
use Rattle.jwt_verify.specs.Paying.{IsFront, IsWithin, AreAllowed, ArePaid}
use Rattle.jwt_verify.specs.Asks.{AtPair, IsToken, IsTokenWithTable}
use Rattle.jwt_verify.specs.Accepted.{IsLeastKey, IsVerdict}
use Rattle.jwt_verify.specs.Laws.{IsBefore, common_cost, long_key}
use Rattle.jwt_verify.specs.Trying.{at_pair}
use Rattle.jwt_verify.specs.Verdict.{Terms, without_line_feed}

abbrev pub terms : Settings → KeySet → ℤ → List Meaning → Terms
terms policy keys now verifiers = record { policy = policy; keys = map key_parts keys.keys.items; now = now; verifiers = verifiers }

-- the verdict doesn't say that memory was refused, to the run or to a verifier that was asked
abbrev pub FoundMemory : Verdict → Type 0
FoundMemory (Refused OutOfMemory) = ⊥
FoundMemory (Refused VerifierMemory) = ⊥
FoundMemory _ = Unit {0}

-- the signature is reached, and the run, wherever it stops, goes through it and doesn't stop there
abbrev pub GoesThrough : Table → Option Try → ℕ → Type 0
GoesThrough table stop signature = (reached table signature ≡ true) × ((e : Try) → stop ≡ Some e → signature < e.signature)

-- the state of the signature: what becomes of it, by the pair at which the run stops, if it does
abbrev pub IsStateAt : Table → Option Try → ℕ → SigState → Type 0
IsStateAt table stop signature Stopped = (e : Try) × (stop ≡ Some e) × (e.signature ≡ signature)
IsStateAt table stop signature NotReached = ((e : Try) × (stop ≡ Some e) × (e.signature < signature)) ⊎ ((reached table signature ≡ false) × ((e : Try) → stop ≡ Some e → e.signature ≢ signature))
IsStateAt table stop signature (Barred fault) = GoesThrough table stop signature × (table.bar signature ≡ Some fault)
IsStateAt table stop signature (Verified key) = GoesThrough table stop signature × (table.bar signature ≡ None) × IsLeastKey table signature key
IsStateAt table stop signature NoKey = GoesThrough table stop signature × (table.bar signature ≡ None) × ((key : ℕ) → key < table.keys → table.eligible signature key ≡ false)
IsStateAt table stop signature BadSignature = GoesThrough table stop signature × (table.bar signature ≡ None) × (verified table signature ≡ false) × ((key : ℕ) × (key < table.keys) × (table.eligible signature key ≡ true))

-- Where memory was there, the tries listed are those that are paid, and each signature has its state where the run stops at the try
-- after them, if there is one. Where a verifier lacked memory, the last try is the one that it was asked for, and the run stopped
-- there. After OutOfMemory nothing is said of the states.
abbrev pub IsComplete : Table → ℕ → Option ℕ → List Try → List SigState → Verdict → Type 0
IsComplete table ceiling calls made states (Refused OutOfMemory) = Unit {0}
IsComplete table ceiling calls made states (Refused VerifierMemory) =
    (before : List Try) × (e : Try) × (made ≡ before ++ e ∷ []) × (table.may_lack e.signature e.key ≡ true) × AllZip (IsStateAt table (Some e)) (below table.signatures) states
IsComplete table ceiling calls made states _ = ArePaid table ceiling calls made × AllZip (IsStateAt table (slice_get (tries table) (length made))) (below table.signatures) states

-- The report on the octets under the budget's ceiling: its verdict, unless memory was refused, is theirs; of a signed token it lists
-- a prefix of the tries that both ceilings allow, and what its run comes to; of anything else no try and no state; after
-- OutOfMemory nothing is said of the states.
pub record IsReport (terms : Terms) (octets : List ℕ) (ceiling : ℕ) (report : Report) : Type 0 where
  pub verdict : FoundMemory report.verdict → IsVerdict terms octets ceiling report.verdict
  pub run : (token : Token) (table : Table) → IsTokenWithTable terms octets token table → IsFront table report.tries.items × AreAllowed ceiling terms.policy.max_calls report.tries.items
      × IsComplete table ceiling terms.policy.max_calls report.tries.items report.states.items report.verdict
  pub blank : ((token : Token) → ¬ IsToken terms.policy octets token)
      → (report.tries.items ≡ []) × ((report.verdict ≡ Refused OutOfMemory) ⊎ (FoundMemory report.verdict × (report.states.items ≡ [])))

-- the token that was read for this verdict is the one that the octets are; none where they are none, or memory was refused
abbrev pub IsReadAs : Settings → List ℕ → Verdict → Option Signed → Type 0
IsReadAs policy octets verdict (Some signed) = IsToken policy octets (token_view signed)
IsReadAs policy octets verdict None = verdict ≢ Refused OutOfMemory → (token : Token) → ¬ IsToken policy octets token

-- each of these tries is of an eligible pair
abbrev pub AreEligible : Terms → List ℕ → List Try → Type 0
AreEligible terms octets made = (token : Token) → IsToken terms.policy octets token → All (λ e. AtPair token terms.keys e.signature e.key (λ s key. IsEligible terms.policy s key terms.verifiers)) made

-- so many octets are within the bound on these tries: signatures times keys times the common cost, and each long key once for each
-- of its tries
abbrev pub IsBounded : Terms → List ℕ → List Try → ℕ → Type 0
IsBounded terms token_octets made octets = (token : Token) → IsToken terms.policy token_octets token → octets
    ≤ length token.signatures * length terms.keys * common_cost terms.policy token
    + sum_by (λ e. at_pair long_key 0 token terms.keys e.signature e.key) made

-- Reading takes memory: the octets aren't too long and, without the line feed that is dropped, they are in JSON form or in compact form. So
-- want of memory stands in place of neither TooLong, Empty nor a wrong number of periods.
abbrev pub TakesMemory : Settings → List ℕ → Type 0
TakesMemory policy octets = (length octets ≤ policy.run.limit)
    × ((opens_object (without_line_feed policy.run.line_feed octets) ≡ true) ⊎ ((protected payload signature : List ℕ) × IsCompact (without_line_feed policy.run.line_feed octets) protected payload signature))

-- The octets in hand are judged: this is the report on them. No read fails, and memory is wanted only where reading takes some.
pub record IsJudged (terms : Terms) (octets : List ℕ) (ceiling : ℕ) (said : Report) : Type 0 where
  pub report : IsReport terms octets ceiling said
  pub read : said.verdict ≢ Refused (Text Read)
  pub memory : said.verdict ≡ Refused OutOfMemory → TakesMemory terms.policy octets

-- Just these tries are counted: no pair is tried twice, so many octets and calls are what they cost, and the calls are within the ceiling
-- on calls.
pub record IsCounted (most_calls : Option ℕ) (made : List Try) (fed called : ℕ) : Type 0 where
  pub once : AllPairs IsBefore made
  pub octets : fed ≡ work made
  pub calls : called ≡ length made
  pub within : IsWithin most_calls called

-- A run on the octets is charged for these tries: they are counted, each is of an eligible pair, and the octets are within the bound.
pub record IsCharged (terms : Terms) (token_octets : List ℕ) (made : List Try) (fed called : ℕ) : Type 0 where
  pub counted : IsCounted terms.policy.max_calls made fed called
  pub eligible : AreEligible terms token_octets made
  pub bound : IsBounded terms token_octets made fed

-- the source failed, or memory was refused before anything was tried
abbrev pub Failed : Verdict → List Try → List SigState → Type 0
Failed verdict made states = ((verdict ≡ Refused (Text Read)) ⊎ (verdict ≡ Refused OutOfMemory)) × (made ≡ []) × (states ≡ [])
