-- Judging, and the report that an exported function writes.
use Rattle.std.specs.Prelude.{◌≡◌, ◌≢◌, ℕ, false, List, [], length, Option, Some, None, Result, Ok, Err}
use Rattle.serde_json.specs.Data.{Members}
use Rattle.jwt_keys.specs.KeySets.{KeyList, key_set, key_set_of}
use Rattle.jwt_keys.specs.declared.fault.KeysFault.{KeysFault}
use Rattle.jwt_policy.specs.Settings.{Settings}
use Rattle.jwt_policy.specs.declared.policy_fault.PolicyFault.{PolicyFault}
use Rattle.jwt_policy.specs.Document.{policy_of}
use Rattle.jwt_policy.specs.Ceilings.{with_ceiling}
use Rattle.jwt_verify.specs.declared.report.SigState.{SigState}
use Rattle.jwt_verify.specs.declared.report.SigState.TheVariants as sig_state
use Rattle.jwt_verify.specs.declared.report.Try.{Try}
use Rattle.jwt_verify.specs.declared.report.Report.{Report}
use Rattle.jwt_verify.specs.declared.report.Verdict.{Verdict}
use Rattle.jwt_verify.specs.declared.report.Verdict.TheVariants.{Accepted, Refused}
use Rattle.jwt_verify.specs.Table.{work}
use Rattle.jwt_handles.specs.declared.state.State.{State}
use Rattle.jwt_handles.specs.declared.grounds.Documents.{Documents}
use Rattle.jwt_handles.specs.declared.state.Last.{Last}
use Rattle.jwt_handles.specs.declared.report.FowReport.{FowReport}
use Rattle.jwt_handles.specs.declared.report.FowState.{FowState}
use Rattle.jwt_handles.specs.declared.report.FowTry.{FowTry}
use Rattle.jwt_handles.specs.declared.status.TheConstants.{FOW_OK, FOW_REFUSED, FOW_OUT_OF_MEMORY}
use Rattle.jwt_handles.specs.Documents.{documents}
use Rattle.jwt_handles.specs.Evidence.{states_kept, tries_kept, claims_kept, payload_kept}
use Rattle.jwt_handles.specs.Faults.{Numbers, keys_number, policy_number, sig_number, verdict_numbers, missing_in}

abbrev pub report_numbers : FowReport → Numbers
report_numbers report = record { verdict = report.verdict; fault = report.fault; part = report.part; signature = report.signature; key = report.key; claim = report.claim }

-- ---- a signature's state, and a try

-- a state (1 barred, 2 no key, 3 bad signature, 4 verified, 5 not reached, 6 stopped), its fault, its key
pub record StateNumbers : Type 0 where
  pub state : ℕ
  pub fault : ℕ
  pub key : ℕ

abbrev pub state_parts : FowState → StateNumbers
state_parts written = record { state = written.state; fault = written.fault; key = written.key }

abbrev pub state_numbers : SigState → StateNumbers
state_numbers (sig_state.Barred fault) = record { state = 1; fault = sig_number fault; key = 0 }
state_numbers sig_state.NoKey = record { state = 2; fault = 0; key = 0 }
state_numbers sig_state.BadSignature = record { state = 3; fault = 0; key = 0 }
state_numbers (sig_state.Verified key) = record { state = 4; fault = 0; key = key }
state_numbers sig_state.NotReached = record { state = 5; fault = 0; key = 0 }
state_numbers sig_state.Stopped = record { state = 6; fault = 0; key = 0 }

pub record TryNumbers : Type 0 where
  pub cost : ℕ
  pub signature : ℕ
  pub key : ℕ

abbrev pub try_of : FowTry → TryNumbers
try_of tried = record { cost = tried.cost; signature = tried.signature; key = tried.key }

abbrev pub try_parts : Try → TryNumbers
try_parts tried = record { cost = tried.cost; signature = tried.signature; key = tried.key }

-- ---- what a validator holds

-- nothing is kept of a judging
abbrev pub IsNew : Last → Type 0
IsNew last = (states_kept last ≡ []) × (tries_kept last ≡ []) × (claims_kept last ≡ None) × (payload_kept last ≡ None) × (last.missing.items ≡ []) × (last.remembered ≡ false)

-- what is held of a policy that was read: where it names no ceiling on tries, one of 64, unless each algorithm is HMAC
abbrev pub IsHeldOf : Result Settings PolicyFault → Settings → Type 0
IsHeldOf (Ok read) held = held ≡ with_ceiling read
IsHeldOf (Err why) held = ⊥

-- the policy, with that ceiling, and the key set that these octets spell
abbrev pub IsRead : List ℕ → List ℕ → Documents → Type 0
IsRead policy keys grounds = IsHeldOf (policy_of policy) grounds.policy × (key_set_of keys ≡ Ok (key_set grounds.keys))

-- nothing is kept of a judging, and no token is to be remembered
abbrev pub IsBlank : State → Type 0
IsBlank state = IsNew state.last × (state.grounds.1 ≡ None)

-- what was read from these documents is held, and nothing is remembered
abbrev pub IsOpened : List ℕ → List ℕ → Option State → Type 0
IsOpened policy keys None = ⊥
IsOpened policy keys (Some state) = IsRead policy keys (documents state) × IsBlank state

-- these documents are held, and nothing is remembered
abbrev pub IsFresh : Documents → Option State → Type 0
IsFresh grounds None = ⊥
IsFresh grounds (Some state) = (documents state ≡ grounds) × IsBlank state

-- Why what these documents hold isn't held, by the status and the fault that are answered: the policy is refused for this fault, or it
-- stands and the key set is; or memory was refused.
abbrev pub RefusesKeys : Result KeyList KeysFault → ℕ → Type 0
RefusesKeys (Ok list) fault = ⊥
RefusesKeys (Err why) fault = fault ≡ keys_number why

abbrev pub RefusesEither : Result Settings PolicyFault → Result KeyList KeysFault → ℕ → Type 0
RefusesEither (Err why) keys fault = fault ≡ policy_number why
RefusesEither (Ok settings) keys fault = RefusesKeys keys fault

abbrev pub IsRefused : List ℕ → List ℕ → ℕ → ℕ → Type 0
IsRefused policy keys status fault = (status ≢ FOW_OK) × (status ≢ FOW_OUT_OF_MEMORY → (status ≡ FOW_REFUSED) × RefusesEither (policy_of policy) (key_set_of keys) fault)

-- the same policy and key set are held
abbrev pub IsAlike : Option State → Option State → Type 0
IsAlike None None = Unit {0}
IsAlike None (Some after) = ⊥
IsAlike (Some before) None = ⊥
IsAlike (Some before) (Some after) = documents after ≡ documents before

-- the second holds the policy and key set of the first, with no memory
abbrev pub IsBeside : Option State → Option State → Type 0
IsBeside None second = ⊥
IsBeside (Some first) second = IsFresh (documents first) second

-- ---- a judging

abbrev pub claims_in : Verdict → Option Members
claims_in (Accepted signature key claims) = Some claims
claims_in (Refused fault) = None

-- what is kept of a report
abbrev pub Keeps : Report → Last → Type 0
Keeps report last = (states_kept last ≡ report.states.items) × (tries_kept last ≡ report.tries.items) × (claims_kept last ≡ claims_in report.verdict) × (last.missing.items ≡ missing_in report.verdict)

-- the numbers are those of the report, and it is kept
abbrev pub Says : Report → FowReport → Last → Type 0
Says report said last = (report_numbers said ≡ verdict_numbers report.verdict) × (said.tries ≡ length report.tries.items) × (said.work ≡ work report.tries.items) × Keeps report last
