-- The laws of tries: how many there are and what they cost, that none can be spared, and what other keys change.
use Rattle.serde_json.specs.Data.{Members}
use Rattle.jwt_keys.specs.Keys.{KeyParts}
use Rattle.jwt_verify.specs.declared.report.Verdict.{Verdict}
use Rattle.jwt_verify.specs.declared.report.Verdict.TheVariants.{Accepted}
use Rattle.jwt_verify.specs.Verdict.{Terms, conclusion, unless_stopped, signing_of, table, verdict_of}
use Rattle.jwt_mac.specs.declared.algorithm.Alg.{Alg}
use Rattle.jwt_mac.specs.Algorithm.{is_hmac_alg, block_size, digest_size, key_cost}
use Rattle.jwt_mac.specs.Verifying.{KeyOctets, OctKey, signing_input}
use Rattle.jwt_jws.specs.Token.{Token, SignatureParts, message_of}
use Rattle.jwt_policy.specs.Settings.{Settings}
use Rattle.jwt_policy.specs.Bars.{alg}
use Rattle.std.specs.Prelude.{[], ◌∷◌, max, if◌then◌else◌, map, ℕ, ℤ, ◌+◌, ◌*◌, ◌<◌, ◌≤◌, ◌≡◌, ◌≢◌, ◌⊎◌, Bool, true, not, List, length, Option, None}
use Rattle.std.specs.List.{sum_by, All, AllPairs, Contains}
use Rattle.std.specs.Option.{option_map_or}
use Rattle.jwt_verify.specs.declared.report.Try.{Try}
use Rattle.jwt_verify.specs.declared.report.SigState.{SigState}
use Rattle.jwt_verify.specs.declared.report.SigState.TheVariants.{Verified}
use Rattle.jwt_verify.specs.Table.{Table, tries, work, is_within, paid, states, ending, entry}

-- the one stands before the other in dictionary order
abbrev pub IsBefore : Try → Try → Type 0
IsBefore earlier later = (earlier.signature < later.signature) ⊎ ((earlier.signature ≡ later.signature) × (earlier.key < later.key))

-- ---- the bound on the work

-- the greatest of these numbers, 0 where there is none
abbrev pub greatest : List ℕ → ℕ
greatest [] = 0
greatest (number ∷ rest) = max number (greatest rest)

-- what a try costs at most, but for its key: the longest signing input, two blocks and a digest, these the greatest among the
-- policy's algorithms (RFC 2104, section 2)
abbrev pub common_cost : Settings → Token → ℕ
common_cost policy token = greatest (map (λ s. length (signing_input (message_of token s))) token.signatures) + 2 * greatest (map block_size policy.run.algs) + greatest (map digest_size policy.run.algs)

abbrev pub long_secret : Alg → KeyOctets → ℕ
long_secret algorithm (OctKey secret) = if is_hmac_alg algorithm then key_cost (block_size algorithm) (length secret) else 0
long_secret algorithm _ = 0

-- what a try costs for its key: the length of a secret that is longer than a block of the signature's algorithm
abbrev pub long_key : SignatureParts → KeyParts → ℕ
long_key signature key = option_map_or (λ a. long_secret a key.octets) (alg signature) 0

-- ---- Cited by laws alone

-- what is common to every cost, for each pair, and what each try adds to it
abbrev pub bound : Table → ℕ → (ℕ → ℕ → ℕ) → ℕ
bound table common extra = table.signatures * table.keys * common + sum_by (λ e. extra e.signature e.key) (tries table)

-- no pair is tried twice, each is eligible, and the work is within the bound
abbrev pub TriesAreBounded : Type 0
TriesAreBounded = (table : Table) → AllPairs IsBefore (tries table) × All (λ e. table.eligible e.signature e.key ≡ true) (tries table) × (length (tries table) ≤ table.signatures * table.keys)
    × ((common : ℕ) (extra : ℕ → ℕ → ℕ) → ((signature key : ℕ) → table.eligible signature key ≡ true → table.cost signature key ≤ common + extra signature key) → work (tries table) ≤ bound table common extra)

-- the table with other validity
abbrev pub with_valid : Table → (ℕ → ℕ → Bool) → Table
with_valid table validity = record { signatures = table.signatures; keys = table.keys; mode = table.mode; bar = table.bar; eligible = table.eligible; valid = validity; may_lack = table.may_lack; cost = table.cost }

-- the verdict of a run over the table
abbrev pub verdict_by : Table → ℕ → Option ℕ → Settings → ℤ → List ℕ → Verdict
verdict_by table octets calls policy now payload = unless_stopped (ending table octets calls) (conclusion policy now payload (signing_of table))

-- another validity is that of the table, for these tries
abbrev pub AgreeOn : Table → (ℕ → ℕ → Bool) → List Try → Type 0
AgreeOn table validity made = All (λ e. table.valid e.signature e.key ≡ validity e.signature e.key) made

-- it is another one for this pair, and for no other
abbrev pub DifferOnlyAt : Table → (ℕ → ℕ → Bool) → ℕ → ℕ → Type 0
DifferOnlyAt table validity signature key = (validity signature key ≡ not (table.valid signature key)) × ((m n : ℕ) → (m ≡ signature → n ≡ key → ⊥) → validity m n ≡ table.valid m n)

-- runs over the two tables leave the same, and come to the same verdict
pub record LeaveTheSame (table other : Table) (octets : ℕ) (calls : Option ℕ) : Type 0 where
  pub same_tries : paid other octets calls ≡ paid table octets calls
  pub same_states : states other octets calls ≡ states table octets calls
  pub same_ending : ending other octets calls ≡ ending table octets calls
  pub same_verdict : (policy : Settings) (now : ℤ) (payload : List ℕ) → verdict_by other octets calls policy now payload ≡ verdict_by table octets calls policy now payload

-- No paid try can be spared: what is known of the paid tries decides what a run leaves; and where one paid try alone has other
-- validity, the states differ. No key is eligible for a barred signature.
abbrev pub LeastTries : Type 0
LeastTries = (table : Table) (validity : ℕ → ℕ → Bool) (octets : ℕ) (calls : Option ℕ) → ((signature key : ℕ) → table.eligible signature key ≡ true → table.bar signature ≡ None)
    → (AgreeOn table validity (paid table octets calls) → LeaveTheSame table (with_valid table validity) octets calls)
    × ((signature key : ℕ) → Contains (paid table octets calls) (entry table signature key) → DifferOnlyAt table validity signature key → states (with_valid table validity) octets calls ≢ states table octets calls)

-- ---- other keys

-- a key, whatever its place in the key set document
abbrev pub unplaced : KeyParts → KeyParts
unplaced key = record { octets = key.octets; kid = key.kid; alg = key.alg; key_use = key.key_use; key_ops = key.key_ops; thumbprint = key.thumbprint; place = 0 }

-- each key is among the others, but for number and place
abbrev pub AreAmong : List KeyParts → List KeyParts → Type 0
AreAmong others keys = All (λ k. (o : KeyParts) × Contains others o × (unplaced o ≡ unplaced k)) keys

abbrev pub with_keys : Terms → List KeyParts → Terms
with_keys terms keys = record { policy = terms.policy; keys = keys; now = terms.now; verifiers = terms.verifiers }

-- the budget's ceiling leaves room for all tries, and the ceiling on calls for as many tries as there are pairs
abbrev pub HasRoom : Table → ℕ → Option ℕ → Type 0
HasRoom table octets calls = (work (tries table) ≤ octets) × (is_within calls (table.signatures * table.keys) ≡ true)

-- what is accepted with some keys is accepted with more, with the same claims
abbrev pub MoreKeys : Type 0
MoreKeys = (terms : Terms) (more : List KeyParts) (octets : List ℕ) (ceiling more_w signature key : ℕ) (claims : Members) → AreAmong more terms.keys
    → HasRoom (table (with_keys terms more) octets) more_w terms.policy.max_calls → verdict_of terms octets ceiling ≡ Accepted signature key claims
    → (another : ℕ) × (another_key : ℕ) × (verdict_of (with_keys terms more) octets more_w ≡ Accepted another another_key claims)

-- a state, a verdict without the key that it names
abbrev pub kind_of_state : SigState → SigState
kind_of_state (Verified key) = Verified 0
kind_of_state state = state

abbrev pub without_key : Verdict → Verdict
without_key (Accepted signature key claims) = Accepted signature 0 claims
without_key verdict = verdict

-- lists of the same keys, in any order and with repeats, give the same verdict and states, but for the numbers of keys
abbrev pub SameKeys : Type 0
SameKeys = (terms : Terms) (others : List KeyParts) (octets : List ℕ) (ceiling other_w : ℕ) → AreAmong others terms.keys → AreAmong terms.keys others
    → HasRoom (table terms octets) ceiling terms.policy.max_calls → HasRoom (table (with_keys terms others) octets) other_w terms.policy.max_calls
    → (without_key (verdict_of terms octets ceiling) ≡ without_key (verdict_of (with_keys terms others) octets other_w))
    × (map kind_of_state (states (table terms octets) ceiling terms.policy.max_calls) ≡ map kind_of_state (states (table (with_keys terms others) octets) other_w terms.policy.max_calls))
