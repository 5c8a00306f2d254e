-- Laws of the verdict and of the tries, in words.
use Rattle.std.specs.Prelude.{ℕ, ◌+◌, ◌*◌, ◌<◌, ◌≤◌, ◌≡◌, ◌≢◌, Bool, List, length, map, Option, None}
use Rattle.std.specs.List.{All, AllZip, Contains, sum_by}
use Rattle.serde_json.specs.Data.{Members}
use Rattle.jwt_text.specs.declared.limits.TheConstants.{LONGEST_TOKEN}
use Rattle.jwt_jws.specs.Token.{Token}
use Rattle.jwt_keys.specs.Keys.{KeyParts, secret_length}
use Rattle.jwt_verify.specs.declared.report.Try.{Try}
use Rattle.jwt_verify.specs.declared.report.SigState.{SigState}
use Rattle.jwt_verify.specs.declared.report.Fault.TheVariants.{WorkExceeded, CallsExceeded}
use Rattle.jwt_verify.specs.declared.report.Verdict.{Verdict}
use Rattle.jwt_verify.specs.declared.report.Verdict.TheVariants.{Accepted, Refused}
use Rattle.jwt_verify.specs.Table.{Table, below, entry, tries, work, paid, states}
use Rattle.jwt_verify.specs.Trying.{at_pair}
use Rattle.jwt_verify.specs.Verdict.{Terms}
use Rattle.jwt_verify.specs.Paying.{IsWithin, AreAllowed, ArePaid}
use Rattle.jwt_verify.specs.Asks.{IsToken, IsTokenWithTable}
use Rattle.jwt_verify.specs.Accepted.{IsVerdict}
use Rattle.jwt_verify.specs.Reports.{IsStateAt}
use Rattle.jwt_verify.specs.Laws.{AreAmong, with_keys, kind_of_state, without_key, bound, common_cost, long_key, with_valid, verdict_by, AgreeOn, DifferOnlyAt, LeaveTheSame}

-- what is paid is the longest prefix of the tries that both ceilings allow, and nothing else is
abbrev pub PaidIsLongest : Type 0
PaidIsLongest = (table : Table) (octets : ℕ) (calls : Option ℕ) → ArePaid table octets calls (paid table octets calls) × ((made : List Try) → ArePaid table octets calls made → made ≡ paid table octets calls)

-- where signatures times keys are within the ceiling on calls, no run stops for it
abbrev pub CallsSuffice : Type 0
CallsSuffice = (terms : Terms) (octets : List ℕ) (ceiling signature key : ℕ) (token : Token) → IsToken terms.policy octets token → IsWithin terms.policy.max_calls (length token.signatures * length terms.keys)
    → ¬ IsVerdict terms octets ceiling (Refused (CallsExceeded signature key))

-- ---- the bound on the work

-- the common cost for each pair of signature and key, and each long key once for each of its tries
abbrev pub work_bound : Terms → Token → Table → ℕ
work_bound terms token table = bound table (common_cost terms.policy token) (at_pair long_key 0 token terms.keys)

-- the work is within the bound
abbrev pub WorkIsBounded : Type 0
WorkIsBounded = (terms : Terms) (octets : List ℕ) (token : Token) (table : Table) → IsTokenWithTable terms octets token table → work (tries table) ≤ work_bound terms token table

-- a ceiling of the bound is never exceeded, and how much more it is changes neither the verdict nor the tries nor the states
abbrev pub CeilingSuffices : Type 0
CeilingSuffices = (terms : Terms) (octets : List ℕ) (ceiling greater : ℕ) (token : Token) (table : Table) → IsTokenWithTable terms octets token table → work_bound terms token table ≤ ceiling → work_bound terms token table ≤ greater
    → ((signature key : ℕ) → ¬ IsVerdict terms octets ceiling (Refused (WorkExceeded signature key)))
    × ((verdict : Verdict) → IsVerdict terms octets ceiling verdict → IsVerdict terms octets greater verdict)
    × (paid table ceiling terms.policy.max_calls ≡ paid table greater terms.policy.max_calls)
    × (states table ceiling terms.policy.max_calls ≡ states table greater terms.policy.max_calls)

-- ---- the bound in a caller's terms

-- the lengths of all secrets together
abbrev pub secrets : List KeyParts → ℕ
secrets keys = sum_by (λ key. secret_length key.octets) keys

-- the work of all tries is at most signatures times keys times the common cost, and signatures times the lengths of all secrets
abbrev pub CallersBound : Type 0
CallersBound = (terms : Terms) (octets : List ℕ) (token : Token) (table : Table) → IsTokenWithTable terms octets token table
    → work (tries table) ≤ length token.signatures * length terms.keys * common_cost terms.policy token + length token.signatures * secrets terms.keys

-- its greatest value, for every policy and key set: up to 32 signatures and 1,048,576 octets of a token, 1,024 keys, and secrets of 4,096
abbrev pub GreatestWork : Type 0
GreatestWork = (terms : Terms) (octets : List ℕ) (token : Token) (table : Table) → IsTokenWithTable terms octets token table
    → 0 < terms.policy.run.max_signatures → terms.policy.run.max_signatures ≤ 32 → terms.policy.run.limit ≤ LONGEST_TOKEN
    → length terms.keys ≤ 1024 → All (λ key. secret_length key.octets ≤ 4096) terms.keys
    → work (tries table) ≤ 34504441856

-- ---- other keys, where no ceiling stops a run

abbrev pub IsUnstopped : Terms → List ℕ → ℕ → Type 0
IsUnstopped terms octets ceiling = (token : Token) (table : Table) → IsTokenWithTable terms octets token table → AreAllowed ceiling terms.policy.max_calls (tries table)

-- what is accepted with some keys is accepted with more, with the same claims
abbrev pub MoreKeysAccept : Type 0
MoreKeysAccept = (terms : Terms) (more : List KeyParts) (octets : List ℕ) (ceiling more_w signature key : ℕ) (claims : Members) → AreAmong more terms.keys
    → IsUnstopped (with_keys terms more) octets more_w → IsVerdict terms octets ceiling (Accepted signature key claims)
    → (another : ℕ) × (another_key : ℕ) × IsVerdict (with_keys terms more) octets more_w (Accepted another another_key claims)

-- lists of the same keys, in any order and with repeats, give the same verdict and states, but for the numbers of keys
abbrev pub SameKeysAgree : Type 0
SameKeysAgree = (terms : Terms) (others : List KeyParts) (octets : List ℕ) (ceiling other_w : ℕ) → AreAmong others terms.keys → AreAmong terms.keys others
    → IsUnstopped terms octets ceiling → IsUnstopped (with_keys terms others) octets other_w
    → ((verdict other_verdict : Verdict) → IsVerdict terms octets ceiling verdict → IsVerdict (with_keys terms others) octets other_w other_verdict → without_key verdict ≡ without_key other_verdict)
    × ((token : Token) (table other_table : Table) (mine theirs : List SigState) → IsTokenWithTable terms octets token table → IsTokenWithTable (with_keys terms others) octets token other_table
    → AllZip (IsStateAt table None) (below table.signatures) mine → AllZip (IsStateAt other_table None) (below other_table.signatures) theirs → map kind_of_state mine ≡ map kind_of_state theirs)

-- ---- no try of a token can be spared

-- What is known of the paid tries decides what a run leaves, and the verdict on the octets; where one paid try alone has other validity, the
-- states differ.
abbrev pub SparesNone : Terms → List ℕ → ℕ → List ℕ → Table → (ℕ → ℕ → Bool) → Type 0
SparesNone terms octets ceiling payload table validity =
    (AgreeOn table validity (paid table ceiling terms.policy.max_calls)
    → LeaveTheSame table (with_valid table validity) ceiling terms.policy.max_calls × IsVerdict terms octets ceiling (verdict_by (with_valid table validity) ceiling terms.policy.max_calls terms.policy terms.now payload))
    × ((signature key : ℕ) → Contains (paid table ceiling terms.policy.max_calls) (entry table signature key) → DifferOnlyAt table validity signature key
    → states (with_valid table validity) ceiling terms.policy.max_calls ≢ states table ceiling terms.policy.max_calls)

-- of a token none is spared
abbrev pub LeastTriesOfToken : Type 0
LeastTriesOfToken = (terms : Terms) (octets : List ℕ) (ceiling : ℕ) (token : Token) (table : Table) (validity : ℕ → ℕ → Bool) → IsTokenWithTable terms octets token table → SparesNone terms octets ceiling token.payload table validity
