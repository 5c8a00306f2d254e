-- The clauses of private functions, by the steps of the definitions: what is held of a source, what a run leaves, and what the
-- signatures in given states come to.
use Rattle.std.specs.Prelude.{◌≡◌, ◌+◌, ◌≤◌, ℕ, ◌++◌, Bool, true, drop, Result, Ok, Err, List, [], ◌∷◌, length, Option, Some}
use Rattle.jwt_text.specs.Intake.{Bounded, taken}
use Rattle.jwt_jws.specs.Token.{Token}
use Rattle.jwt_verify.specs.declared.report.Try.{Try}
use Rattle.jwt_verify.specs.declared.report.SigState.{SigState}
use Rattle.jwt_verify.specs.declared.report.InputFault.TheVariants.{Read}
use Rattle.jwt_verify.specs.declared.report.Fault.{Fault}
use Rattle.jwt_verify.specs.declared.report.Fault.TheVariants.{OutOfMemory, VerifierMemory, Text}
use Rattle.jwt_verify.specs.declared.report.Report.{Report}
use Rattle.jwt_verify.specs.declared.report.Verdict.{Verdict}
use Rattle.jwt_verify.specs.declared.report.Verdict.TheVariants.{Refused}
use Rattle.jwt_verify.specs.Table.{Table, work, paid, states, states_at}
use Rattle.jwt_verify.specs.Verdict.{Terms, table, verdict_of}
use Rattle.jwt_verify.specs.Asks.{IsToken}
use Rattle.jwt_verify.specs.Reports.{FoundMemory, IsReport, AreEligible, IsBounded}

-- ---- what a run leaves

-- A run that found memory lists all that is paid, and every state. Where a verifier lacked it, the last try is the one that it
-- was asked for, and the states are those of a run that stopped there.
abbrev pub IsWhole : Table → ℕ → Option ℕ → List Try → List SigState → Verdict → Type 0
IsWhole table ceiling calls made found (Refused OutOfMemory) = Unit {0}
IsWhole table ceiling calls made found (Refused VerifierMemory) =
    (before : List Try) × (e : Try) × (made ≡ before ++ e ∷ []) × (table.may_lack e.signature e.key ≡ true) × (found ≡ states_at table (Some e))
IsWhole table ceiling calls made found _ = (made ≡ paid table ceiling calls) × (found ≡ states table ceiling calls)

-- the report on the octets, by these steps
pub record IsListed (terms : Terms) (octets : List ℕ) (ceiling : ℕ) (report : Report) : Type 0 where
  pub verdict : FoundMemory report.verdict → report.verdict ≡ verdict_of terms octets ceiling
  pub whole : IsWhole (table terms octets) ceiling terms.policy.max_calls report.tries.items report.states.items report.verdict
  pub front : (more : List Try) × (paid (table terms octets) ceiling terms.policy.max_calls ≡ report.tries.items ++ more)

-- what these steps leave is the report in words; its tries are of eligible pairs, and within the bound
abbrev pub ReportsInWords : Type 0
ReportsInWords = (terms : Terms) (octets : List ℕ) (ceiling : ℕ) (report : Report) → IsListed terms octets ceiling report
    → IsReport terms octets ceiling report × AreEligible terms octets report.tries.items × IsBounded terms octets report.tries.items (work report.tries.items)

-- what is past the octet behind the limit plays no part
abbrev pub ReportsOnTaken : Type 0
ReportsOnTaken = (terms : Terms) (octets : List ℕ) (ceiling : ℕ) (report : Report) → IsReport terms (taken octets terms.policy.run.limit) ceiling report → IsReport terms octets ceiling report

abbrev pub TakenTokens : Type 0
TakenTokens = (terms : Terms) (octets : List ℕ) (token : Token) → IsToken terms.policy octets token → IsToken terms.policy (taken octets terms.policy.run.limit) token

-- the report in words says what these steps leave, where memory was there
abbrev pub TellsReports : Type 0
TellsReports = (terms : Terms) (octets : List ℕ) (ceiling : ℕ) (report : Report) → IsReport terms octets ceiling report → FoundMemory report.verdict
    → (report.verdict ≡ verdict_of terms octets ceiling) × (report.tries.items ≡ paid (table terms octets) ceiling terms.policy.max_calls) × (report.states.items ≡ states (table terms octets) ceiling terms.policy.max_calls)

-- ---- Cited by contracts of private functions alone

-- the octets that are held, and what is still to come; or nothing is held, and at most the limit was taken
abbrev pub IsTakenIn : Result Bounded Fault → ℕ → List ℕ → Option (List ℕ) → Type 0
IsTakenIn (Ok held) limit octets rest = (held.octets ≡ taken octets limit) × (rest ≡ Some (drop (limit + 1) octets))
IsTakenIn (Err _) limit octets rest = (front back : List ℕ) × (octets ≡ front ++ back) × (rest ≡ Some back) × (length front ≤ limit)

-- why nothing is held, by whether the source had failed, and whether it has: where memory was refused, it didn't fail now
abbrev pub IsSourceFault : Bool → Bool → Fault → Type 0
IsSourceFault before failed OutOfMemory = failed ≡ before
IsSourceFault before failed (Text Read) = failed ≡ true
IsSourceFault before failed _ = ⊥
