-- The acceptance of a token, and each cause to refuse one, in words.
use Rattle.std.specs.Prelude.{ℕ, ◌+◌, ◌<◌, ◌≤◌, ◌≡◌, ◌⊎◌, ◌↔◌, true, false, List, length, Option, Some, None, Ok, Err, ◌++◌, ◌∷◌, map}
use Rattle.serde_json.specs.Data.{Members}
use Rattle.jwt_text.specs.ObjectText.{IsObjectText}
use Rattle.jwt_text.specs.Rows.{IsFirstRow, NoRow}
use Rattle.jwt_jws.specs.Token.{Token}
use Rattle.jwt_jws.specs.FormFaults.{IsFormFault}
use Rattle.jwt_policy.specs.declared.mode.Mode.{Mode}
use Rattle.jwt_policy.specs.declared.mode.Mode.TheVariants.{Any, All}
use Rattle.jwt_policy.specs.declared.sig_fault.SigFault.{SigFault}
use Rattle.jwt_policy.specs.declared.sig_fault.SigFault.TheVariants.{NoKey, BadSignature}
use Rattle.jwt_policy.specs.declared.claim_fault.ClaimFault.{ClaimFault}
use Rattle.jwt_policy.specs.declared.claim_fault.ClaimFault.TheVariants.{ClaimsShape}
use Rattle.jwt_policy.specs.Settings.{Settings}
use Rattle.jwt_policy.specs.ClaimKinds.{kind_rows}
use Rattle.jwt_policy.specs.Checks.{missing, later_rows}
use Rattle.jwt_policy.specs.Laws.{ClaimsHold}
use Rattle.jwt_verify.specs.declared.report.Try.{Try}
use Rattle.jwt_verify.specs.declared.report.InputFault.TheVariants.{TooLong}
use Rattle.jwt_verify.specs.declared.report.Fault.{Fault}
use Rattle.jwt_verify.specs.declared.report.Fault.TheVariants.{Text, Form, WorkExceeded, CallsExceeded, Signature, Claim}
use Rattle.jwt_verify.specs.declared.report.Verdict.{Verdict}
use Rattle.jwt_verify.specs.declared.report.Verdict.TheVariants.{Accepted, Refused}
use Rattle.jwt_verify.specs.Table.{Table, verifies, verified, entry, tries, work}
use Rattle.jwt_verify.specs.Paying.{IsWithin, AreAllowed}
use Rattle.jwt_verify.specs.Asks.{IsToken, IsTokenWithTable}
use Rattle.jwt_verify.specs.Verdict.{Terms, without_line_feed, token_of, verdict_of}

-- This signature is the one that counts: in mode Any it is the first that is verified; in mode All it is the first of all, and each one
-- is verified (RFC 7515, section 5.2).
abbrev pub Counts : Mode → Table → ℕ → Type 0
Counts Any table signature = (other : ℕ) → other < signature → verified table other ≡ false
Counts All table signature = (signature ≡ 0) × ((other : ℕ) → other < table.signatures → verified table other ≡ true)

-- the key is the least that is eligible and valid for the signature
abbrev pub IsLeastKey : Table → ℕ → ℕ → Type 0
IsLeastKey table signature key = (key < table.keys) × (verifies table signature key ≡ true) × ((other : ℕ) → other < key → verifies table signature other ≡ false)

-- some signature is verified, or each one is, and these are the signature and the key that an acceptance names
abbrev pub IsVerifiedBy : Table → ℕ → ℕ → Type 0
IsVerifiedBy table signature key = (signature < table.signatures) × Counts table.mode table signature × IsLeastKey table signature key

-- the claims are those of the payload, and each registered one has its kind (RFC 7519, sections 4.1 and 7.2)
abbrev pub HasClaims : List ℕ → Members → Type 0
HasClaims payload claims = IsObjectText payload claims × NoRow (kind_rows claims)

-- The octets are accepted under the budget's ceiling: they are a signed token, no ceiling stops the run, the signatures are verified,
-- and the claims hold.
pub record IsAccepted (terms : Terms) (octets : List ℕ) (ceiling signature key : ℕ) (claims : Members) : Type 0 where
  pub token : Token
  pub table : Table
  pub signed : IsTokenWithTable terms octets token table
  pub unstopped : AreAllowed ceiling terms.policy.max_calls (tries table)
  pub verified_by : IsVerifiedBy table signature key
  pub read : HasClaims token.payload claims
  pub hold : ClaimsHold terms.policy claims terms.now

-- ---- refusals

-- the run stops before this pair of signature and key: these tries come before it, and both ceilings allow them
pub record StopsAt (table : Table) (ceiling : ℕ) (calls : Option ℕ) (signature key : ℕ) (before : List Try) : Type 0 where
  pub next : (rest : List Try) × (tries table ≡ before ++ entry table signature key ∷ rest)
  pub allowed : AreAllowed ceiling calls before

-- The signature is the first that isn't verified: in mode Any none is, in mode All each one before it is.
abbrev pub IsFirstUnverified : Mode → Table → ℕ → Type 0
IsFirstUnverified Any table signature = (signature ≡ 0) × ((other : ℕ) → other < table.signatures → verified table other ≡ false)
IsFirstUnverified All table signature = (signature < table.signatures) × (verified table signature ≡ false) × ((other : ℕ) → other < signature → verified table other ≡ true)

-- why a signature isn't verified: its bar; or it has none, and no key is eligible; or some key is, and none of these is valid
abbrev pub IsReason : Table → ℕ → SigFault → Type 0
IsReason table signature fault = (table.bar signature ≡ Some fault) ⊎ ((table.bar signature ≡ None) × (
    ((fault ≡ NoKey) × ((key : ℕ) → key < table.keys → table.eligible signature key ≡ false)) ⊎ ((fault ≡ BadSignature) × ((key : ℕ) × (key < table.keys) × (table.eligible signature key ≡ true)))))

-- why the claims of a payload are refused: it is no object text; a registered claim has another kind; or the first of the policy's
-- checks that holds, the required claims before the others
abbrev pub IsClaimFault : Terms → List ℕ → ClaimFault → Type 0
IsClaimFault terms payload fault = ((fault ≡ ClaimsShape) × ((claims : Members) → ¬ IsObjectText payload claims))
    ⊎ (((claims : Members) × IsObjectText payload claims × IsFirstRow (kind_rows claims) fault)
    ⊎ ((claims : Members) × HasClaims payload claims × IsFirstRow (map (missing claims) terms.policy.claims.required ++ later_rows terms.policy claims terms.now) fault))

-- the octets are a signed token, and this holds of its payload and its table
abbrev pub OfToken : Terms → List ℕ → (List ℕ → Table → Type 0) → Type 0
OfToken terms octets P = (token : Token) × (table : Table) × IsTokenWithTable terms octets token table × P token.payload table

-- why the octets are no signed token: they are too long, or without the line feed that is dropped they have a fault of form
abbrev pub IsTokenFault : Settings → List ℕ → Fault → Type 0
IsTokenFault policy octets (Text TooLong) = policy.run.limit < length octets
IsTokenFault policy octets (Form fault) = (length octets ≤ policy.run.limit) × IsFormFault policy.run.max_signatures (without_line_feed policy.run.line_feed octets) fault
IsTokenFault policy octets _ = ⊥

-- why the octets are refused, each cause where none before it holds; a signature and the claims where no ceiling stops the run
abbrev pub IsFault : Terms → List ℕ → ℕ → Fault → Type 0
-- one more call exceeds the ceiling on calls
IsFault terms octets ceiling (CallsExceeded signature key) = OfToken terms octets (λ payload table. (before : List Try) × StopsAt table ceiling terms.policy.max_calls signature key before
    × ((most : ℕ) × (terms.policy.max_calls ≡ Some most) × (most < length before + 1)))
-- the cost of that pair exceeds what is left of the budget, and one more call is within the ceiling on calls
IsFault terms octets ceiling (WorkExceeded signature key) = OfToken terms octets (λ payload table. (before : List Try) × StopsAt table ceiling terms.policy.max_calls signature key before
    × (ceiling < work before + table.cost signature key) × IsWithin terms.policy.max_calls (length before + 1))
IsFault terms octets ceiling (Signature signature fault) = OfToken terms octets (λ payload table. AreAllowed ceiling terms.policy.max_calls (tries table)
    × (IsFirstUnverified table.mode table signature × IsReason table signature fault))
IsFault terms octets ceiling (Claim fault) = OfToken terms octets (λ payload table. AreAllowed ceiling terms.policy.max_calls (tries table)
    × (((signature : ℕ) × (key : ℕ) × IsVerifiedBy table signature key) × IsClaimFault terms payload fault))
IsFault terms octets ceiling fault = IsTokenFault terms.policy octets fault

-- ---- the verdict

-- the verdict on the octets under the budget's ceiling, where memory is there
abbrev pub IsVerdict : Terms → List ℕ → ℕ → Verdict → Type 0
IsVerdict terms octets ceiling (Accepted signature key claims) = IsAccepted terms octets ceiling signature key claims
IsVerdict terms octets ceiling (Refused fault) = IsFault terms octets ceiling fault

-- ---- Cited by laws alone

-- the octets have exactly one verdict
abbrev pub HasOneVerdict : Type 0
HasOneVerdict = (terms : Terms) (octets : List ℕ) (ceiling : ℕ) → (verdict : Verdict) × IsVerdict terms octets ceiling verdict × ((other : Verdict) → IsVerdict terms octets ceiling other → other ≡ verdict)

-- the verdict that is computed is an acceptance exactly where the token is accepted, with that signature, key and claims
abbrev pub AcceptsExactly : Type 0
AcceptsExactly = (terms : Terms) (octets : List ℕ) (ceiling signature key : ℕ) (claims : Members) → (verdict_of terms octets ceiling ≡ Accepted signature key claims) ↔ IsAccepted terms octets ceiling signature key claims

-- it is a refusal exactly where that fault is the first that holds
abbrev pub RefusesExactly : Type 0
RefusesExactly = (terms : Terms) (octets : List ℕ) (ceiling : ℕ) (fault : Fault) → (verdict_of terms octets ceiling ≡ Refused fault) ↔ IsFault terms octets ceiling fault

-- it is the verdict on the octets
abbrev pub TellsVerdicts : Type 0
TellsVerdicts = (terms : Terms) (octets : List ℕ) (ceiling : ℕ) (verdict : Verdict) → (verdict_of terms octets ceiling ≡ verdict) ↔ IsVerdict terms octets ceiling verdict

-- the token that is read is the one that the octets are
abbrev pub TellsTokens : Type 0
TellsTokens = (policy : Settings) (octets : List ℕ) (token : Token) → (token_of policy octets ≡ Ok token) ↔ IsToken policy octets token

-- where there is none, the fault is the one that the octets have
abbrev pub TellsTokenFaults : Type 0
TellsTokenFaults = (policy : Settings) (octets : List ℕ) (fault : Fault) → (token_of policy octets ≡ Err fault) ↔ IsTokenFault policy octets fault
