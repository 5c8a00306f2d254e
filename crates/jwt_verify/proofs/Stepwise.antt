-- When a token is accepted and why it is refused, by the steps of the definitions that the private functions cite.
use Rattle.std.proofs.Common.{ℕ, ◌+◌, ◌<◌, ◌≤◌, ◌≡◌, ◌⊎◌, true, false, List, length, Some, None, Option, Ok, Err}
use Rattle.std.specs.Prelude.{◌↔◌}
use Rattle.serde_json.specs.Data.{Members}
use Rattle.jwt_jws.specs.Token.{Token}
use Rattle.jwt_jws.specs.Forms.{form_of}
use Rattle.jwt_policy.specs.declared.claim_fault.ClaimFault.{ClaimFault}
use Rattle.jwt_policy.specs.ClaimKinds.{claims_of}
use Rattle.jwt_policy.specs.Checks.{check_of}
use Rattle.jwt_verify.specs.declared.report.Try.{Try}
use Rattle.jwt_verify.specs.declared.report.InputFault.TheVariants.{TooLong}
use Rattle.jwt_verify.specs.declared.report.Fault.{Fault}
use Rattle.jwt_verify.specs.declared.report.Fault.TheVariants.{Text, Form, WorkExceeded, CallsExceeded, Signature, Claim}
use Rattle.jwt_verify.specs.declared.report.Verdict.TheVariants.{Accepted, Refused}
use Rattle.jwt_verify.specs.Table.{Table, paid, stop, is_within}
use Rattle.jwt_verify.specs.Verdict.{Terms, without_line_feed, fault_at, table, verdict_of}
use Rattle.jwt_verify.specs.Accepted.{IsVerifiedBy, IsFirstUnverified}

-- x isn't too long, and is this signed token
abbrev pub IsReadToken : Terms → List ℕ → Token → Type 0
IsReadToken q x t = (length x ≤ q.policy.run.limit) × (form_of q.policy.run.max_signatures (without_line_feed q.policy.run.line_feed x) ≡ Ok t)

-- x is accepted: it is a signed token, no ceiling stops the run, the signatures are verified, and the claims hold
pub record IsAcceptedStepwise (q : Terms) (x : List ℕ) (w i j : ℕ) (claims : Members) : Type 0 where
  pub token : Token
  pub signed : IsReadToken q x token
  pub unstopped : stop (table q x) w q.policy.max_calls ≡ None
  pub verified_by : IsVerifiedBy (table q x) i j
  pub read : claims_of token.payload ≡ Ok claims
  pub hold : check_of q.policy claims q.now ≡ None

-- the verdict is an acceptance exactly where the token is accepted, with that signature, that key and those claims
abbrev pub AcceptsStepwise : Type 0
AcceptsStepwise = (q : Terms) (x : List ℕ) (w i j : ℕ) (claims : Members) → (verdict_of q x w ≡ Accepted i j claims) ↔ IsAcceptedStepwise q x w i j claims

-- the run stops at this pair: before it, all that a ceiling allows was tried
abbrev pub StopsStepwise : Table → ℕ → Option ℕ → ℕ → ℕ → Type 0
StopsStepwise t w calls i j = (e : Try) × (stop t w calls ≡ Some e) × (e.signature ≡ i) × (e.key ≡ j)

-- the claims of a payload are refused for this, as claims or by the policy
abbrev pub IsClaimFaultStepwise : Terms → List ℕ → ClaimFault → Type 0
IsClaimFaultStepwise q payload f = (claims_of payload ≡ Err f) ⊎ ((claims : Members) × (claims_of payload ≡ Ok claims) × (check_of q.policy claims q.now ≡ Some f))

-- why x is refused, each cause where none before it holds
abbrev pub IsFaultStepwise : Terms → List ℕ → ℕ → Fault → Type 0
IsFaultStepwise q x w (Text TooLong) = q.policy.run.limit < length x
IsFaultStepwise q x w (Form f) = (length x ≤ q.policy.run.limit) × (form_of q.policy.run.max_signatures (without_line_feed q.policy.run.line_feed x) ≡ Err f)
IsFaultStepwise q x w (CallsExceeded i j) = StopsStepwise (table q x) w q.policy.max_calls i j × (is_within q.policy.max_calls (length (paid (table q x) w q.policy.max_calls) + 1) ≡ false)
IsFaultStepwise q x w (WorkExceeded i j) = StopsStepwise (table q x) w q.policy.max_calls i j × (is_within q.policy.max_calls (length (paid (table q x) w q.policy.max_calls) + 1) ≡ true)
IsFaultStepwise q x w (Signature i f) = (t : Token) × IsReadToken q x t × (stop (table q x) w q.policy.max_calls ≡ None) × IsFirstUnverified q.policy.run.mode (table q x) i × (fault_at (table q x) i ≡ Some f)
IsFaultStepwise q x w (Claim f) = (t : Token) × IsReadToken q x t × (stop (table q x) w q.policy.max_calls ≡ None) × ((i : ℕ) × (j : ℕ) × IsVerifiedBy (table q x) i j) × IsClaimFaultStepwise q t.payload f
IsFaultStepwise q x w _ = ⊥

-- the verdict is a refusal exactly where that fault is the first that holds
abbrev pub RefusesStepwise : Type 0
RefusesStepwise = (q : Terms) (x : List ℕ) (w : ℕ) (f : Fault) → (verdict_of q x w ≡ Refused f) ↔ IsFaultStepwise q x w f
