-- The laws of a memory: the same verdict at every moment.
use Rattle.std.specs.Prelude.{ℕ, ℤ, List}
use Rattle.serde_json.specs.Data.{Members}
use Rattle.jwt_policy.specs.Checks.{check_of}
use Rattle.jwt_verify.specs.declared.report.Report.{Report}
use Rattle.jwt_verify.specs.declared.report.Verdict.{Verdict}
use Rattle.jwt_verify.specs.declared.report.Verdict.TheVariants.{Accepted}
use Rattle.jwt_verify.specs.Reports.{IsReport}
use Rattle.jwt_verify.specs.Verdict.{Terms, checked}

-- the verdict on a token that this signature and this key verify and that has these claims, at the moment of the terms: it is accepted, unless
-- the policy refuses the claims (RFC 7519, section 7.2)
abbrev pub verdict_on : Terms → (signature key : ℕ) → Members → Verdict
verdict_on terms signature key claims = checked signature key claims (check_of terms.policy claims terms.now)

-- ---- Cited by laws alone

-- the same terms, at another moment
abbrev pub at : Terms → ℤ → Terms
at terms now = record { policy = terms.policy; keys = terms.keys; now = now; verifiers = terms.verifiers }

-- the same report, with another verdict
abbrev pub with_verdict : Report → Verdict → Report
with_verdict report verdict = record { verdict = verdict; states = report.states; tries = report.tries }

-- The report on an accepted token is at every moment the report on it, with what its claims come to then.
abbrev pub AcceptedEver : Type 0
AcceptedEver = (terms : Terms) (octets : List ℕ) (ceiling signature key : ℕ) (claims : Members) (report : Report)
    → IsReport terms octets ceiling (with_verdict report (Accepted signature key claims))
    → (now : ℤ) → IsReport (at terms now) octets ceiling (with_verdict report (verdict_on (at terms now) signature key claims))
