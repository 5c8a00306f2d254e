-- The answer to a token: a list of fields, in a line or as a JSON object.
use Rattle.std.specs.Prelude.{ℕ, List}
use Rattle.jwt_access.specs.Moments.{moment_under}
use Rattle.jwt_access.specs.declared.moment.Moment.{Moment}
use Rattle.jwt_verify.specs.Table.{paid, states, work}
use Rattle.jwt_verify.specs.Verdict.{Terms, table, token_of, token_or_none, verdict_of}
use Rattle.jwt_verify.specs.declared.report.SigState.{SigState}
use Rattle.jwt_verify.specs.declared.report.Try.{Try}
use Rattle.jwt_verify.specs.declared.report.Verdict.{Verdict}
use Rattle.jwt_output.specs.Printed.{Answer}
use Rattle.jwt_output.specs.fields.Verdicts.{answer, evidence, lacks_of}
use Rattle.jwt_output.specs.verdicts.Denied.{Demands}
use Rattle.jwt_settings.specs.declared.printing.Printing.{Printing}

-- The claims of an accepted token alone are held against what is asked of them: it is told as accepted where they lack nothing, and else as
-- denied. No line has claims.
abbrev pub verdict_answer : Printing → Demands → Moment → Verdict → List ℕ → List SigState → List Try → ℕ → Answer
verdict_answer printing demands moment v payload sts es octets = answer printing (lacks_of demands moment v) v payload (evidence sts es octets)

-- the tries that the policy's `work` and `max_calls` pay
abbrev pub paid_tries : Terms → List ℕ → List Try
paid_tries q x = paid (table q x) q.policy.run.work q.policy.max_calls

-- the moment of a verdict under these terms
abbrev pub moment_of : Terms → Moment
moment_of q = moment_under q.policy q.now

-- the payload of the token that x is
abbrev pub payload_of : Terms → List ℕ → List ℕ
payload_of q x = (token_or_none (token_of q.policy x)).payload

abbrev pub token_answer : Printing → Demands → Terms → List ℕ → Answer
token_answer printing demands q x =
    verdict_answer printing demands (moment_of q) (verdict_of q x q.policy.run.work) (payload_of q x) (states (table q x) q.policy.run.work q.policy.max_calls) (paid_tries q x) (work (paid_tries q x))
