use Rattle.std.proofs.Common.{ℕ, ◌≡◌, sym, subst}
use Rattle.std.specs.Result.{IfOk}
use Rattle.serde_json.specs.Data.{Members}
use Rattle.jwt_verify.specs.declared.report.Verdict.TheVariants.{Accepted}
use Rattle.jwt_memory.specs.Outcomes.{report_in}
use Rattle.jwt_memory.specs.declared.outcome.Outcome.{Outcome}
use Rattle.jwt_service.proofs.recalling.signature_in.Goals as goal

pub returns-in-Judged-clause-accepted : goal.returns-in-Judged-clause-accepted
returns-in-Judged-clause-accepted c =
    subst (λ (o : Outcome). IfOk c.signature_of.result (λ signature. (key : ℕ) × (claims : Members) × ((report_in o).verdict ≡ Accepted signature key claims))) (sym c.in-Judged.is) c.signature_of.ensures.accepted
