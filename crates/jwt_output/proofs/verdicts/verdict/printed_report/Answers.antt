use Rattle.std.proofs.Common.{◌≡◌, ap, subst, Option, IfOk}
use Rattle.jwt_access.specs.declared.denial.Denial.{Denial}
use Rattle.jwt_output.specs.Printed.{Answer}
use Rattle.jwt_output.specs.Views.{reply_view}
use Rattle.jwt_output.specs.fields.Verdicts.{answer, evidence}
use Rattle.jwt_output.proofs.verdicts.verdict.printed_report.Goals as goal

pub returns-clause-line : goal.returns-clause-line
returns-clause-line c =
    let report = c.args.report.now in
    let left = evidence report.states.items report.tries.items c.args.work in
    subst (λ (w : Answer). IfOk c.report_answer.result (λ a. reply_view a ≡ w)) (ap (λ (l : Option Denial). answer c.args.printing l report.verdict c.args.payload.now left) c.lacks_of-lacks.ensures) c.report_answer.ensures.answer
