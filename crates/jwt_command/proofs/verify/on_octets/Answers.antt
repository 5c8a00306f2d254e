use Rattle.std.proofs.Common.{ap₂, ◌∙◌, subst}
use Rattle.jwt_verify.specs.Reports.{IsReport}
use Rattle.jwt_verify.specs.TermsTable.{terms_meant}
use Rattle.jwt_output.specs.Views.{reply_view}
use Rattle.jwt_output.specs.verdicts.Verdicts.{verdict_answer}
use Rattle.jwt_command.specs.Views.{demands_of}
use Rattle.jwt_command.proofs.Verifying.{answered_in_hand, read_payload}
use Rattle.jwt_command.proofs.verify.on_octets.Goals as goal

pub returns-clause-line : goal.returns-clause-line
returns-clause-line g c =
    let q = terms_meant (λ b. (goal.Verifier-dyn g (b.vtable, b.value)).meaning b.value) c.args.terms.now in
    let x = c.args.token.now in
    let r = c.judge_under-judged.result.report in
    let found = c.in_ok-reply.ensures.memory in
    answered_in_hand c.args.telling.now.printing (demands_of c.args.telling.now) q x c.payload_in-payload.result.now c.tells_reports.ensures r c.octets-work.result
    (subst (λ w. IsReport q x w r) (c.new-budget.ensures.ceiling ∙ c.work.ensures.value)
    c.judge_under-judged.ensures.judged.report)
    (c.payload_in-payload.ensures ∙ read_payload c.args.terms.now.policy.now x r.verdict c.judge_under-judged.result.token c.tells_tokens.ensures.token found c.judge_under-judged.ensures.token)
    (c.octets-work.ensures ∙ c.judge_under-judged.ensures.charged.counted.octets) found (reply_view c.in_ok-reply.reply) (c.in_ok-reply.ensures.line ∙ ap₂ (λ d m. verdict_answer c.args.telling.now.printing d m r.verdict c.payload_in-payload.result.now r.states.items r.tries.items c.octets-work.result) c.demands-demands.ensures.asked c.demands-demands.ensures.moment)

pub returns-clause-done : goal.returns-clause-done
returns-clause-done g c = λ is. c.judge_under-judged.ensures.judged.read (c.in_ok-reply.ensures.failed is)
