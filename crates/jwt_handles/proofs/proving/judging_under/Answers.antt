use Rattle.std.proofs.Common.{◌≤◌, ap, sym, subst}
use Rattle.jwt_memory.specs.Outcomes.{payload_in, report_in}
use Rattle.jwt_handles.specs.Evidence.{payload_kept}
use Rattle.jwt_handles.specs.Remembering.{IsHeldIn}
use Rattle.jwt_handles.proofs.Adding.{adds_said, adds_nothing}
use Rattle.jwt_handles.proofs.Payloads.{keeps_payload}
use Rattle.jwt_handles.proofs.Numbering.{is_small}
use Rattle.jwt_handles.proofs.proving.judging_under.Goals as goal

pub returns-in-Ok-clause-judged : goal.returns-in-Ok-clause-judged
returns-in-Ok-clause-judged g c _ =
    let is = c.in-Ok.ensures in (
      report_in c.outcome_under-handed.result.handed.outcome,
      c.outcome_under-handed.ensures.report,
      subst (λ b. IsHeldIn b c.args.memory.now c.args.octets.now c.args.under.now.policy.now.run.work) (sym is.remembered) c.outcome_under-handed.ensures.held,
      is.says,
    )

pub returns-in-Ok-clause-open : goal.returns-in-Ok-clause-open
returns-in-Ok-clause-open g c =
    subst (λ n. n ≤ 3) (sym (ap (λ n. n.verdict) c.in-Ok.ensures.says.0)) (is_small (report_in c.outcome_under-handed.result.handed.outcome).verdict)

pub returns-in-Ok-clause-adds : goal.returns-in-Ok-clause-adds
returns-in-Ok-clause-adds g c =
    adds_said c.args.under.now.policy.now.run.work c.args.octets.now c.in-Ok.judging.said c.in-Ok.judging.last c.outcome_under-handed.result.handed c.in-Ok.ensures.says
    c.args.memory.now c.outcome_under-handed.new.memory c.outcome_under-handed.ensures.adds

pub returns-in-Err-clause-adds : goal.returns-in-Err-clause-adds
returns-in-Err-clause-adds g c =
    adds_nothing c.args.under.now.policy.now.run.work c.args.octets.now c.bare.result.said c.bare.result.last c.outcome_under-handed.result.handed c.in-Err.ensures.fails
    c.args.memory.now c.outcome_under-handed.new.memory c.outcome_under-handed.ensures.adds

pub returns-in-Ok-clause-payload : goal.returns-in-Ok-clause-payload
returns-in-Ok-clause-payload g c =
    let is = c.in-Ok.ensures in let j = c.in-Ok.judging in let handed = c.outcome_under-handed.result.handed in
    keeps_payload c.args.under.now.policy.now c.args.octets.now (report_in handed.outcome).verdict j.said.verdict (payload_kept j.last) (payload_in handed)
    (ap (λ n. n.verdict) is.says.0) is.payload c.outcome_under-handed.ensures.payload is.whole
