use Rattle.std.proofs.Common.{Some, sym, subst}
use Rattle.jwt_verify.specs.Reports.{IsReport, terms}
use Rattle.jwt_memory.specs.Kept.{AreKept}
use Rattle.jwt_memory.specs.Outcomes.{KeepsHanded, report_in}
use Rattle.jwt_handles.specs.Keeping.{AddsHanded}
use Rattle.jwt_handles.specs.ProvedKept.{proved_meanings}
use Rattle.jwt_handles.proofs.proving.outcome_under.Goals as goal

pub returns-in-Some-clause-report : goal.returns-in-Some-clause-report
returns-in-Some-clause-report g c =
    let it = c.args.under.now in let x = c.args.octets.now in let r = report_in c.judge_under-handed.result.outcome in
    let said = (rw c.requires.meanings at c.judge_under-handed.ensures.judged.report) in
    subst (λ w. IsReport (terms it.policy.now it.keys.now it.moment proved_meanings) x w r) c.budget-budget.ensures.ceiling said

pub returns-in-None-clause-report : goal.returns-in-None-clause-report
returns-in-None-clause-report g c =
    let it = c.args.under.now in let x = c.args.octets.now in let r = c.judge_under-judged.result.report in
    let said = (rw c.requires.meanings at c.judge_under-judged.ensures.judged.report) in
    let here = subst (λ w. IsReport (terms it.policy.now it.keys.now it.moment proved_meanings) x w r) c.budget-budget.ensures.ceiling said in
    subst (IsReport (terms it.policy.now it.keys.now it.moment proved_meanings) x it.policy.now.run.work) (sym c.of.ensures.report) here

pub returns-in-Some-clause-kept : goal.returns-in-Some-clause-kept
returns-in-Some-clause-kept g c =
    subst (λ by. AreKept c.args.under.now.policy.now c.args.under.now.keys.now by c.judge_under-handed.new.self) c.requires.meanings c.judge_under-handed.ensures.kept

pub returns-in-Some-clause-adds : goal.returns-in-Some-clause-adds
returns-in-Some-clause-adds g c =
    let x = c.args.octets.now in let h = c.judge_under-handed.result in let n = c.judge_under-handed.new.self in
    subst (λ m. AddsHanded c.args.under.now.policy.now.run.work x h m (Some n)) (sym c.in-Some.is)
    (subst (λ w. KeepsHanded x w h c.in-Some.memory n) c.budget-budget.ensures.ceiling c.judge_under-handed.ensures.held)
