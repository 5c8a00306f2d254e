use Rattle.std.proofs.Common.{◌≤◌, sym, subst, IfSome, Some}
use Rattle.std.proofs.Math.Facts.{to_z-of_z}
use Rattle.jwt_handles.specs.declared.status.TheConstants.{FOW_REFUSED}
use Rattle.jwt_handles.specs.Proving.{IsProved, IsProvedBy}
use Rattle.jwt_handles.specs.Keeping.{RemembersProved}
use Rattle.jwt_handles.proofs.verdicts.judge.Goals as goal

pub returns-clause-judged : goal.returns-clause-judged
returns-clause-judged c =
    let said = c.judge_state-said.result in let x = c.args.token.now in let kept = c.judge_state-said.new.state in
    subst (λ o. IfSome o (λ d. said.verdict ≤ FOW_REFUSED → IsProvedBy d c.args.now x said c.of.result.state)) (sym c.in-Some.ensures.held)
    (λ small. subst (λ o. IsProvedBy c.in-Some.state.value c.args.now x said o) (sym c.of.ensures)
    (subst (λ d. IsProved d.grounds c.args.now x said kept.last) c.deref_mut.ensures.value
    (subst (λ n. IsProved c.deref_mut.result.now.grounds n x said kept.last) (to_z-of_z c.ranges.now) (c.judge_state-said.ensures.judged small))))

pub returns-clause-remembers : goal.returns-clause-remembers
returns-clause-remembers c =
    let kept = c.judge_state-said.new.state in let is = c.judge_state-said.ensures in let x = c.args.token.now in let said = c.judge_state-said.result in
    subst (λ o. IfSome o (λ d. RemembersProved d x said c.of.result.state)) (sym c.in-Some.ensures.held)
    (subst (λ o. RemembersProved c.in-Some.state.value x said o) (sym c.of.ensures)
    (subst (λ d. RemembersProved d x said (Some kept)) c.deref_mut.ensures.value (is.adds, is.room)))
