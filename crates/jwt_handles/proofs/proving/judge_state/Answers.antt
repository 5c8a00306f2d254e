use Rattle.std.proofs.Common.{subst}
use Rattle.std.proofs.Math.Facts.{to_z-of_z}
use Rattle.jwt_handles.specs.Proving.{IsProved}
use Rattle.jwt_handles.proofs.proving.judge_state.Goals as goal

pub returns-clause-judged : goal.returns-clause-judged
returns-clause-judged c small =
    subst (λ n. IsProved c.args.state.now.grounds n c.args.octets.now c.judge-last.result.said c.judge-last.result.last) (to_z-of_z c.ranges.now) (c.judge-last.ensures.judged small)
