use Rattle.std.proofs.Common.{subst}
use Rattle.std.proofs.Math.Facts.{to_z-of_z}
use Rattle.jwt_handles.specs.Proving.{IsProved}
use Rattle.jwt_handles.proofs.grounds.Grounds.judge.Goals as goal

pub returns-clause-judged : goal.returns-clause-judged
returns-clause-judged c small =
    let j = c.judging_by_proof.result in let x = c.args.octets.now in let memory = c.self.inside.proved in
    subst (λ v. IsProved v c.args.now x j.said j.last) c.self.view_is
    (subst (λ it. IsProved (it.documents, memory) c.args.now x j.said j.last) c.deref-shared.ensures
    (subst (λ n. IsProved (c.deref-shared.result.now.documents, memory) n x j.said j.last) (to_z-of_z c.ranges.now) (c.judging_by_proof.ensures.judged small)))
