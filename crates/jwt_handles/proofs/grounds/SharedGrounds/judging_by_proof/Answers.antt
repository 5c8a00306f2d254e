use Rattle.std.proofs.Common.{subst, ◌∙◌}
use Rattle.std.proofs.Math.Facts.{to_z-of_z}
use Rattle.jwt_handles.specs.Proving.{IsProved}
use Rattle.jwt_handles.proofs.grounds.SharedGrounds.judging_by_proof.Goals as goal

pub returns-clause-judged : goal.returns-clause-judged
returns-clause-judged c small =
    let lent = c.proved_terms-terms in let j = c.judging_under.result in let x = c.args.octets.now in let memory = c.args.memory.now in
    subst (λ n. IsProved (c.args.self.now.documents, memory) n x j.said j.last) (lent.ensures.moment ∙ to_z-of_z c.ranges.now)
    (subst (λ it. IsProved (it, memory) lent.result.moment x j.said j.last) lent.ensures.documents (c.judging_under.ensures.judged small))
