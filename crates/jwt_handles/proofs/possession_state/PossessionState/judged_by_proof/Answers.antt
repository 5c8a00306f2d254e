use Rattle.std.proofs.Common.{◌≡◌, ℤ, subst, rules, w64, to_z, of_z}
use Rattle.jwt_handles.specs.Possessing.{SaysProof}
use Rattle.jwt_handles.proofs.possession_state.PossessionState.judged_by_proof.Goals as goal

pub returns-clause-says : goal.returns-clause-says
returns-clause-says c =
    let z : to_z w64 (of_z w64 c.args.now) ≡ c.args.now = search rules in let said = c.judged.result in
    subst (λ (n : ℤ). SaysProof c.args.self.now.policy n c.args.request.now c.args.proof.now said.status said.fault said.kept) z c.judged.ensures.says
