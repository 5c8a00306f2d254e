use Rattle.std.proofs.Common.{◌≡◌, ℤ, ap, map, subst, ◌∙◌, rules, w64, to_z, of_z}
use Rattle.jwt_possession.specs.Proofs.{IsProofFault}
use Rattle.jwt_handles.specs.Faults.{Numbers}
use Rattle.jwt_handles.proofs.Refusals.{says_none}
use Rattle.jwt_handles.proofs.possession_state.PossessionState.judged.Goals as goal

pub returns-in-Err-clause-says : goal.returns-in-Err-clause-says
returns-in-Err-clause-says g c =
    let v = map (λ b. (goal.Verifier-dyn g (b.vtable, b.value)).meaning b.value) c.args.verifiers.now in
    let z : to_z w64 (of_z w64 c.args.now) ≡ c.args.now = search rules in
    let policy = c.args.self.now.policy in let request = c.args.request.now in let octets = c.args.proof.now in let fault = c.in-Err.fault in
    let none = c.none.ensures in let said = c.proof_numbers-said.ensures in
    says_none policy v c.args.now request octets fault c.none.result.status c.none.result.fault c.none.result.kept c.requires.meanings
    (none.status ∙ ap (λ (n : Numbers). n.verdict) said) (none.fault ∙ ap (λ (n : Numbers). n.fault) said)
    (subst (λ (n : ℤ). IsProofFault policy v n request octets fault) z c.in-Err.ensures.fault) none.kept
