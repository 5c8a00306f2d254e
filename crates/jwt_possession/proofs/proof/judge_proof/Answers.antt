use Rattle.std.proofs.Common.{◌≡◌, ℤ, None, map, subst, sym, ◌∙◌, rules, w64, to_z, of_z}
use Rattle.serde_json.specs.Data.{Members}
use Rattle.jwt_text.specs.Rows.{first_row}
use Rattle.jwt_policy.specs.Settings.{Settings}
use Rattle.jwt_possession.specs.Requests.{request_rows}
use Rattle.jwt_possession.specs.Proofs.{IsSignedByOwnKey, IsProof, IsProofFault}
use Rattle.jwt_possession.proofs.Requests.{for_request}
use Rattle.jwt_possession.proofs.proof.judge_proof.Goals as goal

pub returns-in-Err-clause-fault : goal.returns-in-Err-clause-fault
returns-in-Err-clause-fault g c =
    let v = map (λ b. (goal.Verifier-dyn g (b.vtable, b.value)).meaning b.value) c.args.verifiers.now in
    let z : to_z w64 (of_z w64 c.args.now) ≡ c.args.now = search rules in
    subst (λ (n : ℤ). IsProofFault c.args.policy.now v n c.args.request.now c.args.proof.now c.in-Err.fault) z
    (subst (λ (p : Settings). IsProofFault p v (to_z w64 (of_z w64 c.args.now)) c.args.request.now c.args.proof.now c.in-Err.fault) c.policy.ensures.value c.in-Err.ensures.fault)

pub returns-in-Ok-of-clause-proof : goal.returns-in-Ok-of-clause-proof
returns-in-Ok-of-clause-proof g c =
    let v = map (λ b. (goal.Verifier-dyn g (b.vtable, b.value)).meaning b.value) c.args.verifiers.now in
    let z : to_z w64 (of_z w64 c.args.now) ≡ c.args.now = search rules in
    let own = c.in-Ok.ensures.own in
    let claims = c.in-Ok.own.claims in
    let request = c.args.request.now in
    let signed = subst (λ (n : ℤ). IsSignedByOwnKey c.args.policy.now v n c.args.proof.now own.0 claims) z
    (subst (λ (p : Settings). IsSignedByOwnKey p v (to_z w64 (of_z w64 c.args.now)) c.args.proof.now own.0 claims) c.policy.ensures.value own.2) in
    let rows : None ≡ first_row (request_rows claims request) = rw c.in-Ok-None.field-0-is at c.in-Ok-None.ensures in
    let proof : IsProof c.args.policy.now v c.args.now request c.args.proof.now own.0 claims = record { signed = signed; for_request = for_request claims request own.0.thumbprint own.3 (sym rows) } in (
      own.0,
      c.in-Ok-of.ensures.thumbprint ∙ c.thumbprint_of.ensures own.0 own.1,
      subst (λ (ms : Members). IsProof c.args.policy.now v c.args.now request c.args.proof.now own.0 ms) (sym c.in-Ok-of.ensures.claims) proof,
    )
