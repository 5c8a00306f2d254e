use Rattle.std.proofs.Common.{◌≡◌, ◌∙◌, ℤ, ap, subst, rules, w64, to_z, of_z}
use Rattle.jwt_possession.specs.declared.request.Request.{Request}
use Rattle.jwt_handles.specs.Possessing.{SaysProof, nonce_of}
use Rattle.jwt_handles.proofs.possession_state.PossessionState.judged_for.Goals as goal

pub returns-clause-says : goal.returns-clause-says
returns-clause-says c =
    let z : to_z w64 (of_z w64 c.args.now) ≡ c.args.now = search rules in let said = c.judged_by_proof.result in
    let method = c.in-Ok.ensures.cases in let uri = c.in-Ok-from_utf8.ensures.cases in let nonce = c.in-Ok-from_utf8-2.ensures.cases in
    let request : Request = record { method = c.in-Ok.method; uri = c.in-Ok-from_utf8.uri; nonce = c.nonce_of.result; access = c.access_of.result } in
    record {
      says = λ m u n. (
        request,
        record { method = method.0; uri = uri.0; nonce = c.nonce_of.ensures ∙ ap nonce_of nonce.0; token = c.access_of.ensures.token; claims = c.access_of.ensures.claims },
        subst (λ (t : ℤ). SaysProof c.args.self.now.policy t request c.args.proof.now said.status said.fault said.kept) z c.judged_by_proof.ensures.says,
      );
      method = λ no. absurd (no method.1);
      uri = λ m no. absurd (no uri.1);
      nonce = λ m u no. absurd (no nonce.1);
    }
