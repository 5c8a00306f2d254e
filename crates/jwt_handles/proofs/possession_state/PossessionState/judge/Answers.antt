use Rattle.std.proofs.Common.{◌≡◌, ◌≢◌, [], ℤ, IfSome, subst, rules, w64, to_z, of_z}
use Rattle.jwt_verify.specs.Verdict.{token_of}
use Rattle.jwt_handles.specs.declared.status.TheConstants.{FOW_OUT_OF_MEMORY}
use Rattle.jwt_handles.specs.Documents.{documents}
use Rattle.jwt_handles.specs.Possessing.{SaysBeside, claims_of_last}
use Rattle.jwt_handles.proofs.possession_state.PossessionState.judge.Goals as goal

pub returns-clause-beside : goal.returns-clause-beside
returns-clause-beside c =
    let z : to_z w64 (of_z w64 c.args.now) ≡ c.args.now = search rules in let said = c.judged_by-status.result in let asked = c.args.asked in
    subst (λ (n : ℤ). IfSome c.args.validator.now.state (λ d. asked.token.now ≢ [] → said.status ≢ FOW_OUT_OF_MEMORY
    → SaysBeside (claims_of_last (token_of (documents d).policy asked.token.now) d.last) c.args.self.now.policy n
    (record { method = asked.method.now; uri = asked.uri.now; nonce = asked.nonce.now; token = asked.token.now }) c.args.proof.now said.status said.fault said.kept)) z c.judged_by-status.ensures.beside
