use Rattle.std.proofs.Common.{◌≡◌, ◌≢◌, [], ℤ, Option, IfSome, subst, sym, rules, w64, to_z, of_z}
use Rattle.jwt_policy.specs.Settings.{Settings}
use Rattle.jwt_verify.specs.Verdict.{token_of}
use Rattle.jwt_possession.specs.declared.possession.Possession.{Possession}
use Rattle.jwt_handles.specs.declared.possession_state.PossessionState.{PossessionState}
use Rattle.jwt_handles.specs.declared.status.TheConstants.{FOW_OUT_OF_MEMORY}
use Rattle.jwt_handles.specs.Documents.{documents}
use Rattle.jwt_handles.specs.Possessing.{SaysBeside, claims_of_last, kept_in}
use Rattle.jwt_handles.proofs.possessions.possession_judge.Goals as goal

pub returns-clause-beside : goal.returns-clause-beside
returns-clause-beside c =
    let z : to_z w64 (of_z w64 c.args.sent.now) ≡ c.args.sent.now = search rules in let said = c.judge-status.result in let kept = c.judge-status.new.self.last in
    let says : Settings → ℤ → Option Possession → Type 0 = λ policy n it. IfSome c.args.validator.now.state (λ d. c.args.sent.request.token.now ≢ [] → said.0 ≢ FOW_OUT_OF_MEMORY
    → SaysBeside (claims_of_last (token_of (documents d).policy c.args.sent.request.token.now) d.last) policy n
    (record { method = c.args.sent.request.method.now; uri = c.args.sent.request.uri.now; nonce = c.args.sent.request.nonce.now; token = c.args.sent.request.token.now }) c.args.sent.proof.now said.0 said.1 it) in
    subst (λ o. IfSome o (λ p. says p.policy c.args.sent.now (kept_in c.of.result.state))) (sym c.in-Some.ensures.held)
    (subst (λ o. says c.in-Some.held.value.policy c.args.sent.now (kept_in o)) (sym c.of.ensures)
    (subst (λ (p : PossessionState). says p.policy c.args.sent.now kept) c.deref_mut.ensures.value
    (subst (λ (n : ℤ). says c.deref_mut.result.now.policy n kept) z c.judge-status.ensures.beside)))
