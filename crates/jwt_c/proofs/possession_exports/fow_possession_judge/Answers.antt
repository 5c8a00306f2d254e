use Rattle.std.proofs.Common.{◌≡◌, ◌≢◌, [], ℤ, IfSome, subst, rules, w64, to_z, of_z}
use Rattle.jwt_verify.specs.Verdict.{token_of}
use Rattle.jwt_handles.specs.declared.status.TheConstants.{FOW_OUT_OF_MEMORY}
use Rattle.jwt_handles.specs.Documents.{documents}
use Rattle.jwt_handles.specs.Possessing.{SaysBeside, claims_of_last, kept_in}
use Rattle.jwt_c.proofs.possession_exports.fow_possession_judge.Goals as goal

pub returns-clause-beside : goal.returns-clause-beside
returns-clause-beside c =
    let z : to_z w64 (of_z w64 c.args.now) ≡ c.args.now = search rules in let it = c.possession_judge in
    subst (λ (n : ℤ). IfSome c.args.possession.now.state (λ p. IfSome c.args.validator.now.state (λ d. c.args.token.now ≢ [] → it.result ≢ FOW_OUT_OF_MEMORY
    → SaysBeside (claims_of_last (token_of (documents d).policy c.args.token.now) d.last) p.policy n
    (record { method = c.args.method.now; uri = c.args.uri.now; nonce = c.args.nonce.now; token = c.args.token.now }) c.args.proof.now it.result it.new.fault (kept_in it.new.possession.state)))) z it.ensures.beside
