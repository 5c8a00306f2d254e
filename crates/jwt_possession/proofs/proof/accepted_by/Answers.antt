use Rattle.std.proofs.Common.{◌≡◌, ℤ, map, subst, rules, w64, to_z, of_z}
use Rattle.jwt_jws.specs.Views.{token}
use Rattle.jwt_keys.specs.Views.{key_parts}
use Rattle.jwt_possession.specs.Proofs.{IsRefusal, IsSignedByOwnKey}
use Rattle.jwt_possession.proofs.OwnTerms.{accepted_own, refused_own}
use Rattle.jwt_possession.proofs.proof.accepted_by.Goals as goal

pub returns-in-Accepted-clause-accepted : goal.returns-in-Accepted-clause-accepted
returns-in-Accepted-clause-accepted g c = λ x key is own one.
    let v = map (λ b. (goal.Verifier-dyn g (b.vtable, b.value)).meaning b.value) c.args.verifiers.now in
    let ks = map key_parts c.args.keys.now.keys.items in
    let laws = c.tells_tokens.ensures in
    let z : to_z w64 (of_z w64 c.args.now) ≡ c.args.now = search rules in
    let report = c.judge_token-verdict.ensures.report x is in
    let won = c.in-Accepted in
    subst (λ (n : ℤ). IsSignedByOwnKey c.args.policy.now v n x key won.claims) z
    (accepted_own laws.token laws.fault c.args.policy.now v (to_z w64 (of_z w64 c.args.now)) x _ (token c.args.signed.now) key is own ks one c.judge_token-verdict.result.verdict report.verdict won.signature won.key won.claims won.is)

pub returns-clause-fault : goal.returns-clause-fault
returns-clause-fault g c = λ x key is own one.
    let v = map (λ b. (goal.Verifier-dyn g (b.vtable, b.value)).meaning b.value) c.args.verifiers.now in
    let ks = map key_parts c.args.keys.now.keys.items in
    let laws = c.tells_tokens.ensures in
    let z : to_z w64 (of_z w64 c.args.now) ≡ c.args.now = search rules in
    let report = c.judge_token-verdict.ensures.report x is in
    subst (λ (n : ℤ). IsRefusal c.args.policy.now v n (token c.args.signed.now) own.signature key c.in-Refused.fault) z
    (refused_own laws.token laws.fault c.args.policy.now v (to_z w64 (of_z w64 c.args.now)) x _ (token c.args.signed.now) key is own ks one c.judge_token-verdict.result.verdict report.verdict c.in-Refused.fault c.in-Refused.is)
