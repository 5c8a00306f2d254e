use Rattle.std.proofs.Common.{◌≡◌, ◌∙◌, ℤ, None, Some, map, sym, subst, rules, w64, to_z, of_z}
use Rattle.jwt_jws.specs.Views.{token}
use Rattle.jwt_verify.specs.Accepted.{IsAccepted, IsFault}
use Rattle.jwt_keys.specs.Views.{key_parts}
use Rattle.jwt_service.proofs.Verdicts.{accepted_then, by, names_alg, refused_fault}
use Rattle.jwt_service.proofs.judging.judged.Goals as goal

pub returns-in-Some : goal.returns-in-Some
returns-in-Some g c = λ octets read.
    let v = map (λ b. (goal.Verifier-dyn g (b.vtable, b.value)).meaning b.value) c.args.verifiers.now in
    let policy = c.args.issuer.now.policy.now in
    let ks = map key_parts c.args.issuer.now.keys.now.keys.items in
    let now = c.args.call.now.moment in
    let z : to_z w64 (of_z w64 now) ≡ now = search rules in
    let won = c.in-Accepted in (
      won.signature,
      won.key,
      subst (λ (n : ℤ). IsAccepted (by policy n v ks) octets policy.run.work won.signature won.key won.claims) z
          (accepted_then (by policy (to_z w64 (of_z w64 now)) v ks) octets _ policy.run.work c.judge_token-verdict.result.verdict won.signature won.key won.claims won.is c.budget-budget.ensures.ceiling (c.judge_token-verdict.ensures.report octets read).verdict),
      (token c.args.signed.now, read, sym c.alg_at.ensures ∙ c.in-Some.is),
    )

pub unreachable-requires : goal.unreachable-requires
unreachable-requires g c =
    let v = map (λ b. (goal.Verifier-dyn g (b.vtable, b.value)).meaning b.value) c.args.verifiers.now in
    let policy = c.args.issuer.now.policy.now in
    let ks = map key_parts c.args.issuer.now.keys.now.keys.items in
    let now = c.args.call.now.moment in
    let won = c.in-Accepted in
    let octets = c.requires.0 in
    let read = c.requires.1 in
    let terms = by policy (to_z w64 (of_z w64 now)) v ks in
    let accepted = accepted_then terms octets _ policy.run.work c.judge_token-verdict.result.verdict won.signature won.key won.claims won.is c.budget-budget.ensures.ceiling (c.judge_token-verdict.ensures.report octets read).verdict in
    let named = names_alg c.tells_tokens.ensures.token terms octets policy.run.work won.signature won.key won.claims (token c.args.signed.now) read accepted in
    let both : None ≡ Some named.0 = sym c.in-None.is ∙ c.alg_at.ensures ∙ named.1 in
    absurd cc

pub returns : goal.returns
returns g c = λ octets read found.
    let v = map (λ b. (goal.Verifier-dyn g (b.vtable, b.value)).meaning b.value) c.args.verifiers.now in
    let policy = c.args.issuer.now.policy.now in
    let ks = map key_parts c.args.issuer.now.keys.now.keys.items in
    let now = c.args.call.now.moment in
    let z : to_z w64 (of_z w64 now) ≡ now = search rules in
    subst (λ (n : ℤ). IsFault (by policy n v ks) octets policy.run.work c.in-Refused.fault) z
    (refused_fault (by policy (to_z w64 (of_z w64 now)) v ks) octets _ policy.run.work c.judge_token-verdict.result.verdict c.in-Refused.fault c.in-Refused.is c.budget-budget.ensures.ceiling (c.judge_token-verdict.ensures.report octets read).verdict found)
