use Rattle.std.proofs.Common.{Bool, ℕ, map, sym, subst}
use Rattle.jwt_jws.specs.Views.{token}
use Rattle.jwt_memory.specs.Outcomes.{report_in, is_remembered, IsFound}
use Rattle.jwt_service.proofs.Remembered.{tells_of, told_recalled}
use Rattle.jwt_service.proofs.recalling.recalled.Goals as goal

pub judge_under-outcome-requires-clause-kept : goal.judge_under-outcome-requires-clause-kept
judge_under-outcome-requires-clause-kept g c =
    let t = c.terms_of-terms.ensures in rw (t.meanings, t.policy, t.keys) c.requires.kept

pub verified_in-requires : goal.verified_in-requires
verified_in-requires g c =
    let v = map (λ b. (goal.Verifier-dyn g (b.vtable, b.value)).meaning b.value) c.args.verifiers.now in
    let t = c.terms_of-terms.ensures in
    let h = (rw (t.meanings, t.policy, t.keys, t.moment) at c.judge_under-outcome.ensures.judged) in
    tells_of c.tells_tokens.ensures.token c.payload_claims.ensures.read _ c.args.octets.now _ c.args.issuer.now.policy.now.run.work (report_in c.judge_under-outcome.result.outcome).verdict
    (token c.args.signed.now) c.requires.read c.budget-budget.ensures.ceiling h.report.verdict

pub returns-clause-judged : goal.returns-clause-judged
returns-clause-judged g c =
    let v = map (λ b. (goal.Verifier-dyn g (b.vtable, b.value)).meaning b.value) c.args.verifiers.now in
    let t = c.terms_of-terms.ensures in
    let h = (rw (t.meanings, t.policy, t.keys, t.moment) at c.judge_under-outcome.ensures.judged) in
    told_recalled c.tells_tokens.ensures.token c.payload_claims.ensures.read c.args.issuer.now v c.args.call.now c.args.octets.now _ (report_in c.judge_under-outcome.result.outcome).verdict
    (token c.args.signed.now) c.verified_in.result c.requires.read c.budget-budget.ensures.ceiling h.report.verdict c.verified_in.ensures.accepted c.verified_in.ensures.refused

pub returns-clause-found : goal.returns-clause-found
returns-clause-found g c =
    let memory = c.args.memory.now in
    let octets = c.args.octets.now in
    let here = subst (λ (n : ℕ). IsFound (is_remembered c.judge_under-outcome.result.outcome) memory octets n) c.budget-budget.ensures.ceiling c.judge_under-outcome.ensures.found in
    subst (λ (b : Bool). IsFound b memory octets c.args.issuer.now.policy.now.run.work) (sym c.is_remembered-remembered.ensures) here

pub returns-clause-kept : goal.returns-clause-kept
returns-clause-kept g c =
    let t = c.terms_of-terms.ensures in let h = (rw (t.meanings, t.policy, t.keys) at c.judge_under-outcome.ensures.kept) in h
