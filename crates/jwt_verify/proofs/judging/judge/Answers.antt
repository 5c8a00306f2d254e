-- What is said of the moment of the terms is said of the number.
use Rattle.std.proofs.Common.{map, w64}
use Rattle.std.proofs.lemmas.Int.{to_z-of_z}
use Rattle.jwt_verify.specs.Reports.{IsJudged, IsCharged, terms}
use Rattle.jwt_verify.proofs.judging.judge.Goals as goal

pub returns-clause-judged : goal.returns-clause-judged
returns-clause-judged g c =
    let v = map (λ b. (goal.Verifier-dyn g (b.vtable, b.value)).meaning b.value) c.args.verifiers.now in
    let q = terms c.args.policy.now c.args.keys.now c.args.now v in
    let here : IsJudged q c.args.octets.now (g.B.Budget.ceiling c.args.budget.now) c.judge_under-report.result.report = rw (to_z-of_z w64 c.args.now c.ranges.now) at c.judge_under-report.ensures.judged in
    here

pub returns-clause-charged : goal.returns-clause-charged
returns-clause-charged g c =
    let v = map (λ b. (goal.Verifier-dyn g (b.vtable, b.value)).meaning b.value) c.args.verifiers.now in
    let q = terms c.args.policy.now c.args.keys.now c.args.now v in
    let new = c.judge_under-report.new.budget in
    let here : IsCharged q c.args.octets.now c.judge_under-report.result.report.tries.items (g.B.Budget.octets new) (g.B.Budget.calls new) = rw (to_z-of_z w64 c.args.now c.ranges.now) at c.judge_under-report.ensures.charged in
    here
