-- What is taken of the source has the report of all of it.
use Rattle.std.proofs.Common.{[], length, map, ap, sym, subst, ◌∙◌, arith, w64}
use Rattle.std.proofs.lemmas.Bool.{false≢true}
use Rattle.std.proofs.lemmas.Int.{to_z-of_z}
use Rattle.std.proofs.lemmas.Option.{IfSome_then}
use Rattle.jwt_verify.specs.Reports.{terms, IsReport, IsCharged}
use Rattle.jwt_verify.proofs.Taking.{takes_taken, source_takes, takes_more, source_fails, nothing_failed}
use Rattle.jwt_verify.proofs.Reporting.{none_counted, none_charged, taken_charged, source_report}
use Rattle.jwt_verify.proofs.judging.validate.Goals as goal

pub returns-in-Ok-clause-report : goal.returns-in-Ok-clause-report
returns-in-Ok-clause-report g c =
    let v = map (λ b. (goal.Verifier-dyn g (b.vtable, b.value)).meaning b.value) c.args.verifiers.now in
    let q = terms c.args.policy.now c.args.keys.now c.args.now v in
    let w = g.B.Budget.ceiling c.args.budget.now in
    let z = to_z-of_z w64 c.args.now c.ranges.now in
    IfSome_then (g.R.Source.remaining c.args.source.now) c.in-Ok.ensures.octets
    (λ x k read. c.reports_in_words.ensures.taken q x w c.judge.result (subst (λ y. IsReport q y w c.judge.result) (c.octets.ensures.value ∙ rw c.limit.ensures.value at k.0) (rw z at c.judge.ensures.judged.report)))

pub returns-in-Ok-clause-charged : goal.returns-in-Ok-clause-charged
returns-in-Ok-clause-charged g c =
    let v = map (λ b. (goal.Verifier-dyn g (b.vtable, b.value)).meaning b.value) c.args.verifiers.now in
    let q = terms c.args.policy.now c.args.keys.now c.args.now v in
    let z = to_z-of_z w64 c.args.now c.ranges.now in
    let es = c.judge.result.tries.items in
    let fed = g.B.Budget.octets c.judge.new.budget in
    let called = g.B.Budget.calls c.judge.new.budget in
    let here = subst (λ n. IsCharged (terms c.args.policy.now c.args.keys.now n v) c.octets.result.now es fed called) z c.judge.ensures.charged in
    IfSome_then (g.R.Source.remaining c.args.source.now) c.in-Ok.ensures.octets
    (λ x k. taken_charged c.reports_in_words.ensures.token q x es fed called (subst (λ y. IsCharged q y es fed called) (c.octets.ensures.value ∙ rw c.limit.ensures.value at k.0) here))

pub returns-in-Ok-clause-most : goal.returns-in-Ok-clause-most
returns-in-Ok-clause-most g c =
    IfSome_then (g.R.Source.remaining c.args.source.now) c.in-Ok.ensures.octets
    (λ x k. takes_taken x c.args.policy.now.run.limit _ (rw c.limit.ensures.value at k.1))

pub returns-in-Ok-clause-few : goal.returns-in-Ok-clause-few
returns-in-Ok-clause-few g c =
    IfSome_then (g.R.Source.remaining c.args.source.now) c.in-Ok.ensures.octets
    (λ x k read. absurd (c.judge.ensures.judged.read read))

pub returns-in-Ok-clause-fails : goal.returns-in-Ok-clause-fails
returns-in-Ok-clause-fails g c = λ worked fails. absurd (false≢true (sym c.in-Ok.ensures.ok ∙ fails))

pub returns-in-Ok-clause-some : goal.returns-in-Ok-clause-some
returns-in-Ok-clause-some g c =
    let z = to_z-of_z w64 c.args.now c.ranges.now in
    λ read. (c.octets.result.now, omega (arith, ap length c.octets.ensures.value, c.in-Ok.ensures.bound, c.limit.ensures.value), rw z at c.judge.ensures.judged.report)

pub returns-in-Err-clause-report : goal.returns-in-Err-clause-report
returns-in-Err-clause-report g c =
    let v = map (λ b. (goal.Verifier-dyn g (b.vtable, b.value)).meaning b.value) c.args.verifiers.now in
    let q = terms c.args.policy.now c.args.keys.now c.args.now v in
    let w = g.B.Budget.ceiling c.args.budget.now in
    IfSome_then (g.R.Source.remaining c.args.source.now) c.take_in.ensures.octets
    (λ x k read. source_report q x w c.refused.result _ _ c.in-Err.fault c.in-Err.ensures.fault c.refused.ensures.verdict c.refused.ensures.tries read)

pub returns-in-Err-clause-charged : goal.returns-in-Err-clause-charged
returns-in-Err-clause-charged g c =
    let v = map (λ b. (goal.Verifier-dyn g (b.vtable, b.value)).meaning b.value) c.args.verifiers.now in
    let q = terms c.args.policy.now c.args.keys.now c.args.now v in
    IfSome_then (g.R.Source.remaining c.args.source.now) c.take_in.ensures.octets
    (λ x k. none_charged q x c.refused.result.tries.items _ _ c.refused.ensures.tries c.requires.no_octets c.requires.no_calls)

pub returns-in-Err-clause-most : goal.returns-in-Err-clause-most
returns-in-Err-clause-most g c =
    IfSome_then (g.R.Source.remaining c.args.source.now) c.in-Err.ensures.octets
    (λ x k. takes_more c.args.policy.now.run.limit x _ (source_takes c.in-Err.fault c.args.policy.now.run.limit x _ (rw c.limit.ensures.value at k)))

pub returns-in-Err-clause-few : goal.returns-in-Err-clause-few
returns-in-Err-clause-few g c =
    IfSome_then (g.R.Source.remaining c.args.source.now) c.in-Err.ensures.octets
    (λ x k read. source_takes c.in-Err.fault c.args.policy.now.run.limit x _ (rw c.limit.ensures.value at k))

pub returns-in-Err-clause-fails : goal.returns-in-Err-clause-fails
returns-in-Err-clause-fails g c = source_fails c.in-Err.fault _ _ c.refused.result.verdict c.in-Err.ensures.fault c.refused.ensures.verdict

pub returns-in-Err-clause-some : goal.returns-in-Err-clause-some
returns-in-Err-clause-some g c =
    let v = map (λ b. (goal.Verifier-dyn g (b.vtable, b.value)).meaning b.value) c.args.verifiers.now in
    let q = terms c.args.policy.now c.args.keys.now c.args.now v in
    let w = g.B.Budget.ceiling c.args.budget.now in
    λ read. ([], omega arith, source_report q [] w c.refused.result _ _ c.in-Err.fault c.in-Err.ensures.fault c.refused.ensures.verdict c.refused.ensures.tries read)

pub returns-in-Err-clause-counted : goal.returns-in-Err-clause-counted
returns-in-Err-clause-counted g c = none_counted c.args.policy.now.max_calls c.refused.result.tries.items _ _ c.refused.ensures.tries c.requires.no_octets c.requires.no_calls

pub returns-in-Err-clause-failed : goal.returns-in-Err-clause-failed
returns-in-Err-clause-failed g c = λ failed. nothing_failed c.in-Err.fault _ _ _ _ _ c.in-Err.ensures.fault c.refused.ensures.verdict c.refused.ensures.tries c.refused.ensures.states
