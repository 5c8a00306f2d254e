use Rattle.std.proofs.Common.{◌≡◌, ◌∙◌, ap, ◌++◌, ◌-◌, length, replicate, sym}
use Rattle.jwt_verify.specs.declared.report.SigState.TheVariants.{NotReached}
use Rattle.jwt_verify.specs.TermsTable.{terms_table}
use Rattle.jwt_verify.specs.Table.{states_at}
use Rattle.jwt_verify.specs.Walk.{stopped_at}
use Rattle.jwt_verify.proofs.Pairs.{terms_signatures}
use Rattle.jwt_verify.proofs.Ending.{run_front, run_exact, recorded_filled, end_front}
use Rattle.jwt_verify.proofs.tries.run.Goals as goal

pub fill-requires : goal.fill-requires
fill-requires g c =
    rw (c.count.ensures.count, sym (terms_signatures (λ b. (goal.Verifier-dyn g (b.vtable, b.value)).meaning b.value) c.args.terms.now c.args.signed.now)) c.in_ok-outcome.ensures.states.short

pub returns-in_err-outcome-clause-front : goal.returns-in_err-outcome-clause-front
returns-in_err-outcome-clause-front g c = run_front (terms_table (λ b. (goal.Verifier-dyn g (b.vtable, b.value)).meaning b.value) c.args.terms.now c.args.signed.now) c.walk.ensures.counted c.in_err-outcome.ensures.end

pub returns-in_err-fill-clause-front : goal.returns-in_err-fill-clause-front
returns-in_err-fill-clause-front g c = run_front (terms_table (λ b. (goal.Verifier-dyn g (b.vtable, b.value)).meaning b.value) c.args.terms.now c.args.signed.now) c.walk.ensures.counted (end_front _ _ _ _ _ c.in_ok-outcome.ensures.end)

pub returns-clause-front : goal.returns-clause-front
returns-clause-front g c = run_front (terms_table (λ b. (goal.Verifier-dyn g (b.vtable, b.value)).meaning b.value) c.args.terms.now c.args.signed.now) c.walk.ensures.counted (end_front _ _ _ _ _ c.in_ok-outcome.ensures.end)

pub returns-clause-run : goal.returns-clause-run
returns-clause-run g c =
    let t = terms_table (λ b. (goal.Verifier-dyn g (b.vtable, b.value)).meaning b.value) c.args.terms.now c.args.signed.now in
    let count = c.count.ensures.count ∙ sym (terms_signatures (λ b. (goal.Verifier-dyn g (b.vtable, b.value)).meaning b.value) c.args.terms.now c.args.signed.now) in
    let filled : c.fill.new.states.items ≡ states_at t (stopped_at t c.in_ok-outcome.outcome.end) =
    c.in_ok-fill.ensures ∙ ap (λ n. c.walk.new.states.items ++ replicate (n - length c.walk.new.states.items) NotReached) count ∙ recorded_filled c.in_ok-outcome.ensures.states in
    run_exact t _ _ _ c.args.terms.now.policy.now.max_calls c.walk.new.tries.items c.fill.new.states.items c.in_ok-outcome.outcome.end c.walk.ensures.counted c.in_ok-outcome.ensures.end filled
