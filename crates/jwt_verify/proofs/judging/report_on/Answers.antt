use Rattle.jwt_jws.specs.Views.{token}
use Rattle.jwt_verify.specs.TermsTable.{terms_table, terms_meant}
use Rattle.jwt_verify.specs.SignatureOutcome.{signing_view}
use Rattle.jwt_verify.proofs.Judged.{run_says, run_whole, run_read, whole_none, read_none}
use Rattle.jwt_verify.proofs.judging.report_on.Goals.{in-Ok, in-Err}
use Rattle.jwt_verify.proofs.judging.report_on.Goals as goal

pub returns-clause-verdict : goal.returns-clause-verdict
unfolding terms_table
returns-clause-verdict g c =
    let q = terms_meant (λ b. (goal.Verifier-dyn g (b.vtable, b.value)).meaning b.value) c.args.terms.now in
    elim c.match-run.branch [
      | in-Ok w ↦ run_says q (g.B.Budget.ceiling c.args.budget.now) (token c.args.signed.now) c.run.new.tries.items c.run.new.states.items w.in-Ok.outcome.end w.in-Ok.outcome.signing c.match-run.verdict w.in-Ok.ensures.run w.in-Ok.ensures.signing
          (rw (w.verdict-is, ← w.payload.ensures) w.verdict_after-verdict.ensures)
      | in-Err w ↦ (λ found. absurd (rw w.verdict-is at found))
    ]

pub returns-clause-tries : goal.returns-clause-tries
returns-clause-tries g c =
    let t = terms_table (λ b. (goal.Verifier-dyn g (b.vtable, b.value)).meaning b.value) c.args.terms.now c.args.signed.now in
    let p = c.args.terms.now.policy.now in
    elim c.match-run.branch [
      | in-Ok w ↦ run_whole t (g.B.Budget.ceiling c.args.budget.now) p.max_calls c.run.new.tries.items c.run.new.states.items w.in-Ok.outcome.end p c.args.terms.now.moment (token c.args.signed.now).payload
          (signing_view w.in-Ok.outcome.signing) c.match-run.verdict w.in-Ok.ensures.run (rw (w.verdict-is, ← w.payload.ensures) w.verdict_after-verdict.ensures)
      | in-Err w ↦ whole_none t (g.B.Budget.ceiling c.args.budget.now) p.max_calls c.run.new.tries.items c.run.new.states.items c.match-run.verdict w.verdict-is
    ]

pub returns-clause-read : goal.returns-clause-read
returns-clause-read g c =
    elim c.match-run.branch [
      | in-Ok w ↦ run_read w.in-Ok.outcome.end c.args.terms.now.policy.now c.args.terms.now.moment (token c.args.signed.now).payload (signing_view w.in-Ok.outcome.signing) c.match-run.verdict
          (rw (w.verdict-is, ← w.payload.ensures) w.verdict_after-verdict.ensures)
      | in-Err w ↦ read_none c.match-run.verdict w.verdict-is
    ]
