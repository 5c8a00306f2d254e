-- What is listed step by step is what is judged, and charged for, in words.
use Rattle.jwt_jws.specs.Views.{token}
use Rattle.jwt_verify.specs.TermsTable.{terms_table, terms_meant}
use Rattle.jwt_verify.proofs.Memory.{takes_of_token, takes_refused, read_words, read_none}
use Rattle.jwt_verify.proofs.Judged.{refused_read}
use Rattle.jwt_verify.proofs.Reporting.{token_listed, refused_listed, listed_judged, listed_charged, none_charged}
use Rattle.jwt_verify.proofs.judging.judge_under.Goals as goal

pub returns-in-Ok-clause-judged : goal.returns-in-Ok-clause-judged
unfolding terms_table
returns-in-Ok-clause-judged g c =
    let q = terms_meant (λ b. (goal.Verifier-dyn g (b.vtable, b.value)).meaning b.value) c.args.terms.now in
    let x = c.args.octets.now in let w = g.B.Budget.ceiling c.args.budget.now in let r = c.report_on.result in
    let t = rw c.in-Ok.is at c.read_with.ensures.value in
    let listed = token_listed q x w (token c.in-Ok.signed) r t c.report_on.ensures.verdict c.report_on.ensures.tries c.report_on.ensures.front in
    listed_judged c.reports_in_words.ensures.listed q x w r listed c.report_on.ensures.read (λ wants. takes_of_token c.signed_tokens.ensures q x (token c.in-Ok.signed) t)

pub returns-in-Ok-clause-charged : goal.returns-in-Ok-clause-charged
unfolding terms_table
returns-in-Ok-clause-charged g c =
    let q = terms_meant (λ b. (goal.Verifier-dyn g (b.vtable, b.value)).meaning b.value) c.args.terms.now in
    let x = c.args.octets.now in let w = g.B.Budget.ceiling c.args.budget.now in let r = c.report_on.result in
    let t = rw c.in-Ok.is at c.read_with.ensures.value in
    let listed = token_listed q x w (token c.in-Ok.signed) r t c.report_on.ensures.verdict c.report_on.ensures.tries c.report_on.ensures.front in
    listed_charged c.reports_in_words.ensures.listed q x w r listed _ _ c.report_on.ensures.octets c.report_on.ensures.calls

pub returns-in-Ok-clause-token : goal.returns-in-Ok-clause-token
returns-in-Ok-clause-token g c =
    let q = terms_meant (λ b. (goal.Verifier-dyn g (b.vtable, b.value)).meaning b.value) c.args.terms.now in
    let t = rw c.in-Ok.is at c.read_with.ensures.value in
    read_words c.signed_tokens.ensures q c.args.octets.now (token c.in-Ok.signed) t

pub returns-in-Err-clause-judged : goal.returns-in-Err-clause-judged
returns-in-Err-clause-judged g c =
    let q = terms_meant (λ b. (goal.Verifier-dyn g (b.vtable, b.value)).meaning b.value) c.args.terms.now in
    let x = c.args.octets.now in let w = g.B.Budget.ceiling c.args.budget.now in let f = c.in-Err.fault in let said = c.refused in
    let e = rw c.in-Err.is at c.read_with.ensures.value in
    let listed = refused_listed q x w f said.result e said.ensures.verdict said.ensures.tries said.ensures.states in
    listed_judged c.reports_in_words.ensures.listed q x w said.result listed (rw said.ensures.verdict (refused_read q x f e))
    (takes_refused c.args.terms.now.policy.now x c.read_with.result f said.result.verdict c.read_with.ensures.memory c.in-Err.is said.ensures.verdict)

pub returns-in-Err-clause-charged : goal.returns-in-Err-clause-charged
returns-in-Err-clause-charged g c = none_charged _ _ c.refused.result.tries.items _ _ c.refused.ensures.tries c.requires.no_octets c.requires.no_calls

pub returns-in-Err-clause-token : goal.returns-in-Err-clause-token
returns-in-Err-clause-token g c =
    let q = terms_meant (λ b. (goal.Verifier-dyn g (b.vtable, b.value)).meaning b.value) c.args.terms.now in
    let e = rw c.in-Err.is at c.read_with.ensures.value in
    read_none c.signed_tokens.ensures q c.args.octets.now c.in-Err.fault c.refused.result.verdict e c.refused.ensures.verdict
