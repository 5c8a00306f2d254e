-- What is listed step by step of the token is what is said of its octets in words.
use Rattle.std.proofs.Common.{map, w64}
use Rattle.std.proofs.lemmas.Int.{to_z-of_z}
use Rattle.jwt_jws.specs.Views.{token}
use Rattle.jwt_verify.specs.TermsTable.{terms_table}
use Rattle.jwt_verify.specs.Reports.{terms}
use Rattle.jwt_verify.proofs.Reporting.{token_listed, front_counted, listed_charged}
use Rattle.jwt_verify.proofs.judging.judge_token.Goals as goal

pub returns-clause-report : goal.returns-clause-report
unfolding terms_table
returns-clause-report g c = λ x is.
    let v = map (λ b. (goal.Verifier-dyn g (b.vtable, b.value)).meaning b.value) c.args.verifiers.now in
    let q = terms c.args.policy.now c.args.keys.now c.args.now v in
    let w = g.B.Budget.ceiling c.args.budget.now in let r = c.report_on.result in
    let z = to_z-of_z w64 c.args.now c.ranges.now in
    let t = (c.tells_tokens.ensures.token c.args.policy.now x (token c.args.signed.now)).1 is in
    let listed = token_listed q x w (token c.args.signed.now) r t (rw z at c.report_on.ensures.verdict) c.report_on.ensures.tries c.report_on.ensures.front in
    (c.reports_in_words.ensures.listed q x w r listed).0

pub returns-clause-charged : goal.returns-clause-charged
unfolding terms_table
returns-clause-charged g c = λ x is.
    let v = map (λ b. (goal.Verifier-dyn g (b.vtable, b.value)).meaning b.value) c.args.verifiers.now in
    let q = terms c.args.policy.now c.args.keys.now c.args.now v in
    let w = g.B.Budget.ceiling c.args.budget.now in let r = c.report_on.result in
    let z = to_z-of_z w64 c.args.now c.ranges.now in
    let t = (c.tells_tokens.ensures.token c.args.policy.now x (token c.args.signed.now)).1 is in
    let listed = token_listed q x w (token c.args.signed.now) r t (rw z at c.report_on.ensures.verdict) c.report_on.ensures.tries c.report_on.ensures.front in
    listed_charged c.reports_in_words.ensures.listed q x w r listed _ _ c.report_on.ensures.octets c.report_on.ensures.calls

pub returns-clause-counted : goal.returns-clause-counted
returns-clause-counted g c =
    let f = c.report_on.ensures.front in
    front_counted _ (g.B.Budget.ceiling c.args.budget.now) c.args.policy.now.max_calls c.report_on.result.tries.items f.0 f.1 _ _ c.report_on.ensures.octets c.report_on.ensures.calls
