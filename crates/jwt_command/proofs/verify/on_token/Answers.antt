use Rattle.std.proofs.Common.{◌∙◌, ap, option_map}
use Rattle.std.proofs.lemmas.Option.{IfSome_then}
use Rattle.jwt_verify.specs.TermsTable.{terms_meant}
use Rattle.jwt_output.specs.Views.{reply_view}
use Rattle.jwt_settings.specs.Seen.{expectation_view}
use Rattle.jwt_command.specs.Views.{rule_view}
use Rattle.jwt_command.proofs.Refusing.{token_taken}
use Rattle.jwt_command.proofs.verify.on_token.Goals as goal

pub returns-clause-line : goal.returns-clause-line
returns-clause-line g c =
    let q = terms_meant (λ b. (goal.Verifier-dyn g (b.vtable, b.value)).meaning b.value) c.args.terms.now in
    let read = rw c.in-Some.is at c.in_ok-token.ensures.read in
    let works = rw c.in-Some.is at c.in_ok-token.ensures.works in
    IfSome_then (g.R.Source.remaining c.args.r.now) read
    (λ x taken. token_taken c.args.telling.now.printing (option_map expectation_view c.args.telling.now.expected) (rule_view c.args.telling.now.rule) q x c.octets.result.now c.limit.result _ (reply_view c.on.result.reply) c.limit.ensures.value (c.octets.ensures.value ∙ taken) works
    (ap reply_view c.on.ensures.reply ∙ c.in_ok-told.ensures.line))
