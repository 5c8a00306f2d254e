use Rattle.std.proofs.Common.{◌≡◌, ◌≤◌, ◌∙◌, ap, subst, ℕ, length, true}
use Rattle.std.proofs.lemmas.Option.{IfSome_then}
use Rattle.jwt_jws.specs.Forms.{form_of}
use Rattle.jwt_verify.specs.Verdict.{without_line_feed}
use Rattle.jwt_output.specs.Printed.{Answer}
use Rattle.jwt_output.specs.Views.{reply_view}
use Rattle.jwt_command.specs.Show.{form_status}
use Rattle.jwt_command.proofs.Refusing.{not_longer, shown_is}
use Rattle.jwt_command.proofs.show.show.Goals as goal

pub returns-clause-answer : goal.returns-clause-answer
returns-clause-answer g c =
    let read = rw c.in-Some.is at c.in_ok-input.ensures.read in
    let works = rw c.in-Some.is at c.in_ok-input.ensures.works in
    let bound : c.in-Some.input.limit ≡ c.args.limit = rw c.in-Some.is at c.in_ok-input.ensures.limit in
    let short : length c.in-Some.input.octets ≤ c.args.limit = subst (λ (n : ℕ). length c.in-Some.input.octets ≤ n) bound (not_longer _ _ _ c.is_too_long.ensures c.if-is_too_long.false) in
    let text = c.without_line_feed.ensures.value ∙ ap (without_line_feed true) c.octets.ensures.value in
    IfSome_then (g.R.Source.remaining c.args.r.now) read
    (λ x taken. shown_is c.args.printing c.args.limit x c.in-Some.input.octets _ (reply_view c.on-2.result.reply) taken short works
    (ap (λ (a : Answer). a.status) (ap reply_view c.on-2.ensures.reply) ∙ c.in_ok-told.ensures.status ∙ ap (λ z. form_status (form_of 32 z)) text))
