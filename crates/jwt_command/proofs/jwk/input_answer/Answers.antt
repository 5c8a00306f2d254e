use Rattle.std.proofs.Common.{Bool, false, IfOk, inr, sym, subst}
use Rattle.std.proofs.lemmas.Option.{IfSome_then}
use Rattle.std.proofs.lemmas.Result.{IfOk-weaker}
use Rattle.jwt_words.specs.Seen.{jwk_view}
use Rattle.jwt_output.specs.Views.{reply_view}
use Rattle.jwt_command.specs.Jwk.{JwkOfInput}
use Rattle.jwt_command.proofs.jwk.input_answer.Goals as goal

pub returns-in-Err-TooLong-clause-answer : goal.returns-in-Err-TooLong-clause-answer
returns-in-Err-TooLong-clause-answer g c =
    IfSome_then (g.R.Source.remaining c.args.r.now) c.in-Err-TooLong.ensures.input
    (λ x h. let long = rw c.in-Err-TooLong.field-0-is at h in
    subst (λ (failed : Bool). IfOk c.refused_jwk.result (λ a. JwkOfInput (jwk_view c.args.order) failed x (reply_view a))) (sym long.0)
    (IfOk-weaker c.refused_jwk.result _ (λ a. JwkOfInput (jwk_view c.args.order) false x (reply_view a)) (λ a is. inr (long.1, is)) c.refused_jwk.ensures))
