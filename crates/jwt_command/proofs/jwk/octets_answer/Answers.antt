use Rattle.std.proofs.Common.{inr, arith}
use Rattle.std.proofs.lemmas.Result.{IfOk-weaker}
use Rattle.jwt_words.specs.Seen.{jwk_view}
use Rattle.jwt_output.specs.Views.{reply_view}
use Rattle.jwt_command.specs.Jwk.{JwkOfOctets}
use Rattle.jwt_command.proofs.jwk.octets_answer.Goals as goal

pub returns-else-octets-clause-answer : goal.returns-else-octets-clause-answer
returns-else-octets-clause-answer c =
    IfOk-weaker c.refused_jwk.result _ (λ a. JwkOfOctets (jwk_view c.args.order) c.args.octets.now (reply_view a))
    (λ a is. inr (omega (arith, c.if-octets.false), is)) c.refused_jwk.ensures
