use Rattle.std.proofs.Common.{inl, inr, map}
use Rattle.std.proofs.lemmas.Result.{IfOk-weaker}
use Rattle.jwt_output.specs.Views.{reply_view}
use Rattle.jwt_command.specs.Services.{IsServiceAnswer}
use Rattle.jwt_command.proofs.ServiceLemmas.{with_both}
use Rattle.jwt_command.proofs.service.service.Goals as goal

pub returns-in-Ok : goal.returns-in-Ok
returns-in-Ok g c =
    let vs = map (λ b. (goal.Verifier-dyn g (b.vtable, b.value)).meaning b.value) c.args.verifiers.now in
    IfOk-weaker c.asked.result _ (λ a. IsServiceAnswer vs c.args.octets.now (reply_view a.reply)) (λ a status. inl (c.in-Ok.document, c.in-Ok.ensures.ok, status)) c.asked.ensures

pub returns-in-Err : goal.returns-in-Err
returns-in-Err g c = with_both c.refused_service.result c.refused_service.ensures.done c.refused_service.ensures.memory (λ a status other. inr (c.in-Err.fault, c.in-Err.ensures.err other, status))
