use Rattle.std.proofs.Common.{[], ◌∷◌, ◌<◌, length, map, arith}
use Rattle.std.proofs.lemmas.List.{map-append}
use Rattle.jwt_advice.specs.Findings.{findings_view}
use Rattle.jwt_document.specs.Meanings.{meaning}
use Rattle.jwt_command.specs.Services.{found_from}
use Rattle.jwt_command.proofs.ServiceLemmas.{found_more}
use Rattle.jwt_command.proofs.service.found_in.Goals as goal

pub loop-number-preserved : goal.loop-number-preserved
loop-number-preserved g c =
    let vs = map (λ b. (goal.Verifier-dyn g (b.vtable, b.value)).meaning b.value) c.args.verifiers.now in
    let lt : c.loop-number.number < length c.issuers-issuers.result.now = omega arith in
    rw (c.in_ok-push.ensures.items, map-append findings_view c.loop-number.found.items (c.in_ok-one.one ∷ [])) (found_more vs c.args.document.now (found_from vs c.args.document.now 0 (meaning c.args.document.now).issuers) c.issuers-issuers.result.now c.loop-number.number c.index-issuers-number.result (map findings_view c.loop-number.found.items) (findings_view c.in_ok-one.one) lt c.loop-number.invariant (rw c.index-issuers-number.is at c.in_ok-one.ensures))
