use Rattle.std.proofs.Common.{Result, subst}
use Rattle.jwt_verify.specs.declared.report.Fault.{Fault}
use Rattle.jwt_service.specs.declared.judging.Verified.{Verified}
use Rattle.jwt_service.specs.Judged.{IsJudgedAs}
use Rattle.jwt_service.proofs.accepting.accepted_as.Goals as goal

pub returns-in-Ok : goal.returns-in-Ok
returns-in-Ok c = λ service verifiers call shown judged.
    let it = c.args.shown in
    let accepted = subst (λ (r : Result Verified Fault). IsJudgedAs it.issuer verifiers call it.token.now r) c.in-Ok.is judged in
    record { shown = shown.0; chosen = shown.1; accepted = accepted }

pub returns : goal.returns
returns c = λ service verifiers call shown judged.
    let it = c.args.shown in
    let refused = subst (λ (r : Result Verified Fault). IsJudgedAs it.issuer verifiers call it.token.now r) c.in-Err.is judged in
    (it.token.now, it.issuer, shown.0, shown.1, refused)
