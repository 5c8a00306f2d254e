use Rattle.std.proofs.Common.{Result, subst}
use Rattle.jwt_jws.specs.declared.signed.Signed.{Signed}
use Rattle.jwt_verify.specs.Reports.{terms}
use Rattle.jwt_verify.specs.declared.report.Fault.{Fault}
use Rattle.jwt_service.specs.Issuers.{IsReadAs}
use Rattle.jwt_service.proofs.Verdicts.{read_refused}
use Rattle.jwt_service.proofs.accepting.shown_token.Goals as goal

pub returns-in-Ok-read : goal.returns-in-Ok-read
returns-in-Ok-read c = λ v.
    let octets = c.in-Token.token.now in
    let read = subst (λ (r : Result Signed Fault). IsReadAs c.in-Ok.chosen.issuer.policy.now octets r) c.in-Ok-read.is c.in-Ok.ensures.1 in
    ((c.requires, c.in-Token.ensures), c.in-Ok.ensures.0, read, c.in-Ok.ensures.2)

pub returns-in-Err-read : goal.returns-in-Err-read
returns-in-Err-read c = λ v.
    let octets = c.in-Token.token.now in
    let issuer = c.in-Ok.chosen.issuer in
    let reads = subst (λ (r : Result Signed Fault). IsReadAs issuer.policy.now octets r) c.in-Err-read.is c.in-Ok.ensures.1 in (
      octets,
      issuer,
      (c.requires, c.in-Token.ensures),
      c.in-Ok.ensures.0,
      read_refused (terms issuer.policy.now issuer.keys.now c.args.call.now.moment v) octets issuer.policy.now.run.work c.in-Err-read.fault reads,
    )
