use Rattle.std.proofs.Common.{◌≡◌, ◌∙◌, true, false, Option, sym, subst}
use Rattle.jwt_service.specs.declared.issuers.ReadToken.{ReadToken}
use Rattle.jwt_service.specs.Issuers.{IsFirstRead}
use Rattle.jwt_service.proofs.Choices.{chosen_own, chosen_other}
use Rattle.jwt_service.proofs.Tests.{is_so, not_so}
use Rattle.jwt_service.proofs.issuers.chosen.Goals as goal

pub returns-then-fits : goal.returns-then-fits
returns-then-fits c =
    let octets = c.args.token.now in
    let own = c.read_by-own in (
      chosen_own c.args.service.now octets own.result.issuer own.ensures.issuer (is_so c.in-Ok.fits (c.in-Ok.ensures octets own.ensures.read) c.if-fits.true),
      own.ensures.read,
      λ is. own.ensures.issuer,
    )

pub returns-in-Ok-Some : goal.returns-in-Ok-Some
returns-in-Ok-Some c =
    let octets = c.args.token.now in
    let own = c.read_by-own in
    let first = subst (λ (o : Option ReadToken). IsFirstRead c.args.service.now.others.now octets o) c.in-Ok-Some.field-0-is c.in-Ok-Some.ensures in (
      chosen_other c.args.service.now octets own.result.issuer c.in-Ok-Some.other.issuer own.ensures.issuer (not_so c.in-Ok.fits (c.in-Ok.ensures octets own.ensures.read) c.if-fits.false) first.0,
      first.1,
      λ is. let no : false ≡ true = sym first.2 ∙ is in absurd cc,
    )
