use Rattle.std.proofs.Common.{◌∙◌, sym}
use Rattle.jwt_service.proofs.Bound.{told_first, told_last}
use Rattle.jwt_service.proofs.unshown.unshown.Goals as goal

pub returns-in-Ok-None : goal.returns-in-Ok-None
returns-in-Ok-None c =
    told_last c.args.service.now c.args.call.now c.args.claims.now c.args.possession.now c.shown_by-shown.result c.unbound.result c.shown_by-shown.ensures
    (sym c.in-Ok-None.field-0-is ∙ c.in-Ok-None.ensures) c.unbound.ensures

pub returns-in-Ok-Some : goal.returns-in-Ok-Some
returns-in-Ok-Some c =
    told_first c.args.service.now c.args.call.now c.args.claims.now c.args.possession.now c.shown_by-shown.result c.in-Ok-Some.fault c.shown_by-shown.ensures
    (sym c.in-Ok-Some.field-0-is ∙ c.in-Ok-Some.ensures)
