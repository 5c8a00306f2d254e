use Rattle.jwt_jws.proofs.FaultLaws.{form_fault}
use Rattle.jwt_jws.proofs.CauseLaws.{cause_fault}
use Rattle.jwt_jws.proofs.laws.form_faults.Goals as goal

pub returns : goal.returns
returns c =
    let spells = c.octets_are_spelled.ensures.answer in
    let texts = c.object_texts.ensures in
    λ most z fault. (form_fault spells texts.object texts.name_twice most z fault, cause_fault spells texts.object texts.name_twice most z fault)
