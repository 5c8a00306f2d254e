use Rattle.std.proofs.Common.{Option, subst, refl}
use Rattle.jwt_possession.specs.declared.binding.BindingFault.{BindingFault}
use Rattle.jwt_service.specs.Admission.{subject_of}
use Rattle.jwt_service.specs.Unshown.{HasUnshown}
use Rattle.jwt_service.proofs.Steps.{accepted_of, granted, expected, proves, bound}
use Rattle.jwt_service.proofs.admitting.decided.Goals as goal

pub returns-in-Some : goal.returns-in-Some
returns-in-Some g c = (subject_of c.in-Ok.accepted, refl, (accepted_of c.requires.accepted c.in-Ok.is), (c.args.rule, c.requires.rule, c.in-Some.ensures))

pub returns-in-Some-unmet : goal.returns-in-Some-unmet
returns-in-Some-unmet g c =
    let grants = granted (accepted_of c.requires.accepted c.in-Ok.is) (c.args.rule, c.requires.rule, c.in-None.ensures) in
    (subject_of c.in-Ok.accepted, refl, grants, c.in-Some-unmet.ensures)

pub returns-in-Err-held : goal.returns-in-Err-held
returns-in-Err-held g c =
    let grants = granted (accepted_of c.requires.accepted c.in-Ok.is) (c.args.rule, c.requires.rule, c.in-None.ensures) in
    (subject_of c.in-Ok.accepted, expected grants c.in-None-unmet.ensures, c.in-Err-held.ensures)

pub returns-in-Ok-Some : goal.returns-in-Ok-Some
returns-in-Ok-Some g c =
    let it = subject_of c.in-Ok.accepted in
    let grants = granted (accepted_of c.requires.accepted c.in-Ok.is) (c.args.rule, c.requires.rule, c.in-None.ensures) in
    let holds = proves (expected grants c.in-None-unmet.ensures) c.in-Ok-held.ensures in
    let unshown = subst (λ (o : Option BindingFault). HasUnshown c.args.service.now c.args.call.now it.claims c.in-Ok-held.possession o) c.in-Ok-Some.field-0-is c.in-Ok-Some.ensures in
    (it, c.in-Ok-held.possession, refl, holds, unshown)

pub returns-in-Err-token_entry : goal.returns-in-Err-token_entry
returns-in-Err-token_entry g c =
    let it = subject_of c.in-Ok.accepted in
    let grants = granted (accepted_of c.requires.accepted c.in-Ok.is) (c.args.rule, c.requires.rule, c.in-None.ensures) in
    let holds = proves (expected grants c.in-None-unmet.ensures) c.in-Ok-held.ensures in
    let shown = subst (λ (o : Option BindingFault). HasUnshown c.args.service.now c.args.call.now it.claims c.in-Ok-held.possession o) c.in-Ok-None.field-0-is c.in-Ok-None.ensures in
    (it, c.in-Ok-held.possession, refl, bound holds shown, c.in-Err-token_entry.ensures)

pub returns : goal.returns
returns g c =
    let it = subject_of c.in-Ok.accepted in
    let grants = granted (accepted_of c.requires.accepted c.in-Ok.is) (c.args.rule, c.requires.rule, c.in-None.ensures) in
    let holds = proves (expected grants c.in-None-unmet.ensures) c.in-Ok-held.ensures in
    let shown = subst (λ (o : Option BindingFault). HasUnshown c.args.service.now c.args.call.now it.claims c.in-Ok-held.possession o) c.in-Ok-None.field-0-is c.in-Ok-None.ensures in
    record { token = it.token; alg = it.alg; possession = c.in-Ok-held.possession; before = bound holds shown; proof_entry = c.proof_entry.ensures; token_entry = c.in-Ok-token_entry.ensures }
