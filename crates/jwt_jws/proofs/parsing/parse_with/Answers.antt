use Rattle.std.proofs.Common.{◌≡◌, false, length, Ok, ap, sym, ◌∙◌, subst, ◌==◌}
use Rattle.jwt_text.specs.Answers.{Answers}
use Rattle.jwt_jws.specs.declared.fault.FormFault.TheVariants.{OutOfMemory}
use Rattle.jwt_jws.specs.Views.{token}
use Rattle.jwt_jws.proofs.Each.{json_form}
use Rattle.jwt_jws.proofs.parsing.parse_with.Goals as goal

pub returns-in_ok-object-clause-value : goal.returns-in_ok-object-clause-value
returns-in_ok-object-clause-value c =
    let some : (length c.args.octets.now == 0) ≡ false = sym c.is_empty.ensures ∙ c.if-is_empty.false in
    subst (Answers OutOfMemory token c.object_signed.result)
    (sym (json_form c.args.max_signatures c.args.octets.now c.lend.result some (sym c.opens_object.ensures ∙ c.if-opens_object.true) (c.in_ok-object.ensures ∙ ap Ok (sym c.lend.ensures))))
    c.object_signed.ensures
