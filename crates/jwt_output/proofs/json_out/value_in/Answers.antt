use Rattle.std.proofs.Common.{◌∙◌, ap, sym, Err}
use Rattle.jwt_output.proofs.JsonLemmas.{null_seen, value_is, value_none}
use Rattle.jwt_output.proofs.json_out.value_in.Goals as goal

pub returns-in-Ok-clause-value : goal.returns-in-Ok-clause-value
returns-in-Ok-clause-value c = sym (value_is c.args.text.now _ c.in-Ok.ensures.ok.0 c.in-Ok.ensures.ok.1)

pub returns-in-Err-Invalid-clause-value : goal.returns-in-Err-Invalid-clause-value
returns-in-Err-Invalid-clause-value c = null_seen ∙ sym (value_none c.args.text.now (λ utf8. c.from_slice.ensures.invalid (c.in-Err-Invalid.is ∙ ap Err c.in-Err-Invalid.field-0-is) utf8))
