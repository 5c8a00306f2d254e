use Rattle.std.proofs.Common.{◌≡◌, map}
use Rattle.std.proofs.lemmas.Result.{IfOk-weaker}
use Rattle.jwt_output.proofs.JsonLemmas.{line_put}
use Rattle.jwt_output.specs.fields.Fields.{field_view, fields_json, json_member}
use Rattle.jwt_output.proofs.fields.object.fields_json.Goals as goal

pub returns : goal.returns
returns c =
    let fs = map field_view c.args.fields.now in
    IfOk-weaker c.line.result _ (λ v. v.items ≡ fields_json fs)
    (λ v is. line_put (map json_member fs) c.in_ok-out.out c.put_fields.new.out c.in_ok-out.ensures c.in_ok-put_fields.ensures v.items is) c.line.ensures
