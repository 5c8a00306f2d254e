use Rattle.std.proofs.Common.{◌≡◌, ◌++◌, drop, map}
use Rattle.jwt_output.specs.fields.Fields.{field_view, json_member}
use Rattle.jwt_output.specs.JsonTokens.{named_tokens}
use Rattle.jwt_output.proofs.fields.object.put_fields.Given as goal

abbrev pub invariant-loop-field : goal.invariant-loop-field
invariant-loop-field l = l.out ++ named_tokens (map json_member (map field_view (drop l.field-index l.fields))) ≡ l.initial.out ++ named_tokens (map json_member (map field_view l.fields))
