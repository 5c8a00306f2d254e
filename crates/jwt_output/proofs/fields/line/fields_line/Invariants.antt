use Rattle.std.proofs.Common.{◌≡◌, ◌++◌, drop, map}
use Rattle.std.specs.List.{flat_map}
use Rattle.jwt_output.specs.fields.Fields.{field_view, line_part}
use Rattle.jwt_output.proofs.fields.line.fields_line.Given as goal

abbrev pub invariant-loop-field : goal.invariant-loop-field
invariant-loop-field l = l.text.items ++ flat_map line_part (map field_view (drop l.field-index l.fields)) ≡ flat_map line_part (map field_view l.fields)
