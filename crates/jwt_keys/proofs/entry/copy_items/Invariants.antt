use Rattle.std.proofs.Common.{◌≡◌, ◌++◌, drop}
use Rattle.std.specs.Prelude.{map, string_bytes}
use Rattle.jwt_keys.specs.Entries.{text_or_empty}
use Rattle.jwt_keys.proofs.entry.copy_items.Given as goal

abbrev pub invariant-loop-place : goal.invariant-loop-place
invariant-loop-place l = map string_bytes l.copies.items ++ map text_or_empty (drop l.place l.list) ≡ map text_or_empty l.list
