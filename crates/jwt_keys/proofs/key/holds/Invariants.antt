use Rattle.std.proofs.Common.{◌≡◌, drop}
use Rattle.std.specs.Prelude.{map, string_bytes}
use Rattle.std.specs.List.{list_any}
use Rattle.std.specs.Str.{bytes_eq}
use Rattle.jwt_keys.proofs.key.holds.Given as goal

abbrev pub invariant-loop-text : goal.invariant-loop-text
invariant-loop-text l =
    list_any (λ o. bytes_eq o l.op) (map string_bytes (drop l.text-index l.text-items)) ≡ list_any (λ o. bytes_eq o l.op) (map string_bytes l.text-items)
