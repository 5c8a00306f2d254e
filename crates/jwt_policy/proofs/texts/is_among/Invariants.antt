use Rattle.std.proofs.Common.{◌≡◌, map, string_bytes, drop}
use Rattle.jwt_policy.specs.Texts.{is_among}
use Rattle.jwt_policy.proofs.texts.is_among.Given as goal

abbrev pub invariant-loop-each : goal.invariant-loop-each
invariant-loop-each l = is_among (map string_bytes (drop l.each-index l.texts)) l.text ≡ is_among (map string_bytes l.texts) l.text
