use Rattle.std.proofs.Common.{◌≡◌, drop, map, string_bytes}
use Rattle.jwt_policy.specs.Texts.{any_text, is_among}
use Rattle.jwt_policy.proofs.checks.any_among.Given as goal

abbrev pub invariant-loop-place : goal.invariant-loop-place
invariant-loop-place l = any_text (is_among (map string_bytes l.texts)) (drop l.place l.list) ≡ any_text (is_among (map string_bytes l.texts)) l.list
