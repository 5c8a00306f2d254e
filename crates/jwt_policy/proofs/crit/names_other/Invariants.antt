use Rattle.std.proofs.Common.{◌≡◌, drop, not, map, string_bytes}
use Rattle.jwt_policy.specs.Texts.{any_text, is_among}
use Rattle.jwt_policy.proofs.crit.names_other.Given as goal

abbrev pub invariant-loop-place : goal.invariant-loop-place
invariant-loop-place l = any_text (λ t. not (is_among (map string_bytes l.texts) t)) (drop l.place l.list) ≡ any_text (λ t. not (is_among (map string_bytes l.texts) t)) l.list
