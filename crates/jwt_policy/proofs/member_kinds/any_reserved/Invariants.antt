use Rattle.std.proofs.Common.{◌≡◌, drop, map, string_bytes}
use Rattle.std.specs.List.{list_any}
use Rattle.jwt_policy.specs.MemberKinds.{is_reserved}
use Rattle.jwt_policy.proofs.member_kinds.any_reserved.Given as goal

abbrev pub invariant-loop-each : goal.invariant-loop-each
invariant-loop-each l = list_any is_reserved (map string_bytes (drop l.each-index l.texts)) ≡ list_any is_reserved (map string_bytes l.texts)
