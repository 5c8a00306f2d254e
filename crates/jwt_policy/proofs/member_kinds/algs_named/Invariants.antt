use Rattle.std.proofs.Common.{◌≡◌, ◌≤◌, drop, length, map, string_bytes}
use Rattle.jwt_mac.specs.Algorithm.{alg_named}
use Rattle.jwt_policy.specs.MemberKinds.{all_some}
use Rattle.jwt_policy.proofs.AllSome.{joined}
use Rattle.jwt_policy.proofs.member_kinds.algs_named.Given as goal

abbrev pub invariant-loop-each : goal.invariant-loop-each
invariant-loop-each l = record {
  values : joined l.algs.items (all_some alg_named (map string_bytes (drop l.each-index l.texts))) ≡ all_some alg_named (map string_bytes l.texts);
  count : l.each-index ≤ length l.algs.items;
}
