use Rattle.std.proofs.Common.{◌≡◌, drop, map, string_bytes}
use Rattle.serde_json.specs.Find.{as_str}
use Rattle.jwt_policy.specs.MemberKinds.{all_some}
use Rattle.jwt_policy.proofs.AllSome.{joined}
use Rattle.jwt_policy.proofs.member_kinds.texts_of.Given as goal

abbrev pub invariant-loop-place : goal.invariant-loop-place
invariant-loop-place l = joined (map string_bytes l.copies.items) (all_some as_str (drop l.place l.list)) ≡ all_some as_str l.list
