use Rattle.std.proofs.Common.{◌≡◌, drop}
use Rattle.std.specs.List.{list_any}
use Rattle.jwt_keys.specs.Views.{key_parts}
use Rattle.jwt_policy.specs.Eligible.{is_for}
use Rattle.jwt_document.proofs.given.is_for_some.Given as goal

abbrev pub invariant-loop-alg : goal.invariant-loop-alg
invariant-loop-alg l = list_any (is_for (key_parts l.key)) (drop l.alg-index l.algs) ≡ list_any (is_for (key_parts l.key)) l.algs
