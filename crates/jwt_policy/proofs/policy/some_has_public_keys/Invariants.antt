use Rattle.std.proofs.Common.{◌≡◌, drop}
use Rattle.std.specs.List.{list_any}
use Rattle.jwt_policy.specs.Ceilings.{has_public_keys}
use Rattle.jwt_policy.proofs.policy.some_has_public_keys.Given as goal

-- one of the rest is where one of all is
abbrev pub invariant-loop-alg : goal.invariant-loop-alg
invariant-loop-alg l = list_any has_public_keys (drop l.alg-index l.algs) ≡ list_any has_public_keys l.algs
