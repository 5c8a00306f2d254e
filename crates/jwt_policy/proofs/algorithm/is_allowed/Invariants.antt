use Rattle.std.proofs.Common.{◌≡◌, bytes_eq, drop}
use Rattle.std.specs.List.{list_any}
use Rattle.jwt_mac.specs.Algorithm.{name_of}
use Rattle.jwt_policy.proofs.algorithm.is_allowed.Given as goal

abbrev pub invariant-loop-each : goal.invariant-loop-each
invariant-loop-each l =
    list_any (λ b. bytes_eq (name_of b) (name_of l.alg)) (drop l.each-index l.algs) ≡ list_any (λ b. bytes_eq (name_of b) (name_of l.alg)) l.algs
