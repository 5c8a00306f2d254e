use Rattle.std.proofs.Common.{◌≡◌, ◌++◌, map, drop}
use Rattle.jwt_keys.specs.KeySets.{key_set}
use Rattle.jwt_advice.specs.Findings.{counted}
use Rattle.jwt_advice.proofs.findings.algs_counted.Given as goal

abbrev pub invariant-loop-alg : goal.invariant-loop-alg
invariant-loop-alg g l =
    l.list.items ++ map (counted (map (λ b. (goal.Verifier-dyn g (b.vtable, b.value)).meaning b.value) l.verifiers) (key_set l.keys).keys) (drop l.alg-index l.algs)
    ≡ map (counted (map (λ b. (goal.Verifier-dyn g (b.vtable, b.value)).meaning b.value) l.verifiers) (key_set l.keys).keys) l.policy.run.algs
