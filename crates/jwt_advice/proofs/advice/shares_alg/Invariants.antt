use Rattle.std.proofs.Common.{◌≡◌, map, drop}
use Rattle.jwt_keys.specs.KeySets.{key_set}
use Rattle.jwt_advice.specs.Advised.{shares_alg}
use Rattle.jwt_advice.proofs.advice.shares_alg.Given as goal

abbrev pub invariant-loop-alg : goal.invariant-loop-alg
invariant-loop-alg g l = shares_alg (drop l.alg-index l.algs) (map (λ b. (goal.Verifier-dyn g (b.vtable, b.value)).meaning b.value) l.verifiers) (key_set l.keys).keys ≡ shares_alg l.algs (map (λ b. (goal.Verifier-dyn g (b.vtable, b.value)).meaning b.value) l.verifiers) (key_set l.keys).keys
