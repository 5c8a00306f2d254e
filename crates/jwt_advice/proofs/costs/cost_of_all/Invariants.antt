use Rattle.std.proofs.Common.{◌≡◌, ◌+◌, ◌*◌, ◌≤◌, map, drop, None}
use Rattle.jwt_keys.specs.KeySets.{key_set}
use Rattle.jwt_advice.specs.Costs.{signature_cost}
use Rattle.jwt_advice.proofs.costs.cost_of_all.Given as goal

-- those added, with those of the rest, are all
abbrev pub invariant-loop-j : goal.invariant-loop-j
invariant-loop-j g l = record {
  added : l.sum + signature_cost l.counted.cost l.counted.policy.now (map (λ b. (goal.Verifier-dyn g (b.vtable, b.value)).meaning b.value) l.counted.verifiers.now) (drop l.j (key_set l.counted.keys.now).keys) None l.alg
      ≡ signature_cost l.counted.cost l.counted.policy.now (map (λ b. (goal.Verifier-dyn g (b.vtable, b.value)).meaning b.value) l.counted.verifiers.now) (key_set l.counted.keys.now).keys None l.alg;
  few : l.sum ≤ l.j * 1052992;
}
