use Rattle.std.proofs.Common.{◌≡◌, ◌+◌, ◌-◌, ◌*◌, ◌≤◌, map, length, drop, Some}
use Rattle.jwt_keys.specs.KeySets.{key_set}
use Rattle.jwt_advice.specs.Costs.{signature_cost}
use Rattle.jwt_advice.proofs.costs.cost_by_name.Given as goal

-- those added, with those of the rest, are all
abbrev pub invariant-named : goal.invariant-named
invariant-named g l = record {
  added : l.sum + signature_cost l.counted.cost l.counted.policy.now (map (λ b. (goal.Verifier-dyn g (b.vtable, b.value)).meaning b.value) l.counted.verifiers.now) (drop l.start (key_set l.counted.keys.now).keys) (Some l.name) l.alg
      ≡ signature_cost l.counted.cost l.counted.policy.now (map (λ b. (goal.Verifier-dyn g (b.vtable, b.value)).meaning b.value) l.counted.verifiers.now) (key_set l.counted.keys.now).keys (Some l.name) l.alg;
  few : l.sum ≤ l.start * 1052992;
  within : l.start ≤ length (key_set l.counted.keys.now).keys;
}

abbrev pub decreases-named : goal.decreases-named
decreases-named g l = length (key_set l.counted.keys.now).keys - l.start
