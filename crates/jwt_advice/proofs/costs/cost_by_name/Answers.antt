use Rattle.std.proofs.Common.{◌<◌, ◌-◌, length, map, Some, arith}
use Rattle.jwt_keys.specs.Keys.{has_name}
use Rattle.jwt_keys.specs.KeySets.{key_set}
use Rattle.jwt_advice.specs.Costs.{key_try_cost}
use Rattle.jwt_advice.proofs.Walks.{sum_more}
use Rattle.jwt_advice.proofs.Named.{skipped, none_left, unnamed}
use Rattle.jwt_advice.proofs.Twice.{passes_within}
use Rattle.jwt_advice.proofs.costs.cost_by_name.Goals as goal

pub named-preserved : goal.named-preserved
named-preserved g c =
    let keys = (key_set c.args.counted.now.keys.now).keys in
    let verifiers = map (λ b. (goal.Verifier-dyn g (b.vtable, b.value)).meaning b.value) c.args.counted.now.verifiers.now in
    let cost = key_try_cost c.args.counted.now.cost c.args.counted.now.policy.now verifiers (Some c.args.name.now) c.args.alg in
    let named = rw c.thumb_kid.ensures at c.in-Some.ensures in
    let within : c.in-Some.j < length keys = passes_within (has_name c.args.name.now c.args.counted.now.policy.now.header.thumb_kid) keys c.in-Some.j named.1 in
    let skip = skipped (has_name c.args.name.now c.args.counted.now.policy.now.header.thumb_kid) cost keys (unnamed c.args.counted.now.cost c.args.counted.now.policy.now verifiers c.args.name.now c.args.alg)
    (c.in-Some.j - c.named.start) c.named.start c.in-Some.j (omega (arith, named.0)) within named.2 in
    let more = sum_more cost keys c.in-Some.j within in
    record {
      added = omega (arith, skip, more, c.cost_at-sum.ensures.value, c.named.invariant.added);
      few = omega (arith, c.cost_at-sum.ensures.bounded, c.named.invariant.few, named.0);
      within = omega (arith, within);
    }

pub returns-clause-value : goal.returns-clause-value
returns-clause-value g c =
    let keys = (key_set c.args.counted.now.keys.now).keys in
    let verifiers = map (λ b. (goal.Verifier-dyn g (b.vtable, b.value)).meaning b.value) c.args.counted.now.verifiers.now in
    let cost = key_try_cost c.args.counted.now.cost c.args.counted.now.policy.now verifiers (Some c.args.name.now) c.args.alg in
    let named = rw (c.thumb_kid.ensures, c.in_default.is) at c.with_kid.ensures in
    let rest = none_left (has_name c.args.name.now c.args.counted.now.policy.now.header.thumb_kid) cost keys (unnamed c.args.counted.now.cost c.args.counted.now.policy.now verifiers c.args.name.now c.args.alg) c.named.start named in
    omega (arith, rest, c.named.invariant.added)
