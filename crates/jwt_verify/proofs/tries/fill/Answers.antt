use Rattle.std.proofs.Common.{◌≡◌, refl, ◌+◌, ◌-◌, ◌≤◌, arith, length, append_assoc}
use Rattle.std.proofs.lemmas.List.{replicate_more}
use Rattle.jwt_verify.proofs.tries.fill.Goals as goal

pub loop-preserved : goal.loop-preserved
loop-preserved c =
    let n = length c.args.states.now.items in
    let started : n ≤ c.loop.counter = c.loop.invariant.started in
    let e : c.loop.counter + 1 - n ≡ (c.loop.counter - n) + 1 = omega arith in
    record {
      listed = rw (c.in_ok-push.ensures.items, c.loop.invariant.listed, e, append_assoc, replicate_more) refl;
      started = omega arith;
    }
