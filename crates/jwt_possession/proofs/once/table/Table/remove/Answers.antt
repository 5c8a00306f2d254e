use Rattle.std.proofs.Common.{None, sym}
use Rattle.jwt_possession.proofs.Queue.{others, named, told, less_queued, less_named}
use Rattle.jwt_possession.proofs.Numbers.{less}
use Rattle.jwt_possession.proofs.once.table.Table.remove.Goals as goal

pub invariant_of-self-2 : goal.invariant_of-self-2
invariant_of-self-2 c =
    let m = c.args.self.now.held in
    let n = c.remove.new.self in
    let t = c.args.self.now.turns in
    let s = c.remove-2.new.self in
    record {
      queued = less_queued m n t s c.args.mark.now c.in_ok-its.its c.remove.ensures.updates.0 c.remove-2.ensures.updates.0 c.args.self.now.queued;
      named = told n s (less_named m n t s c.args.mark.now c.in_ok-its.its c.remove.ensures.updates.0 c.remove-2.ensures.updates.0 (sym c.in_ok-its.ensures.value) (named m t c.args.self.now.named));
      ordered = c.remove.ensures.ordered;
    }

pub returns-clause-others : goal.returns-clause-others
returns-clause-others c = others c.args.self.now.held c.remove.new.self c.args.mark.now None c.remove.ensures.updates.0

pub returns-clause-numbers : goal.returns-clause-numbers
returns-clause-numbers c = less c.args.self.now.held c.remove.new.self c.args.mark.now c.in_ok-its.its c.remove.ensures.entries (sym c.in_ok-its.ensures.value)
