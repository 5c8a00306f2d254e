use Rattle.std.proofs.Common.{◌≡◌, ◌≤◌, ◌-◌, ◌++◌, replicate, length}
use Rattle.jwt_verify.specs.declared.report.SigState.TheVariants.{NotReached}
use Rattle.jwt_verify.proofs.tries.fill.Given as goal

abbrev pub invariant-loop : goal.invariant-loop
invariant-loop l = record {
  listed : l.states.items ≡ l.initial.states.items ++ replicate (l.counter - length l.initial.states.items) NotReached;
  started : length l.initial.states.items ≤ l.counter;
}
