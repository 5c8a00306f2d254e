use Rattle.std.proofs.Common.{◌-◌}
use Rattle.jwt_text.proofs.LookupLemmas.{Between}
use Rattle.jwt_text.proofs.lookup.member_far.Given as goal

abbrev pub invariant-halves : goal.invariant-halves
invariant-halves l = Between l.name l.store l.entries l.low l.high

abbrev pub decreases-halves : goal.decreases-halves
decreases-halves l = l.high - l.low
