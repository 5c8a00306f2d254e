use Rattle.jwt_text.proofs.Seen.{Others}
use Rattle.jwt_text.proofs.lookup.member_near.Given as goal

abbrev pub invariant-loop-entry : goal.invariant-loop-entry
invariant-loop-entry l = Others l.name l.store l.entries l.entry-index
