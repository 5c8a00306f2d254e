use Rattle.jwt_text.specs.Members.{has}
use Rattle.jwt_text.proofs.LookupLemmas.{NoneOf}
use Rattle.jwt_text.proofs.lookup.share_name.Given as goal

abbrev pub invariant-loop-entry : goal.invariant-loop-entry
invariant-loop-entry l = NoneOf (λ k. has k l.other) l.store l.entries l.entry-index
