use Rattle.jwt_sources.specs.Changes.{IsTold}
use Rattle.jwt_sources.proofs.Each.{AreChanged}
use Rattle.jwt_sources.proofs.sources.Sources.tell.Given as goal

abbrev pub invariant-loop-at : goal.invariant-loop-at
invariant-loop-at g l = AreChanged l.at l.initial.self l.self (λ one other. IsTold one l.now other)
