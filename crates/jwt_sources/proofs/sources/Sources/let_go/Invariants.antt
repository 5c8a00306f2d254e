use Rattle.jwt_sources.specs.Changes.{IsLetGo}
use Rattle.jwt_sources.proofs.Each.{AreChanged}
use Rattle.jwt_sources.proofs.sources.Sources.let_go.Given as goal

abbrev pub invariant-loop-at : goal.invariant-loop-at
invariant-loop-at g l = AreChanged l.at l.initial.self l.self (λ one other. IsLetGo one l.now other)
