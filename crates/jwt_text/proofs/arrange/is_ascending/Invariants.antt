use Rattle.jwt_text.proofs.NameLemmas.{Ascends}
use Rattle.jwt_text.proofs.arrange.is_ascending.Given as goal

abbrev pub invariant-loop-place : goal.invariant-loop-place
invariant-loop-place l = Ascends l.store l.entries l.place
