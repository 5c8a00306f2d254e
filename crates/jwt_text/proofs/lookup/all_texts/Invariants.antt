use Rattle.jwt_text.proofs.LookupLemmas.{AreAll}
use Rattle.jwt_text.proofs.lookup.all_texts.Given as goal

abbrev pub invariant-loop-node : goal.invariant-loop-node
invariant-loop-node l = AreAll l.nodes l.node-index
