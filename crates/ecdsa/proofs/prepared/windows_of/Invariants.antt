use Rattle.ecdsa.proofs.prepared.windows_of.Given as goal

abbrev pub invariant-keys : goal.invariant-keys
invariant-keys g l = Unit
