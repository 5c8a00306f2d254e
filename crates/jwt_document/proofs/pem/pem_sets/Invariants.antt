use Rattle.std.proofs.Common.{take, map, option_map}
use Rattle.jwt_keys.specs.KeySets.{key_set}
use Rattle.jwt_document.specs.Pem.{AreOf}
use Rattle.jwt_document.proofs.pem.pem_sets.Given as goal

abbrev pub invariant-loop-number : goal.invariant-loop-number
invariant-loop-number l = AreOf l.members 0 (take l.number l.issuers) (map (option_map key_set) l.sets.items)
