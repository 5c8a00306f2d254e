use Rattle.std.proofs.Common.{◌≡◌, map, take}
use Rattle.jwt_keys.specs.KeySets.{key_set}
use Rattle.jwt_issue.specs.Views.{pair_parts}
use Rattle.jwt_issue.specs.Issued.{signing_pair}
use Rattle.jwt_issue.proofs.options.pairs.Given as goal

abbrev pub invariant-keys : goal.invariant-keys
invariant-keys l = map pair_parts l.pairs.items ≡ map (signing_pair l.alg) (take l.j (key_set l.keys).keys)
