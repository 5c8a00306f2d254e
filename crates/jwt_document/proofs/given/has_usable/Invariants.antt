use Rattle.std.proofs.Common.{◌≡◌, drop}
use Rattle.jwt_keys.specs.KeySets.{key_set}
use Rattle.jwt_document.specs.Given.{has_usable}
use Rattle.jwt_document.proofs.given.has_usable.Given as goal

abbrev pub invariant-loop-number : goal.invariant-loop-number
invariant-loop-number l = has_usable l.algs (drop l.number (key_set l.keys).keys) ≡ has_usable l.algs (key_set l.keys).keys
