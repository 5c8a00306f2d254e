use Rattle.std.proofs.Common.{◌≡◌, drop, map}
use Rattle.ecdsa.specs.Held.{held_key, is_held}
use Rattle.ecdsa.proofs.prepared.is_held.Given as goal

-- it is among the rest where it is among all
abbrev pub invariant-keys : goal.invariant-keys
invariant-keys g l = is_held l.x l.y (map held_key (drop l.key-index l.keys)) ≡ is_held l.x l.y (map held_key l.keys)
