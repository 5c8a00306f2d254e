use Rattle.std.proofs.Common.{◌≡◌, ◌≤◌, ◌+◌}
use Rattle.jwt_rsa.specs.Held.{prepared_number, room}
use Rattle.jwt_built_in.specs.Held.{curve_keys_in}
use Rattle.jwt_built_in.proofs.prepared.Prepared.of.Given as goal

-- what is prepared and what there is room for make `most` at the most
abbrev pub invariant-loop-key : goal.invariant-loop-key
invariant-loop-key l = (curve_keys_in l.prepared + l.left ≤ l.fn.most) × (prepared_number l.prepared.rsa + room l.prepared.rsa ≡ l.fn.most)
