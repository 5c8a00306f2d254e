use Rattle.std.proofs.Common.{◌≡◌, ◌+◌}
use Rattle.jwt_ed25519.specs.Room.{prepared_number, room}
use Rattle.jwt_ed25519.proofs.verifier.Ed25519.prepared.Given as goal

-- what is prepared and what there is room for make `most`
abbrev pub invariant-loop-key : goal.invariant-loop-key
invariant-loop-key l = prepared_number l.verifier + room l.verifier ≡ l.fn.most
