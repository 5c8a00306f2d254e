use Rattle.std.proofs.Common.{◌≡◌, ◌+◌}
use Rattle.ecdsa.specs.jws.Held.{prepared_number, room}
use Rattle.ecdsa.proofs.jws.verifier.Ecdsa.prepared.Given as goal

-- what is prepared and what there is room for make `most`
abbrev pub invariant-loop-key : goal.invariant-loop-key
invariant-loop-key l = prepared_number l.verifier + room l.verifier ≡ l.fn.most
