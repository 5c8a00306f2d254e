use Rattle.jwt_service.proofs.Asked.{ExpectsBefore}
use Rattle.jwt_service.proofs.asking.unasked.Given as goal

abbrev pub invariant-loop-place : goal.invariant-loop-place
invariant-loop-place l = ExpectsBefore l.call l.names l.place
