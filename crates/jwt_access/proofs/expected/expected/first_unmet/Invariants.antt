use Rattle.jwt_access.proofs.Standings.{MetBefore}
use Rattle.jwt_access.proofs.expected.expected.first_unmet.Given as goal

abbrev pub invariant-loop-place : goal.invariant-loop-place
invariant-loop-place l = MetBefore l.alg l.claims l.expected l.place
