use Rattle.jwt_access.proofs.Tokens.{NoneBefore}
use Rattle.jwt_access.proofs.expected.token.spelled_name.Given as goal

abbrev pub invariant-loop-place : goal.invariant-loop-place
invariant-loop-place l = NoneBefore l.token l.home l.place
