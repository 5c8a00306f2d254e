use Rattle.jwt_handles.proofs.Standings.{absent_as}
use Rattle.jwt_handles.proofs.expecting.hold.Goals as goal

pub returns-in-Some-Absent-clause-says : goal.returns-in-Some-Absent-clause-says
returns-in-Some-Absent-clause-says c = rw c.in-Some.is (absent_as c.args.alg c.in-Some.claims.now c.args.expected c.in-Some-Absent.field-0 c.in-Some-Absent.field-0-0 c.in-Some-Absent.field-0-is c.in-Some-Absent.ensures.first)
