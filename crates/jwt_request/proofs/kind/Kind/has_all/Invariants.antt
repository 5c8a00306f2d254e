use Rattle.std.proofs.Common.{IsTrue}
use Rattle.jwt_request.specs.Spelled.{IsRun}
use Rattle.jwt_request.proofs.kind.Kind.has_all.Given as goal

abbrev pub invariant-loop-octet : goal.invariant-loop-octet
invariant-loop-octet l = IsTrue l.all → IsRun l.self l.octets 0 l.octet-index
