use Rattle.std.proofs.Common.{◌≡◌, drop}
use Rattle.std.specs.List.{fold}
use Rattle.jwt_sources.specs.Asking.{and_octet, number_of}
use Rattle.jwt_sources.proofs.kid.number_of_kid.Given as goal

abbrev pub invariant-loop-octet : goal.invariant-loop-octet
invariant-loop-octet l = fold and_octet l.number (drop l.octet-index l.kid) ≡ number_of l.kid
