use Rattle.std.proofs.Common.{◌≡◌, ◌↔◌, drop}
use Rattle.jwt_access.specs.Granted.{escaped}
use Rattle.jwt_access.proofs.expected.token.is_spelling.Given as goal

abbrev pub invariant-loop-octet : goal.invariant-loop-octet
invariant-loop-octet l = (l.token ≡ escaped l.name) ↔ (l.rest ≡ escaped (drop l.octet-index l.name))
