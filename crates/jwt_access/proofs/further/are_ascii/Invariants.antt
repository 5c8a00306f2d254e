use Rattle.std.proofs.Common.{◌≡◌, drop, nat_lt}
use Rattle.std.specs.List.{list_all}
use Rattle.jwt_access.proofs.further.are_ascii.Given as goal

abbrev pub invariant-loop-octet : goal.invariant-loop-octet
invariant-loop-octet l = list_all (λ octet. nat_lt octet 128) (drop l.octet-index l.octets) ≡ list_all (λ octet. nat_lt octet 128) l.octets
