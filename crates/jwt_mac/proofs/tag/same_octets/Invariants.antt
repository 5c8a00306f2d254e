use Rattle.std.proofs.Common.{◌≡◌, ◌↔◌, take}
use Rattle.jwt_mac.proofs.tag.same_octets.Given as goal

abbrev pub invariant-octets : goal.invariant-octets
invariant-octets l = (l.difference ≡ 0) ↔ (take l.i l.a ≡ take l.i l.b)
