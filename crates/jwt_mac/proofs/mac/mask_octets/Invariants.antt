use Rattle.std.proofs.Common.{◌≡◌, take, length}
use Rattle.jwt_mac.specs.Hmac.{masked}
use Rattle.jwt_mac.proofs.mac.mask_octets.Given as goal

abbrev pub invariant-octets : goal.invariant-octets
invariant-octets l = record { size : length l.out ≡ 128; done : take l.i l.out ≡ masked l.mask (take l.i l.octets) }
