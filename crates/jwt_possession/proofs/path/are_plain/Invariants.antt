-- The text is plain where the rest is.
use Rattle.std.proofs.Common.{◌≡◌, length}
use Rattle.jwt_possession.specs.Paths.{are_plain}
use Rattle.jwt_possession.proofs.path.are_plain.Given as goal

abbrev pub invariant-octets : goal.invariant-octets
invariant-octets l = are_plain l.text ≡ are_plain l.rest

abbrev pub decreases-octets : goal.decreases-octets
decreases-octets l = length l.rest
