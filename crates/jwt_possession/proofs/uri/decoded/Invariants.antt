-- What is done, with what the rest gives, is what the text gives.
use Rattle.std.proofs.Common.{◌≡◌, ◌++◌, length, option_map}
use Rattle.jwt_possession.specs.Uris.{decoded}
use Rattle.jwt_possession.proofs.uri.decoded.Given as goal

abbrev pub invariant-octets : goal.invariant-octets
invariant-octets l = decoded l.text ≡ option_map (λ more. l.done.items ++ more) (decoded l.rest)

abbrev pub decreases-octets : goal.decreases-octets
decreases-octets l = length l.rest
