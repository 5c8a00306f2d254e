use Rattle.std.proofs.Common.{◌≡◌, drop, map}
use Rattle.jwt_policy.specs.Texts.{some_passes}
use Rattle.jwt_access.specs.Claims.{is_one_of}
use Rattle.jwt_access.specs.Views.{allowed, found}
use Rattle.jwt_access.proofs.spot.Spot.is_one_of.Given as goal

abbrev pub invariant-loop-value : goal.invariant-loop-value
invariant-loop-value l = some_passes (is_one_of (map allowed (drop l.value-index l.values))) (found l.self) ≡ some_passes (is_one_of (map allowed l.values)) (found l.self)
