use Rattle.std.proofs.Common.{◌≡◌, drop, map, slice_get}
use Rattle.jwt_policy.specs.Texts.{some_passes}
use Rattle.jwt_access.specs.Claims.{is_one_of}
use Rattle.jwt_access.specs.Views.{allowed}
use Rattle.jwt_access.proofs.further.is_one_at.Given as goal

abbrev pub invariant-loop-value : goal.invariant-loop-value
invariant-loop-value l = some_passes (is_one_of (map allowed (drop l.value-index l.values))) (slice_get l.list l.place) ≡ some_passes (is_one_of (map allowed l.values)) (slice_get l.list l.place)
