use Rattle.std.proofs.Common.{◌≡◌, drop, map}
use Rattle.std.specs.List.{list_all}
use Rattle.jwt_access.specs.Claims.{is_one_of}
use Rattle.jwt_access.specs.Views.{allowed}
use Rattle.jwt_access.proofs.further.are_among.Given as goal

abbrev pub invariant-loop-place : goal.invariant-loop-place
invariant-loop-place l = list_all (is_one_of (map allowed l.values)) (drop l.place l.list) ≡ list_all (is_one_of (map allowed l.values)) l.list
