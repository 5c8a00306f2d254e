use Rattle.std.proofs.Common.{◌≡◌, drop}
use Rattle.std.specs.List.{list_all}
use Rattle.jwt_text.specs.Members.{member_names}
use Rattle.jwt_possession.specs.Shown.{is_known_way}
use Rattle.jwt_possession.proofs.binding.are_known.Given as goal

abbrev pub invariant-loop-place : goal.invariant-loop-place
invariant-loop-place l = list_all is_known_way (member_names l.ways) ≡ list_all is_known_way (drop l.place (member_names l.ways))
