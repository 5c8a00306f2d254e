use Rattle.std.proofs.Common.{◌≡◌, take, map, Ok}
use Rattle.jwt_text.specs.Answers.{each}
use Rattle.jwt_text.specs.Members.{member_names}
use Rattle.jwt_access.specs.MemberKinds.{further_in}
use Rattle.jwt_access.specs.Views.{further, values_asked}
use Rattle.jwt_access.proofs.further_kinds.each_further.Given as goal

abbrev pub invariant-loop-place : goal.invariant-loop-place
invariant-loop-place l = each (λ place name. further_in (values_asked l.kind) l.members name) 0 (take l.place (member_names l.members)) ≡ Ok (map further l.rules.items)
