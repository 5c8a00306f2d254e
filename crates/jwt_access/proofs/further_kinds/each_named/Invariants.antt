use Rattle.std.proofs.Common.{◌≡◌, take, map, Ok, string_bytes}
use Rattle.jwt_text.specs.Answers.{each}
use Rattle.jwt_access.specs.MemberKinds.{named}
use Rattle.jwt_access.specs.Views.{further, names_asked}
use Rattle.jwt_access.proofs.further_kinds.each_named.Given as goal

abbrev pub invariant-loop-place : goal.invariant-loop-place
invariant-loop-place l = each (λ place name. named (names_asked l.kind) name) 0 (take l.place (map string_bytes l.names)) ≡ Ok (map further l.rules.items)
