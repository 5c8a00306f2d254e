use Rattle.std.proofs.Common.{◌≡◌, ◌++◌, drop}
use Rattle.jwt_keys.specs.Numbers.{numbers}
use Rattle.jwt_advice.specs.Private.{is_private}
use Rattle.jwt_command.proofs.private.private_places.Given as goal

-- those found, with those of the rest, are all
abbrev pub invariant-loop-place : goal.invariant-loop-place
invariant-loop-place l = l.found.items ++ numbers is_private l.place (drop l.place l.entries) ≡ numbers is_private 0 l.entries
