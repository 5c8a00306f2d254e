use Rattle.std.proofs.Common.{◌≡◌, drop}
use Rattle.jwt_text.specs.Members.{member_names}
use Rattle.jwt_policy.specs.Document.{unknown_in}
use Rattle.jwt_policy.proofs.document.first_unknown.Given as goal

abbrev pub invariant-loop-place : goal.invariant-loop-place
invariant-loop-place l = unknown_in l.two (drop l.place (member_names l.members)) ≡ unknown_in l.two (member_names l.members)
