use Rattle.std.proofs.Common.{◌≡◌, drop}
use Rattle.jwt_document.specs.Tables.{first_bad}
use Rattle.jwt_document.proofs.closed.first_bad.Given as goal

abbrev pub invariant-loop-place : goal.invariant-loop-place
invariant-loop-place l = first_bad l.form l.place (drop l.place l.list) ≡ first_bad l.form 0 l.list
