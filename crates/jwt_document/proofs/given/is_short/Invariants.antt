use Rattle.std.proofs.Common.{◌≡◌, drop}
use Rattle.std.specs.List.{list_any}
use Rattle.jwt_document.specs.Given.{is_short}
use Rattle.jwt_document.proofs.given.is_short.Given as goal

abbrev pub invariant-loop-alg : goal.invariant-loop-alg
invariant-loop-alg l = list_any (is_short l.size) (drop l.alg-index l.algs) ≡ list_any (is_short l.size) l.algs
