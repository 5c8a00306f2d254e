use Rattle.std.proofs.Common.{◌≡◌, drop, map}
use Rattle.jwt_document.specs.Tables.{object_behind}
use Rattle.jwt_document.proofs.closed.object_behind.Given as goal

abbrev pub invariant-loop-name : goal.invariant-loop-name
invariant-loop-name l = object_behind (map (λ name. name.now) (drop l.name-index l.names)) l.object ≡ object_behind (map (λ name. name.now) l.names) l.fn.outer
