use Rattle.std.proofs.Common.{◌≡◌, take, map}
use Rattle.jwt_document.specs.Said.{texts, text_of}
use Rattle.jwt_document.proofs.values.texts_of.Given as goal

abbrev pub invariant-loop-place : goal.invariant-loop-place
invariant-loop-place l = texts l.texts.items ≡ map text_of (take l.place l.list)
