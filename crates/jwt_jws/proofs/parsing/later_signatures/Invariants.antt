use Rattle.std.proofs.Common.{◌≡◌, length, take, Ok}
use Rattle.std.specs.Prelude.{map}
use Rattle.jwt_text.specs.Answers.{each}
use Rattle.jwt_jws.specs.Forms.{signature_of}
use Rattle.jwt_jws.specs.Views.{spelled_view, parts}
use Rattle.jwt_jws.proofs.parsing.later_signatures.Given as goal

abbrev pub invariant-loop-i : goal.invariant-loop-i
invariant-loop-i l = record {
  made : each (signature_of l.form) 1 (take l.i (map spelled_view l.spelled)) ≡ Ok (map parts l.signatures.items);
  count : length l.signatures.items ≡ l.i;
}
