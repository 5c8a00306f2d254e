use Rattle.std.proofs.Common.{◌≡◌, take, Ok}
use Rattle.std.specs.Prelude.{map}
use Rattle.jwt_text.specs.Answers.{each}
use Rattle.jwt_jws.specs.Forms.{spelled_element}
use Rattle.jwt_jws.specs.Views.{spelled_view}
use Rattle.jwt_jws.proofs.json.spelled_elements.Given as goal

abbrev pub invariant-loop-i : goal.invariant-loop-i
invariant-loop-i l = each spelled_element 0 (take l.i l.list) ≡ Ok (map spelled_view l.spelled.items)
