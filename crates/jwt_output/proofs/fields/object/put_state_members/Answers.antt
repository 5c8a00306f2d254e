use Rattle.std.proofs.Common.{[], ◌∷◌}
use Rattle.std.specs.Prelude.{codes}
use Rattle.std.proofs.lemmas.Result.{on_ok_weaker}
use Rattle.jwt_output.specs.Json.{count, text}
use Rattle.jwt_output.proofs.JsonLemmas.{two_written}
use Rattle.jwt_output.proofs.fields.object.put_state_members.Goals as goal

pub returns-in_ok-text-in-Verified : goal.returns-in_ok-text-in-Verified
returns-in_ok-text-in-Verified c =
    rw c.in-Verified.is (on_ok_weaker c.count.result
    (λ n. two_written (text (codes "state") (codes "Verified") ∷ []) (count (codes "key") c.in-Verified.key ∷ []) c.args.out.now c.text-in-Verified.new.self c.count.new.self c.in_ok-text-in-Verified.ensures n) c.count.ensures)

pub returns-in-NotReached : goal.returns-in-NotReached
returns-in-NotReached c = rw c.in-NotReached.is c.text-in-NotReached.ensures
