use Rattle.std.proofs.lemmas.Result.{on_ok_weaker}
use Rattle.jwt_output.proofs.json_out.JsonOut.value.Goals as goal

pub returns : goal.returns
returns c = on_ok_weaker c.tree.result (λ n. rw c.in_ok-value.ensures.value at n) c.tree.ensures
