use Rattle.std.proofs.lemmas.Result.{on_ok_weaker}
use Rattle.json.specs.Tree.{json_tokens}
use Rattle.jwt_output.specs.verdicts.VerdictsJson.{try_json}
use Rattle.jwt_output.proofs.JsonLemmas.{all_put}
use Rattle.jwt_output.proofs.Arrays.{array_put}
use Rattle.jwt_output.proofs.fields.object.put_tries.Goals as goal

pub returns : goal.returns
returns c =
    on_ok_weaker c.end_list.result
    (λ n. array_put try_json c.args.tries.now c.args.out.now c.begin_array.new.self c.loop-entry.out c.end_list.new.self c.in_ok-begin_array.ensures
    (all_put (λ it. json_tokens (try_json it)) c.args.tries.now c.loop-entry.entry-index c.begin_array.new.self c.loop-entry.out c.loop-entry-test.false c.loop-entry.invariant) n) c.end_list.ensures
