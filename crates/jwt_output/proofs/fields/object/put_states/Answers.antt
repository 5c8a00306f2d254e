use Rattle.std.proofs.lemmas.Result.{on_ok_weaker}
use Rattle.json.specs.Tree.{json_tokens}
use Rattle.jwt_output.specs.verdicts.VerdictsJson.{state_json}
use Rattle.jwt_output.proofs.JsonLemmas.{all_put}
use Rattle.jwt_output.proofs.Arrays.{array_put}
use Rattle.jwt_output.proofs.fields.object.put_states.Goals as goal

pub returns : goal.returns
returns c =
    on_ok_weaker c.end_list.result
    (λ n. array_put state_json c.args.states.now c.args.out.now c.begin_array.new.self c.loop-state.out c.end_list.new.self c.in_ok-begin_array.ensures
    (all_put (λ it. json_tokens (state_json it)) c.args.states.now c.loop-state.state-index c.begin_array.new.self c.loop-state.out c.loop-state-test.false c.loop-state.invariant) n) c.end_list.ensures
