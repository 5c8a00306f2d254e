use Rattle.std.proofs.Common.{◌≡◌, ◌++◌, drop}
use Rattle.std.specs.List.{flat_map}
use Rattle.json.specs.Tree.{json_tokens}
use Rattle.jwt_output.specs.verdicts.VerdictsJson.{state_json}
use Rattle.jwt_output.proofs.fields.object.put_states.Given as goal

abbrev pub invariant-loop-state : goal.invariant-loop-state
invariant-loop-state l = l.out ++ flat_map (λ s. json_tokens (state_json s)) (drop l.state-index l.states) ≡ l.initial.out ++ flat_map (λ s. json_tokens (state_json s)) l.states
