use Rattle.std.proofs.Common.{◌≡◌, ◌++◌, drop}
use Rattle.std.specs.List.{flat_map}
use Rattle.json.specs.Tree.{json_tokens}
use Rattle.jwt_output.specs.verdicts.VerdictsJson.{try_json}
use Rattle.jwt_output.proofs.fields.object.put_tries.Given as goal

abbrev pub invariant-loop-entry : goal.invariant-loop-entry
invariant-loop-entry l = l.out ++ flat_map (λ s. json_tokens (try_json s)) (drop l.entry-index l.tries) ≡ l.initial.out ++ flat_map (λ s. json_tokens (try_json s)) l.tries
