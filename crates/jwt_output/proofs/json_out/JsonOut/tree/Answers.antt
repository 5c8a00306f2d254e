use Rattle.std.proofs.Common.{rules, arith, ◌≡◌, ◌++◌, ◌∷◌, []}
use Rattle.std.proofs.lemmas.Grind.{common_steps}
use Rattle.std.proofs.lemmas.Result.{on_ok_weaker}
use Rattle.json.specs.Token.{key}
use Rattle.json.specs.Value.{value_view}
use Rattle.jwt_output.proofs.JsonLemmas.{tree_put}
use Rattle.jwt_output.proofs.json_out.JsonOut.tree.Goals as goal

pub returns : goal.returns
returns c =
    let k : c.key.new.self.tokens ≡ c.args.self.now ++ key c.args.name.now ∷ [] = first_of (search rules, grind (arith, common_steps)) in
    on_ok_weaker c.value.result (λ n. tree_put c.args.name.now (value_view c.args.value.now) c.args.self.now c.key.new.self.tokens c.value.new.self.tokens k n) c.value.ensures.ok
