use Rattle.std.proofs.Common.{[], ◌∷◌}
use Rattle.std.specs.Prelude.{codes}
use Rattle.std.proofs.lemmas.Result.{on_ok_weaker}
use Rattle.jwt_output.specs.Json.{count}
use Rattle.jwt_output.proofs.JsonLemmas.{object_put, two_written}
use Rattle.jwt_output.proofs.fields.object.put_try.Goals as goal

pub returns : goal.returns
returns c =
    let i = count (codes "signature") c.args.entry.signature in
    let j = count (codes "key") c.args.entry.key in
    let k = count (codes "cost") c.args.entry.cost in
    on_ok_weaker c.end_object.result
    (λ n. object_put (i ∷ j ∷ k ∷ []) c.args.out.now c.begin_object.new.self c.count-3.new.self c.end_object.new.self c.in_ok-begin_object.ensures
    (two_written (i ∷ j ∷ []) (k ∷ []) c.begin_object.new.self c.count-2.new.self c.count-3.new.self
    (two_written (i ∷ []) (j ∷ []) c.begin_object.new.self c.count.new.self c.count-2.new.self c.in_ok-count.ensures c.in_ok-count-2.ensures) c.in_ok-count-3.ensures) n) c.end_object.ensures
