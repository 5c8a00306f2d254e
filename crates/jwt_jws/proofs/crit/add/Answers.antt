use Rattle.std.proofs.Common.{◌∙◌, ap}
use Rattle.std.specs.Prelude.{is_some}
use Rattle.std.proofs.lemmas.Map.Text.{btree_map_updates_str}
use Rattle.jwt_jws.proofs.CritLemmas.{some_after}
use Rattle.jwt_jws.proofs.crit.add.Goals as goal

pub returns-in-Ok-clause-all : goal.returns-in-Ok-clause-all
returns-in-Ok-clause-all c = λ other.
    ap is_some (btree_map_updates_str c.args.text.now c.args.seen.now c.insert.new.self _ c.in-Ok.ensures.updates other) ∙ some_after _ _ _
