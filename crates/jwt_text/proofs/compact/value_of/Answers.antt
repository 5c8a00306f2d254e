use Rattle.std.proofs.Common.{map}
use Rattle.jwt_text.specs.Flat.{node_data, most}
use Rattle.jwt_text.proofs.LookupLemmas.{list_written}
use Rattle.jwt_text.proofs.compact.value_of.Goals as goal

pub returns-in-Some-list_at : goal.returns-in-Some-list_at
returns-in-Some-list_at c =
    let f = node_data most c.args.store.now in
    list_written c.list_of.result (f c.args.node) (map f c.in-Some-list_at.nodes.now) c.in-Some-list_at.ensures.value c.list_of.ensures
