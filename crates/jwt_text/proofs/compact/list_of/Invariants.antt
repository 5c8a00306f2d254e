use Rattle.std.proofs.Common.{◌≡◌, map, take}
use Rattle.serde_json.specs.View.{view}
use Rattle.jwt_text.specs.Flat.{node_data, most}
use Rattle.jwt_text.proofs.compact.list_of.Given as goal

abbrev pub invariant-loop-place : goal.invariant-loop-place
invariant-loop-place l = map view l.values.items ≡ map (node_data most l.store) (take l.place l.nodes)
