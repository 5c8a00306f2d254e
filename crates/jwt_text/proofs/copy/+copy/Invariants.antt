use Rattle.std.proofs.Common.{◌+◌, ◌*◌, take}
use Rattle.jwt_text.specs.Copies.{CopiesNodes}
use Rattle.jwt_text.proofs.CopyInvariants.{CopiesPairs}
use Rattle.jwt_text.proofs.copy.+copy.Given as goal

abbrev pub decreases-copy_entries : goal.decreases-copy_entries
decreases-copy_entries l = 2 * l.depth + 1

abbrev pub decreases-copy_node : goal.decreases-copy_node
decreases-copy_node l = 2 * l.depth

abbrev pub decreases-copy_nodes : goal.decreases-copy_nodes
decreases-copy_nodes l = 2 * l.depth + 1

abbrev pub invariant-copy_entries-entries : goal.invariant-copy_entries-entries
invariant-copy_entries-entries l = CopiesPairs l.depth l.from (take l.place l.entries) l.initial.to l.to l.copies.items

abbrev pub invariant-copy_nodes-nodes : goal.invariant-copy_nodes-nodes
invariant-copy_nodes-nodes l = CopiesNodes l.depth l.from (take l.place l.nodes) l.initial.to l.to l.copies.items
