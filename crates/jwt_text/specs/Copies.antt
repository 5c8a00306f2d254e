-- The effect of copying from a store into another.
use Rattle.std.specs.Prelude.{◌≡◌, ℕ, List, map}
use Rattle.jwt_text.specs.Flat.{node_data, Each, AreEntries, IsNode}
use Rattle.jwt_text.specs.Growth.{Extends}
use Rattle.jwt_text.specs.Reads.{pair}
use Rattle.jwt_text.specs.declared.node.Entry.{Entry}
use Rattle.jwt_text.specs.declared.node.Node.{Node}
use Rattle.jwt_text.specs.declared.store.Store.{Store}

pub record CopiesNode (depth : ℕ) (source : Store) (node : Node) (before after : Store) (copy : Node) : Type 0 where
  pub is : node_data depth after copy ≡ node_data depth source node
  pub holds : IsNode depth after copy
  pub grows : Extends before after

pub record CopiesNodes (depth : ℕ) (source : Store) (nodes : List Node) (before after : Store) (copies : List Node) : Type 0 where
  pub is : map (node_data depth after) copies ≡ map (node_data depth source) nodes
  pub holds : Each (IsNode depth after) copies
  pub grows : Extends before after

pub record CopiesEntries (depth : ℕ) (source : Store) (entries : List Entry) (before after : Store) (copies : List Entry) : Type 0 where
  pub is : map (pair depth after) copies ≡ map (pair depth source) entries
  pub holds : AreEntries (IsNode depth after) after copies
  pub grows : Extends before after
