-- The effect of reading into a store.
use Rattle.std.specs.Prelude.{◌≡◌, ℕ, ◌<◌, ◌≤◌, List, map, length, Some}
use Rattle.json.specs.Token.{Token}
use Rattle.json.specs.Json.{items, members, value}
use Rattle.json.specs.Json as json
use Rattle.serde_json.specs.Data.{Data, no_members}
use Rattle.serde_json.specs.Read.{of_json, of_items, of_members}
use Rattle.serde_json.specs.View.{items_of}
use Rattle.jwt_text.specs.NamesWritten.{names_written, items_names_written, members_names_written}
use Rattle.jwt_text.specs.ObjectText.{entries, items_entries, members_entries}
use Rattle.jwt_text.specs.Flat.{text_of, node_data, members_data, Each, AreEntries, IsNode, run_of, IsRun}
use Rattle.jwt_text.specs.Growth.{Extends}
use Rattle.jwt_text.specs.declared.node.Entry.{Entry}
use Rattle.jwt_text.specs.declared.node.Node.{Node}
use Rattle.jwt_text.specs.declared.node.Span.{Span}
use Rattle.jwt_text.specs.declared.store.Store.{Store}

-- Of the tokens `old`, the first value, which nests at most so deep, was read into the node n, and `new` are left. It has as many
-- entries as names are written.
pub record ReadsNode (depth : ℕ) (old new : List Token) (before after : Store) (n : Node) : Type 0 where
  pub tree : json.Json
  pub parsed : value depth old ≡ Some (tree, new)
  pub is : of_json tree ≡ Some (node_data depth after n)
  pub counted : entries (node_data depth after n) ≡ names_written tree
  pub holds : IsNode depth after n
  pub grows : Extends before after
  pub shorter : length new < length old

-- the same of the items of a list, and the bracket that closes it
pub record ReadsItems (depth : ℕ) (old new : List Token) (before after : Store) (p : Span) : Type 0 where
  pub trees : json.Items
  pub parsed : items (value depth) (length old) old ≡ Some (trees, new)
  pub is : of_items trees ≡ Some (items_of (map (node_data depth after) (run_of after p)))
  pub counted : items_entries (items_of (map (node_data depth after) (run_of after p))) ≡ items_names_written trees
  pub within : IsRun after p
  pub holds : Each (IsNode depth after) (run_of after p)
  pub grows : Extends before after
  pub shorter : length new ≤ length old

-- the same of the members of an object, and the brace that closes it
pub record ReadsMembers (depth : ℕ) (old new : List Token) (before after : Store) (es : List Entry) : Type 0 where
  pub trees : json.Members
  pub parsed : members (value depth) (length old) old ≡ Some (trees, new)
  pub is : of_members trees no_members ≡ Some (members_data depth after es)
  pub counted : members_entries (members_data depth after es) ≡ members_names_written trees
  pub holds : AreEntries (IsNode depth after) after es
  pub grows : Extends before after
  pub shorter : length new ≤ length old

-- ---- within a list or an object

abbrev pub pair : ℕ → Store → Entry → List ℕ × Data
pair depth s e = (text_of s e.name, node_data depth s e.node)
