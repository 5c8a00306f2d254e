-- The invariants of the loops that read a list or an object into a store.
use Rattle.std.specs.Prelude.{◌≡◌, ℕ, suc, ◌+◌, ◌≤◌, List, [], ◌∷◌, map, length, Some}
use Rattle.json.specs.Token.{Token}
use Rattle.json.specs.Json.{items, members, value}
use Rattle.json.specs.Json as json
use Rattle.serde_json.specs.Data.{Data, Items, item, Members, no_members, put}
use Rattle.serde_json.specs.Read.{of_items, of_members}
use Rattle.serde_json.specs.View.{items_of}
use Rattle.jwt_text.specs.NamesWritten.{items_names_written, members_names_written}
use Rattle.jwt_text.specs.ObjectText.{entries, items_entries}
use Rattle.jwt_text.specs.Flat.{node_data, IsText, Each, IsNode}
use Rattle.jwt_text.specs.Growth.{Extends}
use Rattle.jwt_text.specs.declared.node.Entry.{Entry}
use Rattle.jwt_text.specs.declared.node.Node.{Node}
use Rattle.jwt_text.specs.declared.store.Store.{Store}
use Rattle.jwt_text.specs.Reads.{pair}

abbrev pub items_before : List Data → Items → Items
items_before [] more = more
items_before (d ∷ ds) more = item d (items_before ds more)

-- all items from `old` on, where ds are read and `rest` stand before `new`
pub record ItemsTo (depth : ℕ) (old new : List Token) (ds : List Data) (rest : json.Items) : Type 0 where
  pub all : json.Items
  pub parsed : items (value depth) (length old) old ≡ Some (all, new)
  pub is : (more : Items) → of_items rest ≡ Some more → of_items all ≡ Some (items_before ds more)
  pub counted : items_names_written all ≡ items_entries (items_of ds) + items_names_written rest

-- the items up to the tokens `now` are read into nodes
pub record ItemsSoFar (depth : ℕ) (old now : List Token) (before after : Store) (built : List Node) : Type 0 where
  pub fuel : ℕ
  pub enough : length now ≤ fuel
  pub goes : (rest : json.Items) (new : List Token) → items (value depth) fuel now ≡ Some (rest, new) → ItemsTo depth old new (map (node_data depth after) built) rest
  pub holds : Each (IsNode depth after) built
  pub grows : Extends before after
  pub shorter : length now ≤ length old

abbrev pub put_all : List (List ℕ × Data) → Members → Members
put_all [] found = found
put_all (p ∷ ps) found = put_all ps (put p.0 p.1 found)

abbrev pub entries_of : List (List ℕ × Data) → ℕ
entries_of [] = 0
entries_of (p ∷ ps) = suc (entries p.1 + entries_of ps)

pub record MembersTo (depth : ℕ) (old new : List Token) (ps : List (List ℕ × Data)) (rest : json.Members) : Type 0 where
  pub all : json.Members
  pub parsed : members (value depth) (length old) old ≡ Some (all, new)
  pub is : of_members all no_members ≡ of_members rest (put_all ps no_members)
  pub counted : members_names_written all ≡ entries_of ps + members_names_written rest

pub record MembersSoFar (depth : ℕ) (old now : List Token) (before after : Store) (built : List Entry) : Type 0 where
  pub fuel : ℕ
  pub enough : length now ≤ fuel
  pub goes : (rest : json.Members) (new : List Token) → members (value depth) fuel now ≡ Some (rest, new) → MembersTo depth old new (map (pair depth after) built) rest
  pub holds : Each (λ e. IsText after e.name × IsNode depth after e.node) built
  pub grows : Extends before after
  pub shorter : length now ≤ length old
