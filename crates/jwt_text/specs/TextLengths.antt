-- The lengths of the names and the texts in a value.
use Rattle.std.specs.Prelude.{ℕ, ◌+◌, length}
use Rattle.serde_json.specs.Data.{Data, null, boolean, number, string, array, object, Items, no_items, item, Members, no_members, member}

-- the octets of all names and texts in a value together, at every depth, with their escapes undone
abbrev mutual
  pub text_octets : Data → ℕ
  text_octets null = 0
  text_octets (boolean b) = 0
  text_octets (number n) = 0
  text_octets (string s) = length s
  text_octets (array ds) = items_text_octets ds
  text_octets (object ms) = members_text_octets ms

  pub items_text_octets : Items → ℕ
  items_text_octets no_items = 0
  items_text_octets (item d ds) = text_octets d + items_text_octets ds

  pub members_text_octets : Members → ℕ
  members_text_octets no_members = 0
  members_text_octets (member k d ms) = length k + text_octets d + members_text_octets ms
