-- The names that a JSON text writes: an object is written as a name, a colon and a value for each member (RFC 8259, section 4),
-- and a name that stands twice is written twice.
use Rattle.std.specs.Prelude.{ℕ, suc, ◌+◌, List, Option, None, if◌then◌else◌, option_and_then}
use Rattle.std.specs.Str.{is_utf8}
use Rattle.serde_json.specs.Read.{max_depth}
use Rattle.json.specs.Json.{Json, null, boolean, number, string, array, object, Items, no_items, item, Members, no_members, member, if_last, value}
use Rattle.json.specs.Lex.{tokens}

-- how many names are written in a value, in all objects in it, at every depth
abbrev mutual
  pub names_written : Json → ℕ
  names_written null = 0
  names_written (boolean b) = 0
  names_written (number s) = 0
  names_written (string s) = 0
  names_written (array js) = items_names_written js
  names_written (object ms) = members_names_written ms

  pub items_names_written : Items → ℕ
  items_names_written no_items = 0
  items_names_written (item j js) = names_written j + items_names_written js

  pub members_names_written : Members → ℕ
  members_names_written no_members = 0
  members_names_written (member k j ms) = suc (names_written j + members_names_written ms)

-- the value that octets write, with each member of each object as it stands there (RFC 8259; UTF-8; nesting up to 127), if any
abbrev pub written : List ℕ → Option Json
written t = if is_utf8 t then option_and_then (λ p. if_last p.0 p.1) (value max_depth (tokens t)) else None
