-- JSON objects that are printed, each on one line, as the kit's writer spells it.
use Rattle.std.specs.Prelude.{ℕ, List, [], ◌∷◌, ◌++◌, unwrap_or, if◌then◌else◌}
use Rattle.std.specs.Fmt.{decimal}
use Rattle.std.specs.Str.{is_utf8}
use Rattle.json.specs.Json.{Json, null, number, string, object, Items, no_items, item, Members, no_members, member, document}
use Rattle.json.specs.Print.{print}
use Rattle.json.specs.Tree.{json_tokens}

-- ---- how an object is printed

-- names with their values
abbrev pub Named : Type 0
Named = List ℕ × Json

abbrev pub members_in : List Named → Members
members_in [] = no_members
members_in (m ∷ ms) = member m.0 m.1 (members_in ms)

abbrev pub items_in : List Json → Items
items_in [] = no_items
items_in (j ∷ js) = item j (items_in js)

abbrev pub object_of_members : List Named → Json
object_of_members ms = object (members_in ms)

-- without white space, and a line feed behind it
abbrev pub json_line : List Named → List ℕ
json_line ms = print (json_tokens (object_of_members ms)) ++ 10 ∷ []

abbrev pub text : List ℕ → List ℕ → Named
text name value = (name, string value)

abbrev pub count : List ℕ → ℕ → Named
count name value = (name, number (decimal value))

-- the JSON value of a text: as it stands there, member by member and digit by digit
abbrev pub json_value : List ℕ → Json
json_value t = if is_utf8 t then unwrap_or (document t) null else null
