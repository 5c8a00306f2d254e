-- Laws over the definitions: what each entry of a key set gives (RFC 7517, section 5).
use Rattle.std.specs.Prelude.{◌≡◌, ℕ, Bool, not, List, [], ◌∷◌, codes, map, Option, Some, is_none, option_map, slice_get, Result, Ok, Err, MatchResult}
use Rattle.std.specs.List.{All}
use Rattle.serde_json.specs.Data.{Data, string, object, Members, no_members, put}
use Rattle.serde_json.specs.Written.{compact_text}
use Rattle.serde_json.specs.Find.{as_object}
use Rattle.jwt_text.specs.Rows.{first_row, IsFirstRow, NoRow}
use Rattle.jwt_keys.specs.Keys.{KeyParts}
use Rattle.jwt_keys.specs.SkipTable.{skip_rows}
use Rattle.jwt_keys.specs.Kinds.{key_type_at, kind_at, required}
use Rattle.jwt_keys.specs.Thumbprints.{member_text, thumbprint_text}
use Rattle.jwt_keys.specs.Entries.{key_in, parts_of}
use Rattle.jwt_keys.specs.Numbers.{numbers}
use Rattle.jwt_keys.specs.KeySets.{KeyList, key_list}
use Rattle.jwt_keys.specs.declared.kind.KeyKind.{KeyKind}
use Rattle.jwt_keys.specs.declared.kind.KeyType.{KeyType}
use Rattle.jwt_keys.specs.declared.skip.SkipReason.{SkipReason}

-- the key of an entry: it has the members of that object, by the kind that they name, and its place
abbrev pub IsKeyOf : ℕ → Option Members → KeyParts → Type 0
IsKeyOf place entry k = (ms : Members) × (kind : KeyKind) × (entry ≡ Some ms) × (kind_at ms ≡ Some kind) × (k ≡ parts_of place kind ms)

-- an entry is skipped for the first row of the table that holds, and where none does, it gives that key
abbrev pub SkipsByTheTable : Type 0
SkipsByTheTable =
    (place : ℕ) (entry : Option Members)
    → MatchResult (key_in place entry) (λ k. NoRow (skip_rows entry) × IsKeyOf place entry k) (λ reason. IsFirstRow (skip_rows entry) reason)

-- no row of the table holds for the entry
abbrev pub is_readable : Data → Bool
is_readable entry = is_none (first_row (skip_rows (as_object entry)))

-- what the entry at this place of the list gives
abbrev pub given_at : List Data → ℕ → Option (Result KeyParts SkipReason)
given_at entries place = option_map (λ entry. key_in place (as_object entry)) (slice_get entries place)

-- The keys are those of the readable entries and the skips are of the others, both in the order of the entries, each
-- with its place.
pub record IsKeyList (entries : List Data) (list : KeyList) : Type 0 where
  pub readable : map (λ k. k.place) list.keys ≡ numbers is_readable 0 entries
  pub keys : All (λ k. given_at entries k.place ≡ Some (Ok k)) list.keys
  pub unreadable : map (λ s. s.place) list.skips ≡ numbers (λ entry. not (is_readable entry)) 0 entries
  pub skips : All (λ s. given_at entries s.place ≡ Some (Err s.reason)) list.skips

abbrev pub ListsEachEntry : Type 0
ListsEachEntry = (entries : List Data) → IsKeyList entries (key_list entries)

-- ---- thumbprints

-- the object of the members of these names, as their texts stand in the key
abbrev pub picked : List (List ℕ) → Members → Members
picked [] ms = no_members
picked (name ∷ names) ms = put name (string (member_text name ms)) (picked names ms)

-- the text of a readable key's thumbprint is the compact JSON of its required members with `kty`, their names in ascending order
-- (RFC 7638, sections 3 and 3.2)
abbrev pub ThumbprintsAreOfJson : Type 0
ThumbprintsAreOfJson = (ms : Members) (key_type : KeyType) (kind : KeyKind) → key_type_at ms ≡ Some key_type → kind_at ms ≡ Some kind → NoRow (skip_rows (Some ms))
    → thumbprint_text kind ms ≡ compact_text (object (picked (codes "kty" ∷ required key_type) ms))
