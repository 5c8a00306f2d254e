-- The reasons to skip an entry of a key set: the first row that holds.
use Rattle.std.specs.Prelude.{ℕ, ◌&&◌, ◌||◌, Bool, false, not, List, [], ◌∷◌, ◌++◌, length, Option, Some, None, is_some, is_none, option_and_then, unwrap_or, codes, Result}
use Rattle.std.specs.Option.{option_map_or}
use Rattle.std.specs.List.{list_all}
use Rattle.serde_json.specs.Data.{Members, no_members}
use Rattle.jwt_text.specs.Members.{has, text_at, list_at, are_texts, is_no_text}
use Rattle.jwt_text.specs.Answers.{some_or}
use Rattle.jwt_text.specs.Base64url.{octets_of}
use Rattle.jwt_text.specs.Rows.{Row, ◌⇒◌, first_row}
use Rattle.jwt_keys.specs.Kinds.{key_type_at, kind_at, required, encoded, allows_size}
use Rattle.jwt_keys.specs.declared.skip.SkipReason.{SkipReason}
use Rattle.jwt_keys.specs.declared.skip.SkipReason.TheVariants.{NotObject, MemberMissing, MemberKind, KtyUnknown, CrvUnknown, Base64, Length}
use Rattle.jwt_keys.specs.declared.kind.KeyType.{KeyType}
use Rattle.jwt_keys.specs.declared.kind.KeyKind.{KeyKind}

-- ---- presence and kinds of the members

-- a required member of this key type is absent
abbrev pub lacks : KeyType → Members → Bool
lacks key_type ms = not (list_all (λ name. has name ms) (required key_type))

-- a member that is there and no list of texts
abbrev pub is_no_texts : List ℕ → Members → Bool
is_no_texts name ms = has name ms && not (option_map_or are_texts (list_at name ms) false)

-- a required or an optional member has another kind
abbrev pub has_other_kind : KeyType → Members → Bool
has_other_kind key_type ms =
    not (list_all (λ name. is_some (text_at name ms)) (required key_type))
    || is_no_text (codes "kid") ms || is_no_text (codes "alg") ms || is_no_text (codes "use") ms || is_no_texts (codes "key_ops") ms

-- this test at the key type that `kty` names
abbrev pub of_key_type : (KeyType → Members → Bool) → Members → Bool
of_key_type test ms = option_map_or (λ key_type. test key_type ms) (key_type_at ms) false

-- the entry is no object
abbrev pub is_no_object : Option Members → Bool
is_no_object entry = is_none entry

-- `kty` is absent (RFC 7517, section 4.1)
abbrev pub lacks_kty : Members → Bool
lacks_kty ms = not (has (codes "kty") ms)

abbrev pub is_kty_no_text : Members → Bool
is_kty_no_text ms = is_none (text_at (codes "kty") ms)

-- `kty` names no key type of RFC 7518, section 6.1, or RFC 8037, section 2
abbrev pub is_kty_unknown : Members → Bool
is_kty_unknown ms = is_none (key_type_at ms)

abbrev pub lacks_member : Members → Bool
lacks_member ms = of_key_type lacks ms

abbrev pub has_member_of_other_kind : Members → Bool
has_member_of_other_kind ms = of_key_type has_other_kind ms

-- `crv` names no curve of the key type (RFC 7518, section 6.2.1.1; RFC 8037, section 2)
abbrev pub is_crv_unknown : Members → Bool
is_crv_unknown ms = is_none (kind_at ms)

-- ---- spelling and sizes

-- the octets that a member spells, where it is a text that spells any
abbrev pub octets_at : List ℕ → Members → Option (List ℕ)
octets_at name ms = option_and_then octets_of (text_at name ms)

abbrev pub member_octets : List ℕ → Members → List ℕ
member_octets name ms = unwrap_or (octets_at name ms) []

abbrev pub is_misspelled : KeyKind → Members → Bool
is_misspelled kind ms = not (list_all (λ name. is_some (octets_at name ms)) (encoded kind))

abbrev pub has_other_size : KeyKind → Members → Bool
has_other_size kind ms = not (list_all (λ name. allows_size kind (length (member_octets name ms))) (encoded kind))

-- ---- the table

-- rows 2 to 7
abbrev pub shape_rows : Members → List (Row SkipReason)
shape_rows ms =
    (lacks_kty ms ⇒ MemberMissing)
    ∷ (is_kty_no_text ms ⇒ MemberKind)
    ∷ (is_kty_unknown ms ⇒ KtyUnknown)
    ∷ (lacks_member ms ⇒ MemberMissing)
    ∷ (has_member_of_other_kind ms ⇒ MemberKind)
    ∷ (is_crv_unknown ms ⇒ CrvUnknown)
    ∷ []

-- rows 8 and 9, of a key of this kind
abbrev pub octet_rows : KeyKind → Members → List (Row SkipReason)
octet_rows kind ms =
    (is_misspelled kind ms ⇒ Base64)
    ∷ (has_other_size kind ms ⇒ Length)
    ∷ []

abbrev pub octet_rows_of : Option KeyKind → Members → List (Row SkipReason)
octet_rows_of None ms = []
octet_rows_of (Some kind) ms = octet_rows kind ms

abbrev pub object_rows : Members → List (Row SkipReason)
object_rows ms = shape_rows ms ++ octet_rows_of (kind_at ms) ms

-- all nine rows, of an entry that is no object or has these members
abbrev pub skip_rows : Option Members → List (Row SkipReason)
skip_rows entry = (is_no_object entry ⇒ NotObject) ∷ object_rows (unwrap_or entry no_members)

-- ---- Cited by contracts of private functions alone

-- those octets, or the reason that there are none
abbrev pub spelled_member : List ℕ → Members → Result (List ℕ) SkipReason
spelled_member name ms = some_or Base64 (octets_at name ms)

-- the first of rows 2 to 7 that holds
unfoldable pub shape_skip_of : Members → Option SkipReason
shape_skip_of ms = first_row (shape_rows ms)

-- the first of rows 8 and 9 that holds
unfoldable pub octet_skip_of : KeyKind → Members → Option SkipReason
octet_skip_of kind ms = first_row (octet_rows kind ms)
