-- Tests of claims that have to have a value that is allowed. Only private clauses cite them.
use Rattle.std.specs.Prelude.{ℕ, ℤ, pos, ◌+◌, ◌+ℤ◌, List, length, Bool, false, ◌||◌, ◌&&◌, int_lt, is_some, nat_le, nat_lt, Option, option_map, option_and_then}
use Rattle.std.specs.Bool.{beq}
use Rattle.std.specs.Ordering.{int_eq}
use Rattle.std.specs.List.{list_any, list_all}
use Rattle.std.specs.Str.{bytes_eq}
use Rattle.serde_json.specs.Data.{Data}
use Rattle.serde_json.specs.Find.{as_str, as_bool, as_number, as_i64, as_array, as_object}
use Rattle.jwt_text.specs.Members.{elements}
use Rattle.jwt_policy.specs.Texts.{some_passes}
use Rattle.jwt_access.specs.Rules.{Allowed, text, flag, whole}
use Rattle.jwt_access.specs.Scopes.{grants}
use Rattle.jwt_access.specs.declared.moment.Moment.{Moment}

-- a JSON value is the one that is allowed, and of its kind
abbrev pub is_value : Allowed → Data → Bool
is_value (text wanted) value = some_passes (λ found. bytes_eq found wanted) (as_str value)
is_value (flag wanted) value = some_passes (λ found. beq found wanted) (as_bool value)
is_value (whole wanted) value = some_passes (λ found. int_eq found wanted) (option_and_then as_i64 (as_number value))

-- a claim is the value that is allowed, or a list that holds it
abbrev pub has_value : Allowed → Data → Bool
has_value allowed value = is_value allowed value || some_passes (list_any (is_value allowed)) (option_map elements (as_array value))

-- a JSON value is one of those that are allowed
abbrev pub is_one_of : List Allowed → Data → Bool
is_one_of allowed value = list_any (λ one. is_value one value) allowed

-- a claim is one of the values that are allowed, or a list of them alone
abbrev pub has_only : List Allowed → Data → Bool
has_only allowed value = is_one_of allowed value || some_passes (list_all (is_one_of allowed)) (option_map elements (as_array value))

-- a claim is an object
abbrev pub is_object : Data → Bool
is_object value = is_some (as_object value)

-- a claim is a text of at most so many octets, all of ASCII
abbrev pub is_short_ascii : ℕ → List ℕ → Bool
is_short_ascii most octets = nat_le (length octets) most && list_all (λ octet. nat_lt octet 128) octets

abbrev pub is_ascii : ℕ → Data → Bool
is_ascii most value = some_passes (is_short_ascii most) (as_str value)

-- the date that a claim is
abbrev pub date_in : Data → Option ℤ
date_in value = option_and_then as_i64 (as_number value)

-- a date is older than this age, the leeway added
abbrev pub is_older : Moment → ℕ → ℤ → Bool
is_older moment age date = int_lt (date +ℤ pos (age + moment.leeway)) moment.now

-- a claim grants the text that is allowed as a scope
abbrev pub has_word : Allowed → Data → Bool
has_word (text wanted) value = grants wanted value
has_word (flag wanted) value = false
has_word (whole wanted) value = false

-- a claim has the value that is allowed; of the claim that carries scopes a word is enough
abbrev pub meets : Bool → Allowed → Data → Bool
meets by_words allowed value = has_value allowed value || (by_words && has_word allowed value)

-- a claim has one of the values that are allowed
abbrev pub is_allowed : Bool → List Allowed → Data → Bool
is_allowed by_words allowed value = list_any (λ one. meets by_words one value) allowed
