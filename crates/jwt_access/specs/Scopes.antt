-- Scopes (RFC 6749, section 3.3), and the claims that carry them (RFC 8693, section 4.2; RFC 9068, section 2.2.3).
use Rattle.std.specs.Prelude.{ℕ, List, Bool, not, ◌&&◌, ◌||◌, ◌==◌, nat_le, length, option_map}
use Rattle.std.specs.List.{slice_split, list_all}
use Rattle.std.specs.Str.{bytes_eq}
use Rattle.serde_json.specs.Data.{Data}
use Rattle.serde_json.specs.Find.{as_str, as_array}
use Rattle.jwt_text.specs.Members.{elements, are_texts}
use Rattle.jwt_policy.specs.Texts.{some_passes, is_among, any_text}

-- %x21 / %x23-5B / %x5D-7E
abbrev pub is_scope_character : ℕ → Bool
is_scope_character c = c == 33 || (nat_le 35 c && nat_le c 91) || (nat_le 93 c && nat_le c 126)

-- a scope token: one or more of these characters
abbrev pub is_scope : List ℕ → Bool
is_scope text = not (length text == 0) && list_all is_scope_character text

-- the texts between the spaces
abbrev pub words : List ℕ → List (List ℕ)
words text = slice_split (λ c. c == 32) text

-- a text of scope tokens parted by single spaces, and this is one of them
abbrev pub text_grants : List ℕ → List ℕ → Bool
text_grants scope text = list_all is_scope (words text) && is_among (words text) scope

-- a list of texts, and this is one of them
abbrev pub list_grants : List ℕ → List Data → Bool
list_grants scope values = are_texts values && any_text (λ text. bytes_eq text scope) values

-- the value of a claim grants the scope
abbrev pub grants : List ℕ → Data → Bool
grants scope value = some_passes (text_grants scope) (as_str value) || some_passes (list_grants scope) (option_map elements (as_array value))
