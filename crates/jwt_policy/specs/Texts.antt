-- Texts, lists of texts, and media types.
use Rattle.std.specs.Prelude.{ℕ, List, ◌++◌, Bool, false, ◌==◌, codes, Option, if◌then◌else◌}
use Rattle.std.specs.Option.{option_map_or}
use Rattle.std.specs.List.{list_any, list_all}
use Rattle.std.specs.Str.{bytes_eq, str_eq_ignore_ascii_case}
use Rattle.serde_json.specs.Data.{Data}
use Rattle.serde_json.specs.Find.{as_str}

-- there is a value, and it passes
abbrev pub some_passes : {A : Type 0} → (A → Bool) → Option A → Bool
some_passes test o = option_map_or test o false

-- a text is among these, compared octet by octet
abbrev pub is_among : List (List ℕ) → List ℕ → Bool
is_among ts t = list_any (λ u. bytes_eq t u) ts

-- some element of a list is a text, and it passes
abbrev pub any_text : (List ℕ → Bool) → List Data → Bool
any_text test ds = list_any (λ d. some_passes test (as_str d)) ds

-- each element of a list is a text, and it passes
abbrev pub each_text : (List ℕ → Bool) → List Data → Bool
each_text test ds = list_all (λ d. some_passes test (as_str d)) ds

-- a media type in full: `application/` is put before one that holds no `/` (RFC 7515, section 4.1.9)
abbrev pub media_type : List ℕ → List ℕ
media_type t = if list_any (λ c. c == 47) t then t else codes "application/" ++ t

-- equal as media types: in full, and with ASCII case ignored
unfoldable pub same_media_type : List ℕ → List ℕ → Bool
same_media_type a b = str_eq_ignore_ascii_case (media_type a) (media_type b)
