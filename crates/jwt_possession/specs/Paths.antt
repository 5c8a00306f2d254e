-- Paths of which every reader makes the same: they are their own normal form (RFC 3986, section 6.2.2), and hide no slash.
use Rattle.std.specs.Prelude.{ℕ, ◌+◌, ◌*◌, ◌/◌, ◌%◌, ◌==◌, Bool, true, false, not, ◌&&◌, ◌||◌, List, [], ◌∷◌, if◌then◌else◌, Option, Some, None, option_map, option_and_then, codes, nat_lt}
use Rattle.std.specs.Option.{option_map_or}
use Rattle.std.specs.List.{list_any, list_all, slice_split}
use Rattle.std.specs.Str.{bytes_eq}
use Rattle.jwt_possession.specs.Uris.{before, from, behind, without_query, is_unreserved, value_of, digit_of}

-- an octet that a path may have as itself (RFC 3986, section 3.3: pchar, and the slash between segments)
abbrev pub is_path_octet : ℕ → Bool
is_path_octet c = is_unreserved c || list_any (λ x. c == x) (codes "/:@!$&'()*+,;=")

-- the octet that two digits write
abbrev pub octet_of : ℕ → ℕ → Option ℕ
octet_of high low = option_and_then (λ h. option_map (λ l. h * 16 + l) (value_of low)) (value_of high)

-- an octet that some readers take for another part of the path once it is decoded: the two slashes, the percent sign, what begins parameters, and controls
abbrev pub is_hidden : ℕ → Bool
is_hidden octet = list_any (λ x. octet == x) (codes "/\\%;") || (nat_lt octet 32 || octet == 127)

-- these two digits write an octet in its one form, capital, that needs percent-encoding, and hides nothing
abbrev pub is_plain_triplet : ℕ → ℕ → Bool
is_plain_triplet high low =
    option_map_or (λ octet. not (is_unreserved octet) && (digit_of (octet / 16) == high && (digit_of (octet % 16) == low && not (is_hidden octet)))) (octet_of high low) false

abbrev pub begins_with_slash : List ℕ → Bool
begins_with_slash [] = false
begins_with_slash (c ∷ rest) = c == 47

-- each octet is one that a path may have, or stands in such a triplet; and no two slashes stand together
abbrev pub are_plain : List ℕ → Bool
are_plain [] = true
are_plain (a ∷ []) = is_path_octet a
are_plain (a ∷ b ∷ []) = is_path_octet a && (not (a == 47 && b == 47) && is_path_octet b)
are_plain (a ∷ b ∷ c ∷ rest) = if a == 37 then is_plain_triplet b c && are_plain rest else is_path_octet a && (not (a == 47 && b == 47) && are_plain (b ∷ c ∷ rest))

-- a segment that is no dot segment, also where what stands behind a semicolon is left out
abbrev pub is_segment : List ℕ → Bool
is_segment segment = bytes_eq segment [] || not (bytes_eq (before 59 segment) [] || (bytes_eq (before 59 segment) (codes ".") || bytes_eq (before 59 segment) (codes "..")))

-- the path begins with a slash, its octets are plain, and none of its segments is a dot segment, or empty but the last
unfoldable pub is_normal_path : List ℕ → Bool
is_normal_path path = begins_with_slash path && (are_plain path && list_all is_segment (slice_split (λ x. x == 47) path))

-- the path of what stands behind the scheme of a URI of HTTP
abbrev pub path_behind : Option (List ℕ) → Option (List ℕ) → Option (List ℕ)
path_behind (Some rest) plain = Some (from 47 rest)
path_behind None (Some rest) = Some (from 47 rest)
path_behind None None = None

-- the path of a URI of HTTP, without query and fragment
abbrev pub path_of : List ℕ → Option (List ℕ)
path_of uri = path_behind (behind (codes "https://") (without_query uri)) (behind (codes "http://") (without_query uri))

-- the path is empty, which every reader takes for `/`, or one of which every reader makes the same
abbrev pub is_agreed_path : List ℕ → Bool
is_agreed_path path = bytes_eq path [] || is_normal_path path

-- where this is a URI of HTTP, its path is such a one
abbrev pub has_agreed_path : List ℕ → Bool
has_agreed_path uri = option_map_or is_agreed_path (path_of uri) true
