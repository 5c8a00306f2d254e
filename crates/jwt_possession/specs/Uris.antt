-- One form of each URI that begins with `http://` or `https://` and has a host, without query and fragment (RFC 3986, sections 6.2.2 and 6.2.3; RFC 9449, section 4.3, step 9); a URI with the name of a user has none.
use Rattle.std.specs.Prelude.{ℕ, ◌+◌, ◌-◌, ◌*◌, ◌/◌, ◌%◌, ◌==◌, Bool, true, not, ◌&&◌, ◌||◌, List, [], ◌∷◌, ◌++◌, length, take, drop, map, min, Option, Some, None, option_map, option_and_then, codes, nat_le, nat_lt, if◌then◌else◌}
use Rattle.std.specs.List.{list_any, list_all, flat_map, slice_split, before_first, position_or_len}
use Rattle.std.specs.Str.{bytes_eq, str_eq_ignore_ascii_case}
use Rattle.std.specs.Char.{to_ascii_lowercase, is_ascii_digit}
use Rattle.jwt_policy.specs.Texts.{some_passes}

-- ---- cuts

-- the text before the first of this character, all where there is none
abbrev pub before : ℕ → List ℕ → List ℕ
before c text = before_first (λ x. x == c) text

-- the text from the first of this character on, nothing where there is none
abbrev pub from : ℕ → List ℕ → List ℕ
from c text = drop (position_or_len (λ x. x == c) text) text

-- query and fragment are left out
abbrev pub without_query : List ℕ → List ℕ
without_query uri = before 35 (before 63 uri)

-- what stands behind this scheme, in any case (RFC 3986, section 6.2.2.1)
abbrev pub behind : List ℕ → List ℕ → Option (List ℕ)
behind scheme text = if str_eq_ignore_ascii_case (take (length scheme) text) scheme then Some (drop (length scheme) text) else None

-- ---- the authority: a host, and nothing, a colon, or a colon and digits (RFC 3986, section 3.2); no name of a user (RFC 9110, section 4.2.4)

-- how long the host is: an address in brackets with these, any other up to a colon
abbrev pub host_length : List ℕ → ℕ
host_length authority =
    if bytes_eq (take 1 authority) (codes "[") then min (position_or_len (λ x. x == 93) authority + 1) (length authority) else position_or_len (λ x. x == 58) authority

abbrev pub host_of : List ℕ → List ℕ
host_of authority = take (host_length authority) authority

abbrev pub port_of : List ℕ → List ℕ
port_of authority = drop (host_length authority) authority

abbrev pub is_port : List ℕ → Bool
is_port [] = true
is_port (colon ∷ digits) = (colon == 58) && list_all is_ascii_digit digits

abbrev pub is_authority : List ℕ → Bool
is_authority authority = not (list_any (λ x. x == 64) authority) && (nat_lt 0 (length (host_of authority)) && is_port (port_of authority))

-- no port where it is the scheme's own, or the colon stands alone (RFC 3986, section 6.2.3)
abbrev pub normal_port : List ℕ → List ℕ → List ℕ
normal_port own port = if bytes_eq port own || bytes_eq port (codes ":") then [] else port

-- ---- percent-encoding (RFC 3986, sections 2.3 and 6.2.2.2)

abbrev pub is_between : ℕ → ℕ → ℕ → Bool
is_between least most c = nat_le least c && nat_le c most

abbrev pub is_unreserved : ℕ → Bool
is_unreserved c = is_between 65 90 c || (is_between 97 122 c || (is_between 48 57 c || list_any (λ x. c == x) (codes "-._~")))

-- the value of a hexadecimal digit, in any case
abbrev pub value_of : ℕ → Option ℕ
value_of c = if is_between 48 57 c then Some (c - 48) else if is_between 65 70 c then Some (c - 55) else if is_between 97 102 c then Some (c - 87) else None

-- the capital digit of a value
abbrev pub digit_of : ℕ → ℕ
digit_of n = if nat_le n 9 then n + 48 else n + 55

-- an octet that stands in percent-encoding: as itself where it is unreserved, else encoded by capital digits
abbrev pub normal_octet : ℕ → List ℕ
normal_octet octet = if is_unreserved octet then octet ∷ [] else 37 ∷ digit_of (octet / 16) ∷ digit_of (octet % 16) ∷ []

abbrev pub normal_triplet : ℕ → ℕ → Option (List ℕ)
normal_triplet high low = option_and_then (λ h. option_map (λ l. normal_octet (h * 16 + l)) (value_of low)) (value_of high)

-- The text with each octet that stands in percent-encoding in that form; none where a percent sign has no two digits behind it.
abbrev pub decoded : List ℕ → Option (List ℕ)
decoded [] = Some []
decoded (a ∷ []) = if a == 37 then None else Some (a ∷ [])
decoded (a ∷ b ∷ []) = if a == 37 then None else if b == 37 then None else Some (a ∷ b ∷ [])
decoded (a ∷ b ∷ c ∷ rest) =
    if a == 37 then option_and_then (λ front. option_map (λ more. front ++ more) (decoded rest)) (normal_triplet b c)
    else option_map (λ more. a ∷ more) (decoded (b ∷ c ∷ rest))

-- ---- dot segments (RFC 3986, sections 5.2.4 and 6.2.2.3)

abbrev pub without_last : List (List ℕ) → List (List ℕ)
without_last done = take (length done - 1) done

-- what the last segment leaves: a dot segment leaves the empty one
abbrev pub ended : List (List ℕ) → List ℕ → List (List ℕ)
ended done last = if bytes_eq last (codes ".") then done ++ [] ∷ [] else if bytes_eq last (codes "..") then without_last done ++ [] ∷ [] else done ++ last ∷ []

-- what any other leaves
abbrev pub gone_on : List (List ℕ) → List ℕ → List (List ℕ)
gone_on done segment = if bytes_eq segment (codes ".") then done else if bytes_eq segment (codes "..") then without_last done else done ++ segment ∷ []

-- the segments that are left, behind those that are done
abbrev pub left : List (List ℕ) → List (List ℕ) → List (List ℕ)
left done [] = done
left done (segment ∷ []) = ended done segment
left done (segment ∷ next ∷ more) = left (gone_on done segment) (next ∷ more)

-- each segment with its slash
abbrev pub joined : List (List ℕ) → List ℕ
joined segments = flat_map (λ segment. 47 ∷ segment) segments

-- a path without dot segments; the empty one is `/` (RFC 3986, section 6.2.3)
abbrev pub normal_path : List ℕ → List ℕ
normal_path [] = codes "/"
normal_path (slash ∷ path) = joined (left [] (slice_split (λ x. x == 47) path))

-- ---- the form

-- of what stands behind this scheme, whose own port is this one
abbrev pub normal_behind : List ℕ → List ℕ → List ℕ → Option (List ℕ)
normal_behind scheme own rest =
    if is_authority (before 47 rest) then option_and_then (λ host. option_map (λ path.
    scheme ++ (map to_ascii_lowercase host ++ (normal_port own (port_of (before 47 rest)) ++ normal_path path)))
    (decoded (from 47 rest))) (decoded (host_of (before 47 rest)))
    else None

abbrev pub normal_of : Option (List ℕ) → Option (List ℕ) → Option (List ℕ)
normal_of (Some rest) plain = normal_behind (codes "https://") (codes ":443") rest
normal_of None (Some rest) = normal_behind (codes "http://") (codes ":80") rest
normal_of None None = None

-- the normal form: none where the text doesn't begin with `http://` or `https://`, where a host is lacking or a user's name stands before it, where the port is no
-- number, or where a percent sign in host or path has no two digits behind it
unfoldable pub normal_uri : List ℕ → Option (List ℕ)
normal_uri uri = normal_of (behind (codes "https://") (without_query uri)) (behind (codes "http://") (without_query uri))

-- both have one normal form
abbrev pub same_uri : List ℕ → List ℕ → Bool
same_uri one two = some_passes (λ normal. some_passes (bytes_eq normal) (normal_uri two)) (normal_uri one)
