-- Where a redirection leads (RFC 9110, section 10.2.2; RFC 3986, section 5).
use Rattle.std.specs.Prelude.{[], ◌∷◌, ◌++◌, ◌==◌, ◌+◌, ◌-◌, ◌||◌, ◌&&◌, nat_le, not, ℕ, List, Bool, true, false, length, take, drop, slice_index, if◌then◌else◌, Option, Some, None}
use Rattle.std.specs.List.{suffix_len}
use Rattle.jwt_request.specs.declared.urls.kind.Kind.TheVariants.{Path, Segment, First}
use Rattle.jwt_request.specs.declared.urls.url.Url.{Url}
use Rattle.jwt_request.specs.urls.Urls.{is_of, run, url_where, same_origin}

-- it has a scheme: a colon stands before each slash and question mark (section 4.2)
abbrev pub is_whole : List ℕ → Bool
is_whole location = slice_index location (run First location) == 58

-- the path of a URL
abbrev pub path_of : Url → List ℕ → List ℕ
path_of at url = take (run Path (drop at.target url)) (drop at.target url)

-- how many octets of the path stand before its last segment
abbrev pub folder_len : List ℕ → ℕ
folder_len path = length path - suffix_len (is_of Segment) path

-- how much of the URL that was asked stays (section 5.2.2): nothing, of a whole URL; its scheme; its origin; what stands before the query; or what stands
-- before the last segment of its path
abbrev pub kept_len : Url → List ℕ → List ℕ → ℕ
kept_len at url location =
    if is_whole location then 0
    else (if slice_index location 0 == 47 then (if slice_index location 1 == 47 then at.host - 2 else at.target)
    else (if slice_index location 0 == 63 then at.target + length (path_of at url)
    else at.target + folder_len (path_of at url)))

-- a slash parts a relative path from a host without any path (section 5.2.3)
abbrev pub needs_slash : Url → List ℕ → List ℕ → Bool
needs_slash at url location =
    length (path_of at url) == 0 && not (is_whole location) && not (slice_index location 0 == 47) && not (slice_index location 0 == 63)

abbrev pub slash_where : Bool → List ℕ
slash_where needed = if needed then 47 ∷ [] else []

abbrev pub referred : Url → List ℕ → List ℕ → List ℕ
referred at url location = take (kept_len at url location) url ++ slash_where (needs_slash at url location) ++ location

-- a segment "." or ".." stands at the front: these are resolved nowhere here
abbrev pub ends_at : List ℕ → ℕ → Bool
ends_at path n = nat_le (length path) n || slice_index path n == 47

abbrev pub is_dots : List ℕ → Bool
is_dots path = slice_index path 0 == 46 && (ends_at path 1 || (slice_index path 1 == 46 && ends_at path 2))

-- one stands behind some slash
abbrev pub has_dots_behind : List ℕ → Bool
has_dots_behind [] = false
has_dots_behind (c ∷ rest) = (c == 47 && is_dots rest) || has_dots_behind rest

abbrev pub has_dots : List ℕ → Bool
has_dots path = is_dots path || has_dots_behind path

-- a reference that is followed at all: there is one, and no segment of its path is "." or ".."
abbrev pub is_reference : List ℕ → Bool
is_reference location = nat_le 1 (length location) && not (has_dots (take (run Path location) location))

-- the URL is one, and of the same origin
abbrev pub is_within : Url → List ℕ → List ℕ → Option Url → Bool
is_within at url next None = false
is_within at url next (Some at') = same_origin at url at' next

-- the URL that is asked next
abbrev pub followed : Option Url → List ℕ → List ℕ → Option (List ℕ)
followed None url location = None
followed (Some at) url location =
    if is_reference location && is_within at url (referred at url location) (url_where true (referred at url location))
    then Some (referred at url location)
    else None

-- the URL to which a redirection leads; none, where it isn't followed
unfoldable pub redirection : List ℕ → List ℕ → Option (List ℕ)
redirection url location = followed (url_where true url) url location
