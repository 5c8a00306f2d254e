-- A URL from which something is fetched, by its parts (RFC 3986, section 3): scheme "://" host [ ":" port ] path [ "?" query ].
use Rattle.std.specs.Prelude.{[], ◌∷◌, ◌==◌, ◌+◌, ◌-◌, ◌||◌, ◌&&◌, ◌≤◌, nat_le, not, ℕ, List, Bool, true, false, codes, length, take, drop, slice_index, if◌then◌else◌, Option, Some, None}
use Rattle.std.specs.List.{prefix_len, list_all, list_any}
use Rattle.std.specs.Char.{is_ascii_alphanumeric, is_ascii_digit, is_ascii_hexdigit}
use Rattle.std.specs.Str.{str_eq_ignore_ascii_case}
use Rattle.std.specs.Str.Parse.{digits_value}
use Rattle.jwt_request.specs.declared.urls.kind.Kind.{Kind}
use Rattle.jwt_request.specs.declared.urls.kind.Kind.TheVariants.{Name, Literal, Digit, Target, Path, Segment, First}
use Rattle.jwt_request.specs.declared.urls.url.Url.{Url}

-- the octets of a kind: of a host's name and of an address in brackets (section 3.2.2, without what clients read in several ways); a digit (section 3.2.3);
-- an octet of path and query (sections 3.3 and 3.4), of the path alone, of one segment of it; and of what stands before the first colon, slash and question
-- mark
abbrev pub is_of : Kind → ℕ → Bool
is_of Name c = is_ascii_alphanumeric c || list_any (λ x. x == c) (codes "-._")
is_of Literal c = is_ascii_hexdigit c || list_any (λ x. x == c) (codes ":.")
is_of Digit c = is_ascii_digit c
is_of Target c = is_ascii_alphanumeric c || list_any (λ x. x == c) (codes "-._~!$&'()*+,;=:@/?%")
is_of Path c = not (c == 63)
is_of Segment c = not (c == 47)
is_of First c = not (c == 58 || c == 47 || c == 63)

-- how many octets of that kind stand at the front
abbrev pub run : Kind → List ℕ → ℕ
run kind octets = prefix_len (is_of kind) octets

-- the scheme, with what parts it from the host, in any case of letters (section 3.1)
abbrev pub scheme_of : Bool → List ℕ
scheme_of https = if https then codes "https://" else codes "http://"

abbrev pub has_scheme : Bool → List ℕ → Bool
has_scheme https url = str_eq_ignore_ascii_case (take (length (scheme_of https)) url) (scheme_of https)

-- how many octets the host has at the front: an address in brackets, or a name; 0: there is none
abbrev pub address_len : List ℕ → ℕ → ℕ
address_len octets inner = if (nat_le 1 inner) && (slice_index octets (inner + 1) == 93) then inner + 2 else 0

abbrev pub host_len : List ℕ → ℕ
host_len octets = if slice_index octets 0 == 91 then address_len octets (run Literal (drop 1 octets)) else run Name octets

-- the digits of the port, and how many octets they have with their colon
abbrev pub has_port : List ℕ → Bool
has_port octets = slice_index octets 0 == 58

abbrev pub port_digits : List ℕ → List ℕ
port_digits octets = take (run Digit (drop 1 octets)) (drop 1 octets)

abbrev pub port_len : List ℕ → ℕ
port_len octets = if has_port octets then run Digit (drop 1 octets) + 1 else 0

-- the port: where none is named it is that of the scheme (RFC 9110, sections 4.2.1 and 4.2.2)
abbrev pub port_of : Bool → List ℕ → ℕ
port_of https octets = if has_port octets then digits_value 10 (port_digits octets) else (if https then 443 else 80)

-- digits, whose number is one of a port; or no port
abbrev pub is_port : List ℕ → Bool
is_port octets = not (has_port octets) || (nat_le 1 (length (port_digits octets)) && nat_le (digits_value 10 (port_digits octets)) 65535)

-- each percent sign has two digits of its octet behind it (section 2.1)
abbrev pub are_escapes : List ℕ → Bool
are_escapes [] = true
are_escapes (c ∷ rest) = (not (c == 37) || (is_ascii_hexdigit (slice_index rest 0) && is_ascii_hexdigit (slice_index rest 1))) && are_escapes rest

-- path and query: nothing, or a slash or a question mark and what RFC 3986 allows in them
abbrev pub is_target : List ℕ → Bool
is_target octets =
    (length octets == 0 || slice_index octets 0 == 47 || slice_index octets 0 == 63) && list_all (is_of Target) octets && are_escapes octets

-- what stands behind the scheme, behind the host, and behind the port
abbrev pub behind_scheme : Bool → List ℕ → List ℕ
behind_scheme https url = drop (length (scheme_of https)) url

abbrev pub behind_host : List ℕ → List ℕ
behind_host octets = drop (host_len octets) octets

abbrev pub behind_port : List ℕ → List ℕ
behind_port octets = drop (port_len (behind_host octets)) (behind_host octets)

-- a host, a port or none, and path and query: no name and no password stand before the host, and no fragment stands behind
abbrev pub is_laid : List ℕ → Bool
is_laid octets = nat_le 1 (host_len octets) && is_port (behind_host octets) && is_target (behind_port octets)

-- the parts of a URL of that scheme, from what stands behind the scheme
abbrev pub parts_behind : Bool → List ℕ → Url
parts_behind https octets =
    record {
      is_https = https;
      host = length (scheme_of https);
      host_end = length (scheme_of https) + host_len octets;
      port = port_of https (behind_host octets);
      target = length (scheme_of https) + host_len octets + port_len (behind_host octets);
    }

-- a URL of that scheme, by its parts
abbrev pub url_of_scheme : Bool → List ℕ → Option Url
url_of_scheme https url =
    if has_scheme https url && is_laid (behind_scheme https url) then Some (parts_behind https (behind_scheme https url)) else None

-- a URL from which something may be fetched: https, or http where that is allowed
unfoldable pub url_where : Bool → List ℕ → Option Url
url_where allows_http url = if has_scheme true url then url_of_scheme true url else (if allows_http then url_of_scheme false url else None)

-- the host; the same origin: scheme, host and port, where the case of a host's letters says nothing (RFC 6454, section 4)
abbrev pub host_of : Url → List ℕ → List ℕ
host_of at url = take (at.host_end - at.host) (drop at.host url)

abbrev pub same_scheme : Url → Url → Bool
same_scheme at at' = if at.is_https then at'.is_https else not at'.is_https

abbrev pub same_origin : Url → List ℕ → Url → List ℕ → Bool
same_origin at url at' url' = same_scheme at at' && at.port == at'.port && str_eq_ignore_ascii_case (host_of at url) (host_of at' url')

-- the parts of a URL stand one behind the other
pub record IsPlaced (at : Url) (url : List ℕ) : Type 0 where
  pub scheme : 7 ≤ at.host
  pub host : at.host ≤ at.host_end
  pub port : at.host_end ≤ at.target
  pub target : at.target ≤ length url
