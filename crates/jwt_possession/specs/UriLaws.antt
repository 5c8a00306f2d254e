-- Laws of normal forms, and the examples of RFC 3986.
use Rattle.std.specs.Prelude.{◌≡◌, ◌≢◌, ◌↔◌, ◌==◌, ℕ, Bool, true, List, map, Option, Some, is_some, option_map, option_and_then, codes, if◌then◌else◌}
use Rattle.std.specs.List.{All, slice_split}
use Rattle.std.specs.Option.{option_or}
use Rattle.std.specs.Char.{to_ascii_lowercase}
use Rattle.jwt_possession.specs.Uris.{behind, before, from, without_query, host_of, port_of, normal_port, decoded, normal_path, normal_uri, same_uri}

-- a normal form is its own normal form
abbrev pub NormalIsNormal : Type 0
NormalIsNormal = (uri normal : List ℕ) → normal_uri uri ≡ Some normal → normal_uri normal ≡ Some normal

-- a URI is one with its normal form
abbrev pub SameAsItsNormal : Type 0
SameAsItsNormal = (uri normal : List ℕ) → normal_uri uri ≡ Some normal → same_uri uri normal ≡ true

abbrev pub SameBothWays : Type 0
SameBothWays = (one two : List ℕ) → same_uri one two ≡ same_uri two one

abbrev pub SameThroughout : Type 0
SameThroughout = (one two three : List ℕ) → same_uri one two ≡ true → same_uri two three ≡ true → same_uri one three ≡ true

-- whether the scheme is `https` (RFC 3986, section 3.1)
abbrev pub is_secure : List ℕ → Bool
is_secure uri = is_some (behind (codes "https://") (without_query uri))

-- what stands behind the scheme
abbrev pub rest_of : List ℕ → Option (List ℕ)
rest_of uri = option_or (behind (codes "https://") (without_query uri)) (behind (codes "http://") (without_query uri))

-- the host, decoded as far as it may be, in small letters (section 6.2.2.1)
abbrev pub host_form : List ℕ → Option (List ℕ)
host_form uri = option_map (map to_ascii_lowercase) (option_and_then (λ rest. decoded (host_of (before 47 rest))) (rest_of uri))

-- the port with its colon, unless it is the scheme's own (section 6.2.3)
abbrev pub port_form : List ℕ → Option (List ℕ)
port_form uri = option_map (λ rest. normal_port (if is_secure uri then codes ":443" else codes ":80") (port_of (before 47 rest))) (rest_of uri)

-- the path, decoded as far as it may be, without dot segments (sections 6.2.2.2 and 6.2.2.3)
abbrev pub path_form : List ℕ → Option (List ℕ)
path_form uri = option_map normal_path (option_and_then (λ rest. decoded (from 47 rest)) (rest_of uri))

-- two have the same scheme, host, port and path
pub record AreAlike (one two : List ℕ) : Type 0 where
  pub scheme : is_secure one ≡ is_secure two
  pub host : host_form one ≡ host_form two
  pub port : port_form one ≡ port_form two
  pub path : path_form one ≡ path_form two

-- two that have a normal form are one exactly where they are alike: no part runs into another
abbrev pub SameByParts : Type 0
SameByParts = (one two first second : List ℕ) → normal_uri one ≡ Some first → normal_uri two ≡ Some second → (same_uri one two ≡ true) ↔ AreAlike one two

-- the path of a normal form has no dot segments
abbrev pub NoDots : Type 0
NoDots = (uri path : List ℕ) → path_form uri ≡ Some path → All (λ segment. (segment ≢ codes ".") × (segment ≢ codes "..")) (slice_split (λ x. x == 47) path)

-- the examples of RFC 3986, by `http` where they have another scheme or none
pub record NormalExamples : Type 0 where
  -- section 6.2.2
  pub formed : normal_uri (codes "http://a/b/c/%7Bfoo%7D") ≡ Some (codes "http://a/b/c/%7Bfoo%7D")
  pub unformed : normal_uri (codes "hTTP://a/./b/../b/%63/%7bfoo%7d") ≡ Some (codes "http://a/b/c/%7Bfoo%7D")
  -- section 6.2.2.1
  pub capitals : normal_uri (codes "HTTP://www.EXAMPLE.com/") ≡ Some (codes "http://www.example.com/")
  -- section 6.2.3
  pub no_path : normal_uri (codes "http://example.com") ≡ Some (codes "http://example.com/")
  pub root : normal_uri (codes "http://example.com/") ≡ Some (codes "http://example.com/")
  pub empty_port : normal_uri (codes "http://example.com:/") ≡ Some (codes "http://example.com/")
  pub own_port : normal_uri (codes "http://example.com:80/") ≡ Some (codes "http://example.com/")
  -- section 5.2.4
  pub dots : normal_uri (codes "http://a/a/b/c/./../../g") ≡ Some (codes "http://a/a/g")
  pub dots_of_a_segment : normal_uri (codes "http://a/mid/content=5/../6") ≡ Some (codes "http://a/mid/6")
