-- What a location gives, in the words of RFC 3986.
use Rattle.std.specs.Prelude.{◌≡◌, ◌≢◌, ◌⊎◌, ◌++◌, ◌-◌, ℕ, List, [], ◌∷◌, true, false, codes, take, slice_index, Option, Some, None}
use Rattle.std.specs.List.{list_all}
use Rattle.std.specs.Str.{str_eq_ignore_ascii_case}
use Rattle.jwt_request.specs.declared.urls.url.Url.{Url}
use Rattle.jwt_request.specs.declared.urls.kind.Kind.TheVariants.{Segment}
use Rattle.jwt_request.specs.urls.Urls.{host_of, is_of, url_where}
use Rattle.jwt_request.specs.urls.References.{is_whole, path_of, redirection, referred}

-- the text that a location gives, whether it is followed or not. It is that of section 5.2.2 where the location is neither empty nor has a fragment, and no
-- segment is "." or "..". A location of what is no URL gives none
abbrev pub text_referred : Option Url → List ℕ → List ℕ → Option (List ℕ)
text_referred None url location = None
text_referred (Some at) url location = Some (referred at url location)

unfoldable pub location_text : List ℕ → List ℕ → Option (List ℕ)
location_text url location = text_referred (url_where true url) url location

-- the URL that is asked in the examples of section 5.4
abbrev pub base : List ℕ
base = codes "http://a/b/c/d;p?q"

-- the location gives the text that stands there, and is followed; or isn't
abbrev pub Follows : List ℕ → List ℕ → Type 0
Follows location text = (location_text base location ≡ Some text) × (redirection base location ≡ Some text)

abbrev pub Refuses : List ℕ → List ℕ → Type 0
Refuses location text = (location_text base location ≡ Some text) × (redirection base location ≡ None)

-- each example of section 5.4.1, and three of section 5.4.2
pub record Examples : Type 0 where
  pub name : Follows (codes "g") (codes "http://a/b/c/g")
  pub folder : Follows (codes "g/") (codes "http://a/b/c/g/")
  pub path : Follows (codes "/g") (codes "http://a/g")
  pub query : Follows (codes "?y") (codes "http://a/b/c/d;p?y")
  pub name_query : Follows (codes "g?y") (codes "http://a/b/c/g?y")
  pub parameter : Follows (codes ";x") (codes "http://a/b/c/;x")
  pub name_parameter : Follows (codes "g;x") (codes "http://a/b/c/g;x")
  -- dots in a query are no segments
  pub query_dot : Follows (codes "g?y/./x") (codes "http://a/b/c/g?y/./x")
  pub query_dots : Follows (codes "g?y/../x") (codes "http://a/b/c/g?y/../x")
  -- another scheme, no host, and another host
  pub scheme : Refuses (codes "g:h") (codes "g:h")
  pub scheme_alone : Refuses (codes "http:g") (codes "http:g")
  pub host : Refuses (codes "//g") (codes "http://g")
  -- a fragment
  pub name_fragment : Refuses (codes "g#s") (codes "http://a/b/c/g#s")
  pub query_fragment : Refuses (codes "g?y#s") (codes "http://a/b/c/g?y#s")
  pub all_of_them : Refuses (codes "g;x?y#s") (codes "http://a/b/c/g;x?y#s")
  -- a fragment alone, nothing, and segments of dots, of which the text isn't the section's
  pub fragment : redirection base (codes "#s") ≡ None
  pub nothing : redirection base (codes "") ≡ None
  pub dot_name : redirection base (codes "./g") ≡ None
  pub dot : redirection base (codes ".") ≡ None
  pub dot_folder : redirection base (codes "./") ≡ None
  pub dots : redirection base (codes "..") ≡ None
  pub dots_folder : redirection base (codes "../") ≡ None
  pub dots_name : redirection base (codes "../g") ≡ None
  pub dots_twice : redirection base (codes "../..") ≡ None
  pub dots_twice_folder : redirection base (codes "../../") ≡ None
  pub dots_twice_name : redirection base (codes "../../g") ≡ None

-- two URLs of the same scheme, host, in any case of letters, and port
pub record AreOfOneOrigin (url next : List ℕ) : Type 0 where
  pub at : Url
  pub at_next : Url
  pub is_url : url_where true url ≡ Some at
  pub next_is_url : url_where true next ≡ Some at_next
  pub scheme : at_next.is_https ≡ at.is_https
  pub host : str_eq_ignore_ascii_case (host_of at url) (host_of at_next next) ≡ true
  pub port : at_next.port ≡ at.port

-- a redirection leads to the text that its location gives, which is a URL of the origin of the one that was asked
abbrev pub LeadsWithin : Type 0
LeadsWithin = (url location next : List ℕ) → redirection url location ≡ Some next → (location_text url location ≡ Some next) × AreOfOneOrigin url next

-- a path without its last segment, or a slash where there is no path (section 5.2.3)
abbrev pub IsFolder : List ℕ → List ℕ → Type 0
IsFolder path folder =
    ((path ≡ []) × (folder ≡ 47 ∷ []))
    ⊎ ((front last : List ℕ) × (folder ≡ front ++ 47 ∷ []) × (path ≡ folder ++ last) × (list_all (is_of Segment) last ≡ true))

-- the cases of section 5.2.2: of the URL that was asked nothing stays; or its scheme; or its scheme and authority; or its path, too; or its path without the
-- last segment
pub record IsTransformed (at : Url) (url location text : List ℕ) : Type 0 where
  pub scheme : is_whole location ≡ true → text ≡ location
  pub authority : is_whole location ≡ false → slice_index location 0 ≡ 47 → slice_index location 1 ≡ 47 → text ≡ take (at.host - 2) url ++ location
  pub path : is_whole location ≡ false → slice_index location 0 ≡ 47 → slice_index location 1 ≢ 47 → text ≡ take at.target url ++ location
  pub query : is_whole location ≡ false → slice_index location 0 ≡ 63 → text ≡ take at.target url ++ path_of at url ++ location
  pub name : is_whole location ≡ false → slice_index location 0 ≢ 47 → slice_index location 0 ≢ 63
      → (folder : List ℕ) × IsFolder (path_of at url) folder × (text ≡ take at.target url ++ folder ++ location)

abbrev pub Transforms : Type 0
Transforms = (at : Url) (url location text : List ℕ) → url_where true url ≡ Some at → location_text url location ≡ Some text → IsTransformed at url location text
