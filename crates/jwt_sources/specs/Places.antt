-- Where the keys of an issuer stand.
use Rattle.std.specs.Prelude.{◌≡◌, ◌⊎◌, ℕ, false, List, Option, Some, None}
use Rattle.jwt_request.specs.declared.urls.answers.Asked.{Asked}
use Rattle.jwt_request.specs.declared.urls.answers.Asked.TheVariants.{Keys as KeySet, OpenId, OAuth}
use Rattle.jwt_request.specs.declared.urls.metadata.Metadata.TheVariants.{OpenId as OfOpenId, OAuth as OfOAuth}
use Rattle.jwt_request.specs.urls.Metadata.{metadata_url}
use Rattle.jwt_request.specs.urls.Urls.{url_where}
use Rattle.jwt_sources.specs.declared.place.Place.{Place}
use Rattle.jwt_sources.specs.declared.place.Place.TheVariants.{File, Url, Issuer}
use Rattle.jwt_sources.specs.declared.place.Issuer.{Issuer as AnIssuer}

-- a place as its octets: two places that have the same are one
pub data Named : Type 0 where
  in_file : List ℕ → Named
  at_url : List ℕ → Named
  of_issuer : List ℕ → List ℕ → List ℕ → Named

abbrev pub named : Place → Named
named (File name) = in_file name.items
named (Url url) = at_url url.items
named (Issuer it) = of_issuer it.name.items it.openid.items it.oauth.items

-- an issuer has metadata where it is a URL of `https` without a query (RFC 8414, section 2): they stand where RFC 8414, section 3, and OpenID Connect Discovery
-- 1.0, section 4, say
abbrev pub IsIssuer : List ℕ → Option AnIssuer → Type 0
IsIssuer name None = (url_where false name ≡ None) ⊎ (metadata_url OfOpenId name ≡ None) ⊎ (metadata_url OfOAuth name ≡ None)
IsIssuer name (Some it) =
    (at : _) × (url_where false name ≡ Some at) × (it.name.items ≡ name) × (metadata_url OfOpenId name ≡ Some it.openid.items) × (metadata_url OfOAuth name ≡ Some it.oauth.items)

-- what is asked for first of a place
abbrev pub first_of : Place → Asked
first_of (File name) = KeySet
first_of (Url url) = KeySet
first_of (Issuer it) = OpenId

-- where that stands
abbrev pub url_of_issuer : List ℕ → List ℕ → Asked → List ℕ
url_of_issuer openid oauth KeySet = openid
url_of_issuer openid oauth OpenId = openid
url_of_issuer openid oauth OAuth = oauth

abbrev pub url_at : Place → Asked → List ℕ
url_at (File name) asked = name.items
url_at (Url url) asked = url.items
url_at (Issuer it) asked = url_of_issuer it.openid.items it.oauth.items asked
