-- Where the metadata of an issuer stand.
use Rattle.std.specs.Prelude.{◌++◌, List, ℕ, codes, take, drop, if◌then◌else◌, true, Option, Some, None}
use Rattle.std.specs.List.{list_all}
use Rattle.std.specs.Io.BufRead.{strip_last}
use Rattle.jwt_request.specs.declared.urls.kind.Kind.TheVariants.{Path}
use Rattle.jwt_request.specs.declared.urls.url.Url.{Url}
use Rattle.jwt_request.specs.declared.urls.metadata.Metadata.{Metadata}
use Rattle.jwt_request.specs.declared.urls.metadata.Metadata.TheVariants.{OpenId, OAuth}
use Rattle.jwt_request.specs.urls.Urls.{is_of, url_where}

-- of OpenID Connect Discovery 1.0 behind the issuer, whose final slash is dropped (section 4); of RFC 8414 between its host and its path, whose final slash
-- is dropped (section 3)
abbrev pub metadata_of : Metadata → ℕ → List ℕ → List ℕ
metadata_of OpenId target issuer = take target issuer ++ strip_last 47 (drop target issuer) ++ codes "/.well-known/openid-configuration"
metadata_of OAuth target issuer = take target issuer ++ codes "/.well-known/oauth-authorization-server" ++ strip_last 47 (drop target issuer)

-- of an issuer that is a URL without a query (RFC 8414, section 2); else there is none
abbrev pub metadata_where : Metadata → Option Url → List ℕ → Option (List ℕ)
metadata_where which None issuer = None
metadata_where which (Some at) issuer = if list_all (is_of Path) (drop at.target issuer) then Some (metadata_of which at.target issuer) else None

-- the URL of these metadata of an issuer
unfoldable pub metadata_url : Metadata → List ℕ → Option (List ℕ)
metadata_url which issuer = metadata_where which (url_where true issuer) issuer
