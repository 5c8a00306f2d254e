-- How the parts of a URL, and what follows on an answer, cross to C: as numbers.
use Rattle.std.specs.Prelude.{ℕ, List, ◌==◌, if◌then◌else◌, codes, Option, Result}
use Rattle.serde_json.specs.Data.{Members}
use Rattle.jwt_text.specs.declared.fault.TextFault.{TextFault}
use Rattle.jwt_request.specs.declared.urls.url.Url.{Url}
use Rattle.jwt_request.specs.declared.urls.metadata.Metadata.{Metadata}
use Rattle.jwt_request.specs.declared.urls.metadata.Metadata.TheVariants as metadata
use Rattle.jwt_request.specs.declared.urls.answers.Asked.{Asked}
use Rattle.jwt_request.specs.declared.urls.answers.Asked.TheVariants.{Keys, OpenId, OAuth}
use Rattle.jwt_request.specs.declared.urls.answers.Next.{Next}
use Rattle.jwt_request.specs.declared.urls.answers.Next.TheVariants.{Take, Follow, AskOAuth, TooOften, Fail}
use Rattle.jwt_handles.specs.declared.urls.FowUrl.{FowUrl}
use Rattle.jwt_handles.specs.Issuers.{text_in}

abbrev pub parts_of : FowUrl → Url
parts_of it = record { is_https = it.https == 1; host = it.host; host_end = it.host_end; port = it.port; target = it.target }

-- what is asked for, by number; any other number is that of a key set
abbrev pub asked_of : ℕ → Asked
asked_of number = if number == 1 then OpenId else (if number == 2 then OAuth else Keys)

-- the metadata that are asked for: those of RFC 8414, or else those of OpenID Connect Discovery
abbrev pub metadata_at : ℕ → Metadata
metadata_at number = if number == 2 then metadata.OAuth else metadata.OpenId

-- what follows on an answer, by number
abbrev pub next_at : ℕ → Next
next_at number =
    if number == 1 then Take
    else (if number == 2 then Follow
    else (if number == 3 then AskOAuth
    else (if number == 4 then TooOften else Fail)))

-- whose metadata they are, and where its keys stand (RFC 8414, section 2): two texts of an object text
abbrev pub metadata_issuer : Result Members TextFault → Option (List ℕ)
metadata_issuer document = text_in (codes "issuer") document

abbrev pub metadata_keys : Result Members TextFault → Option (List ℕ)
metadata_keys document = text_in (codes "jwks_uri") document
