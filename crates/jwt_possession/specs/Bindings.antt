-- How an access token is bound: its claim `cnf` (RFC 7800, section 3.1).
use Rattle.std.specs.Prelude.{ℕ, List, Bool, Option, codes, option_and_then}
use Rattle.serde_json.specs.Data.{Members}
use Rattle.jwt_text.specs.Members.{has, text_at, object_at}
use Rattle.jwt_text.specs.Base64url.{spelling}
use Rattle.jwt_mac.specs.Algorithm.{sha256_of}

-- the token has a claim `cnf`
abbrev pub is_bound : Members → Bool
is_bound claims = has (codes "cnf") claims

abbrev pub confirmation : List ℕ → Members → Option (List ℕ)
confirmation name claims = option_and_then (text_at name) (object_at (codes "cnf") claims)

-- the thumbprint of the key that it is bound to (RFC 9449, section 6.1)
abbrev pub bound_key : Members → Option (List ℕ)
bound_key claims = confirmation (codes "jkt") claims

-- the text of the digest of the certificate that it is bound to (RFC 8705, section 3.1)
abbrev pub bound_certificate : Members → Option (List ℕ)
bound_certificate claims = confirmation (codes "x5t#S256") claims

-- base64url of the SHA-256 digest of octets: of an access token for `ath` (RFC 9449, section 4.2), of a certificate's DER for `x5t#S256`
abbrev pub digest_text : List ℕ → List ℕ
digest_text octets = spelling (sha256_of octets)
