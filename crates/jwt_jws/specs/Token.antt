-- A signed token (RFC 7515), as the crates above see it.
use Rattle.std.specs.Prelude.{ℕ, List, Bool, ◌||◌, false, Option, codes, option_and_then}
use Rattle.std.specs.Option.{option_map_or, option_or}
use Rattle.serde_json.specs.Data.{Members}
use Rattle.serde_json.specs.Find.{get_member, as_str}
use Rattle.jwt_text.specs.Members.{has, text_at}
use Rattle.jwt_mac.specs.Verifying.{MessageOctets}
use Rattle.jwt_jws.specs.declared.fault.Form.{Form}

-- one signature: the protected text, the protected header, the unprotected header where there is one, and the octets of
-- the signature
pub record SignatureParts : Type 0 where
  pub protected_text : List ℕ
  pub protected : Members
  pub unprotected : Option Members
  pub octets : List ℕ

pub record Token : Type 0 where
  pub form : Form
  pub payload_text : List ℕ
  pub payload : List ℕ
  pub signatures : List SignatureParts

-- what a signature signs: the protected text, a period, the payload text (RFC 7515, section 5.1)
abbrev pub message_of : Token → SignatureParts → MessageOctets
message_of token signature = record { protected = signature.protected_text; payload = token.payload_text }

-- ---- the JOSE header, which is the union of the protected and the unprotected header (RFC 7515, section 4)

abbrev pub in_unprotected : List ℕ → SignatureParts → Bool
in_unprotected name signature = option_map_or (has name) signature.unprotected false

abbrev pub in_header : List ℕ → SignatureParts → Bool
in_header name signature = has name signature.protected || in_unprotected name signature

-- the algorithm's name, from the protected header alone (RFC 7515, section 4.1.1)
abbrev pub alg_text : SignatureParts → Option (List ℕ)
alg_text signature = text_at (codes "alg") signature.protected

-- the key id, from either header (RFC 7515, section 4.1.4)
abbrev pub kid : SignatureParts → Option (List ℕ)
kid signature = option_and_then as_str
    (option_or (get_member (codes "kid") signature.protected) (option_and_then (get_member (codes "kid")) signature.unprotected))
