-- The public key that stands in a token's own header (RFC 7515, section 4.1.3; RFC 9449, section 4.2).
use Rattle.std.specs.Prelude.{Bool, ◌||◌, Some, Result, Err, codes, if◌then◌else◌}
use Rattle.serde_json.specs.Data.{Members}
use Rattle.jwt_text.specs.Members.{has, object_at}
use Rattle.jwt_text.specs.Answers.{◌>>=◌, some_or, or_fault}
use Rattle.jwt_jws.specs.Token.{SignatureParts}
use Rattle.jwt_keys.specs.Keys.{KeyParts}
use Rattle.jwt_keys.specs.Entries.{key_in}
use Rattle.jwt_possession.specs.declared.own_key.KeyFault.{KeyFault}
use Rattle.jwt_possession.specs.declared.own_key.KeyFault.TheVariants.{KeyMissing, KeyPrivate, KeyUnreadable}

-- the key has a member of a private or of a shared key (RFC 7518, sections 6.2.2, 6.3.2 and 6.4.1; RFC 8037, section 2)
abbrev pub is_private : Members → Bool
is_private jwk =
    has (codes "d") jwk || (has (codes "p") jwk || (has (codes "q") jwk || (has (codes "dp") jwk
    || (has (codes "dq") jwk || (has (codes "qi") jwk || (has (codes "oth") jwk || has (codes "k") jwk))))))

-- the key of this object, unless it is private or unreadable
abbrev pub public_key_of : Members → Result KeyParts KeyFault
public_key_of jwk = if is_private jwk then Err KeyPrivate else or_fault KeyUnreadable (key_in 0 (Some jwk))

-- the public key in the member `jwk` of the protected header
abbrev pub header_key_of : SignatureParts → Result KeyParts KeyFault
header_key_of signature = some_or KeyMissing (object_at (codes "jwk") signature.protected) >>= public_key_of
