-- The eligible pairs of a signature and a key.
use Rattle.std.specs.Prelude.{List, Bool, true, false, ◌&&◌, codes, nat_le, length, is_none}
use Rattle.std.specs.Option.{option_map_or}
use Rattle.std.specs.Str.{bytes_eq}
use Rattle.jwt_mac.specs.declared.algorithm.Alg.{Alg}
use Rattle.jwt_mac.specs.declared.algorithm.Kind.{Kind}
use Rattle.jwt_mac.specs.declared.algorithm.Kind.TheVariants.{Hmac, Pkcs1, Pss, Ecdsa, EdDsa}
use Rattle.jwt_mac.specs.declared.key_view.EcCurve.TheVariants.{P256, P384, P521}
use Rattle.jwt_mac.specs.Algorithm.{name_of, kind_of, octets_of}
use Rattle.jwt_mac.specs.Verifying.{KeyOctets, OctKey, RsaKey, EcKey, OkpKey, Meaning}
use Rattle.jwt_jws.specs.Token.{SignatureParts, kid}
use Rattle.jwt_keys.specs.Keys.{KeyParts, permits_of, has_name}
use Rattle.jwt_policy.specs.Settings.{Settings}
use Rattle.jwt_policy.specs.Texts.{some_passes}
use Rattle.jwt_policy.specs.Bars.{alg, bar_of}

-- ---- the kind, curve and size of a key (RFC 7518, sections 3.2 to 3.5; RFC 8037, section 3.1; RFC 8725, section 3.5)

-- the key is of the kind, curve and size that a kind of algorithms asks for: a shared secret of at least as many octets as a digest has, an RSA
-- key, a point on that curve, a key of EdDSA
abbrev pub suits_kind : Kind → KeyOctets → Bool
suits_kind (Hmac hash) (OctKey k) = nat_le (octets_of hash) (length k)
suits_kind (Pkcs1 hash) (RsaKey n e) = true
suits_kind (Pss hash) (RsaKey n e) = true
suits_kind (Ecdsa P256) (EcKey P256 x y) = true
suits_kind (Ecdsa P384) (EcKey P384 x y) = true
suits_kind (Ecdsa P521) (EcKey P521 x y) = true
suits_kind EdDsa (OkpKey curve x) = true
suits_kind _ _ = false

abbrev pub suits : Alg → KeyOctets → Bool
suits alg key = suits_kind (kind_of alg) key

-- ---- the pair

-- the key is for this algorithm: its kind, and its own `alg`, where present (RFC 7517, section 4.4; RFC 8725, section 3.1)
abbrev pub is_for : KeyParts → Alg → Bool
is_for key a = suits a key.octets && option_map_or (bytes_eq (name_of a)) key.alg true

-- where the signature has a `kid`, the key answers to it (RFC 7515, section 4.1.4)
abbrev pub answers_to : Settings → SignatureParts → KeyParts → Bool
answers_to p s key = option_map_or (λ name. has_name name p.header.thumb_kid key) (kid s) true

-- what eligibility asks of the pair, the bar aside
abbrev pub fits : Settings → SignatureParts → KeyParts → Bool
fits p s key = some_passes (is_for key) (alg s) && permits_of (codes "verify") key && answers_to p s key

-- the pair is eligible: the signature has no bar, and the key fits
unfoldable pub eligible_for : Settings → SignatureParts → KeyParts → List Meaning → Bool
eligible_for p s key verifiers = is_none (bar_of p s verifiers) && fits p s key
