-- Public keys that the built-in verifiers never accept a signature by.
use Rattle.std.specs.Prelude.{Bool, true, false, not, ◌||◌}
use Rattle.ecdsa.specs.Curves as curves
use Rattle.ecdsa.specs.Ecdsa.{is_public_key}
use Rattle.jwt_ed25519.specs.Verifying.{is_key}
use Rattle.jwt_mac.specs.declared.key_view.EcCurve.TheVariants.{P256, P384, P521}
use Rattle.jwt_mac.specs.declared.key_view.EdCurve.TheVariants.{Ed25519, Ed448}
use Rattle.jwt_mac.specs.Verifying.{KeyOctets, EcKey, OkpKey}
use Rattle.jwt_advice.specs.RsaKeys.{is_refused_rsa}

-- the key is no point of its curve (SEC 1, section 3.2.2.1)
abbrev pub is_refused_ec : KeyOctets → Bool
is_refused_ec (EcKey P256 x y) = not (is_public_key curves.P256 32 x y)
is_refused_ec (EcKey P384 x y) = not (is_public_key curves.P384 48 x y)
is_refused_ec (EcKey P521 x y) = not (is_public_key curves.P521 66 x y)
is_refused_ec _ = false

-- the key is one of Ed448, for which there is no verifier, or of Ed25519 and doesn't decode, or is of small order (RFC 8032, section 5.1.3)
abbrev pub is_refused_okp : KeyOctets → Bool
is_refused_okp (OkpKey Ed25519 x) = not (is_key x)
is_refused_okp (OkpKey Ed448 x) = true
is_refused_okp _ = false

-- of any kind
abbrev pub is_refused_key : KeyOctets → Bool
is_refused_key key = is_refused_rsa key || is_refused_ec key || is_refused_okp key
