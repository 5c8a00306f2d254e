-- RSA keys that the built-in verifiers never accept a signature by.
use Rattle.std.specs.Prelude.{◌≡◌, Bool, false, not, List, ℕ, length, nat_lt}
use Rattle.jwt_rsa.specs.powers.Octets.{os2ip, without_zeros}
use Rattle.jwt_mac.specs.declared.algorithm.Alg.{Alg}
use Rattle.jwt_mac.specs.Verifying.{Meaning, KeyOctets, RsaKey, MessageOctets}
use Rattle.jwt_rsa.specs.PublicKey.{is_key}
use Rattle.jwt_rsa.specs.Meanings.{rsa_meaning, pkcs1_meaning, pss_meaning}

-- An RSA key whose modulus is even, or has fewer than 2,048 bits or more than 8,192, or whose exponent is even, less than 3, or
-- takes more than eight octets.
abbrev pub is_refused_rsa : KeyOctets → Bool
is_refused_rsa (RsaKey modulus exponent) = not (is_key (os2ip modulus) (os2ip exponent))
is_refused_rsa _ = false

-- An RSA key whose modulus has fewer than 256 octets, those aside that are zero and lead it, and so fewer than 2,048 bits (RFC 7518, section 3.3).
abbrev pub is_small_rsa : KeyOctets → Bool
is_small_rsa (RsaKey modulus exponent) = nat_lt (length (without_zeros modulus)) 256
is_small_rsa _ = false

-- ---- Cited by laws alone

-- the verifier accepts no signature by the key, whatever the algorithm, the message and the signature
abbrev pub AcceptsNone : Meaning → KeyOctets → Type 0
AcceptsNone verifier key = (algorithm : Alg) (message : MessageOctets) (signature : List ℕ) → verifier.accepts algorithm key message signature ≡ false

-- by such a key the verifiers of RSA signatures accept none
pub record RefusesAll (key : KeyOctets) : Type 0 where
  pub rsa : AcceptsNone rsa_meaning key
  pub pkcs1 : AcceptsNone pkcs1_meaning key
  pub pss : AcceptsNone pss_meaning key
