-- ES256, ES384 and ES512 (RFC 7518, section 3.4).
use Rattle.std.specs.Prelude.{ℕ, Bool, List}
use Rattle.jwt_mac.specs.Algorithm.{sha256_of, sha384_of, sha512_of}
use Rattle.ecdsa.specs.Curves.{P256, P384, P521}
use Rattle.ecdsa.specs.Ecdsa.{ecdsa}

-- ES256: P-256 with SHA-256, numbers of 32 octets
abbrev pub es256 : List ℕ → List ℕ → List ℕ → List ℕ → Bool
es256 x y message signature = ecdsa P256 32 (sha256_of message) x y signature

-- ES384: P-384 with SHA-384, numbers of 48 octets
abbrev pub es384 : List ℕ → List ℕ → List ℕ → List ℕ → Bool
es384 x y message signature = ecdsa P384 48 (sha384_of message) x y signature

-- ES512: P-521 with SHA-512, numbers of 66 octets
abbrev pub es512 : List ℕ → List ℕ → List ℕ → List ℕ → Bool
es512 x y message signature = ecdsa P521 66 (sha512_of message) x y signature
