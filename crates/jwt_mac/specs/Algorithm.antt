-- The algorithms of RFC 7518, section 3.1, and of RFC 8037, section 3.1, as far as they are known here.
use Rattle.std.specs.Prelude.{ℕ, ◌+◌, ◌*◌, Bool, true, false, List, [], ◌∷◌, length, codes, Option, nat_lt, if◌then◌else◌}
use Rattle.std.specs.Str.{bytes_eq}
use Rattle.std.specs.List.{find}
use Rattle.sha2.specs.Sha256.{sha256}
use Rattle.sha2.specs.Sha512.{sha384, sha512}
use Rattle.jwt_mac.specs.Hmac.{hmac_of}
use Rattle.jwt_mac.specs.declared.algorithm.Alg.{Alg}
use Rattle.jwt_mac.specs.declared.algorithm.Hash.{Hash}
use Rattle.jwt_mac.specs.declared.algorithm.Hash.TheVariants.{Sha256, Sha384, Sha512}
use Rattle.jwt_mac.specs.declared.algorithm.Kind.{Kind}
use Rattle.jwt_mac.specs.declared.algorithm.Kind.TheVariants.{Hmac, Pkcs1, Pss, Ecdsa, EdDsa}
use Rattle.jwt_mac.specs.declared.key_view.EcCurve.TheVariants.{P256, P384, P521}
use Rattle.jwt_mac.specs.declared.algorithm.Alg.TheVariants.{HS256, HS384, HS512, RS256, RS384, RS512, PS256, PS384, PS512, ES256, ES384, ES512, EdDSA}

-- the octets in a digest of the hash function (FIPS 180-4, section 1)
abbrev pub octets_of : Hash → ℕ
octets_of Sha256 = 32
octets_of Sha384 = 48
octets_of Sha512 = 64

-- the octets in a block of the hash function (FIPS 180-4, section 1)
abbrev pub block_of : Hash → ℕ
block_of Sha256 = 64
block_of Sha384 = 128
block_of Sha512 = 128

-- the table of algorithms: the value of `alg`, as octets, and how each signs (RFC 7518, section 3.1; RFC 8037, section 3.1)
abbrev pub row_of : Alg → List ℕ × Kind
row_of HS256 = (codes "HS256", Hmac Sha256)
row_of HS384 = (codes "HS384", Hmac Sha384)
row_of HS512 = (codes "HS512", Hmac Sha512)
row_of RS256 = (codes "RS256", Pkcs1 Sha256)
row_of RS384 = (codes "RS384", Pkcs1 Sha384)
row_of RS512 = (codes "RS512", Pkcs1 Sha512)
row_of PS256 = (codes "PS256", Pss Sha256)
row_of PS384 = (codes "PS384", Pss Sha384)
row_of PS512 = (codes "PS512", Pss Sha512)
row_of ES256 = (codes "ES256", Ecdsa P256)
row_of ES384 = (codes "ES384", Ecdsa P384)
row_of ES512 = (codes "ES512", Ecdsa P521)
row_of EdDSA = (codes "EdDSA", EdDsa)

-- its name
abbrev pub name_of : Alg → List ℕ
name_of alg = (row_of alg).0

-- how it signs
abbrev pub kind_of : Alg → Kind
kind_of alg = (row_of alg).1

-- the hash function: of ECDSA the one that goes with the curve (RFC 7518, section 3.4), of EdDSA that of Ed25519 (RFC 8032, section 5.1)
abbrev pub hash_by : Kind → Hash
hash_by (Hmac hash) = hash
hash_by (Pkcs1 hash) = hash
hash_by (Pss hash) = hash
hash_by (Ecdsa P256) = Sha256
hash_by (Ecdsa P384) = Sha384
hash_by (Ecdsa P521) = Sha512
hash_by EdDsa = Sha512

-- the algorithm that a text names, if any: names are compared octet by octet, so by case (RFC 7515, section 4.1.1)
unfoldable pub alg_named : List ℕ → Option Alg
alg_named text = find (λ alg. bytes_eq text (name_of alg))
    (HS256 ∷ HS384 ∷ HS512 ∷ RS256 ∷ RS384 ∷ RS512 ∷ PS256 ∷ PS384 ∷ PS512 ∷ ES256 ∷ ES384 ∷ ES512 ∷ EdDSA ∷ [])

-- HMAC with SHA-2 (RFC 7518, section 3.2)
abbrev pub is_hmac : Kind → Bool
is_hmac (Hmac hash) = true
is_hmac _ = false

abbrev pub is_hmac_alg : Alg → Bool
is_hmac_alg alg = is_hmac (kind_of alg)

-- the octets in a block of an HMAC's hash function, 0 of another kind
abbrev pub block_by : Kind → ℕ
block_by (Hmac hash) = block_of hash
block_by _ = 0

abbrev pub block_size : Alg → ℕ
block_size alg = block_by (kind_of alg)

-- the octets in a digest of an HMAC's hash function, 0 of another kind
abbrev pub digest_by : Kind → ℕ
digest_by (Hmac hash) = octets_of hash
digest_by _ = 0

abbrev pub digest_size : Alg → ℕ
digest_size alg = digest_by (kind_of alg)

-- SHA-256 (FIPS 180-4, section 6.2), as `sha2` states it
unfoldable pub sha256_of : List ℕ → List ℕ
sha256_of octets = sha256 octets

-- SHA-384 (FIPS 180-4, section 6.5), as `sha2` states it
unfoldable pub sha384_of : List ℕ → List ℕ
sha384_of octets = sha384 octets

-- SHA-512 (FIPS 180-4, section 6.4), as `sha2` states it
unfoldable pub sha512_of : List ℕ → List ℕ
sha512_of octets = sha512 octets

-- a digest by the hash function
abbrev pub hashed : Hash → List ℕ → List ℕ
hashed Sha256 octets = sha256_of octets
hashed Sha384 octets = sha384_of octets
hashed Sha512 octets = sha512_of octets

-- a digest by an HMAC's hash function (RFC 7518, section 3.2)
abbrev pub hmac_hash : Kind → List ℕ → List ℕ
hmac_hash (Hmac hash) octets = hashed hash octets
hmac_hash _ octets = []

-- the tag of a message under a key (RFC 7518, section 3.2)
unfoldable pub tag_of : Alg → List ℕ → List ℕ → List ℕ
tag_of alg key message = hmac_of (hmac_hash (kind_of alg)) (block_size alg) key message

-- what a key adds to the cost: its length where it is longer than a block, since it is hashed then
abbrev pub key_cost : ℕ → ℕ → ℕ
key_cost block key_len = if nat_lt block key_len then key_len else 0

-- the octets that one HMAC feeds to its hash function: the message, two blocks, the inner digest, and the key where it
-- is hashed first; 0 for an algorithm that isn't HMAC
unfoldable pub try_cost : Alg → ℕ → ℕ → ℕ
try_cost alg key_len message_len =
    if is_hmac_alg alg
    then message_len + 2 * block_size alg + digest_size alg + key_cost (block_size alg) key_len
    else 0

-- the cost of a try with this key and message
abbrev pub cost_of : Alg → List ℕ → List ℕ → ℕ
cost_of alg key message = try_cost alg (length key) (length message)
