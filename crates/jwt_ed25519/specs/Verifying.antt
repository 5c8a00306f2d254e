-- Signatures by Ed25519 (RFC 8032, section 5.1.7).
use Rattle.std.specs.Prelude.{ℕ, ◌%◌, ◌==◌, Bool, false, not, ◌&&◌, List, ◌++◌, length, take, drop, nat_lt, Option, Some, None}
use Rattle.std.specs.Str.{bytes_eq}
use Rattle.jwt_mac.specs.Algorithm.{sha512_of}
use Rattle.jwt_ed25519.specs.Decoding.{decoded}
use Rattle.jwt_ed25519.specs.Encoding.{encoded_point}
use Rattle.jwt_ed25519.specs.Octets.{number_of}
use Rattle.jwt_ed25519.specs.Points.{Coordinates, L, base_x, base_y, point, double, negated, sum_of, or_neutral, multiple}

-- the neutral point, in any of its coordinates: x = 0, y = 1
abbrev pub is_neutral : Coordinates → Bool
is_neutral P = P.X == 0 && P.Y == P.Z

-- a point of small order: eight times it is the neutral point
unfoldable pub is_small : Coordinates → Bool
is_small A = is_neutral (double (double (double A)))

-- only such a key verifies anything here: it decodes, and isn't of small order
abbrev is_point : Option Coordinates → Bool
is_point None = false
is_point (Some A) = not (is_small A)

abbrev pub is_key : List ℕ → Bool
is_key octets = is_point (decoded octets)

-- k, from the octets of R and of the key (step 2)
unfoldable pub challenge : List ℕ → List ℕ → List ℕ → ℕ
challenge r key message = number_of (sha512_of (r ++ key ++ message)) % L

-- R is the encoding of [S]B - [k]A (step 3)
unfoldable pub equation_holds : Coordinates → List ℕ → ℕ → ℕ → Bool
equation_holds A r s k = bytes_eq (encoded_point (or_neutral (sum_of (multiple s (point base_x base_y)) (multiple k (negated A))))) r

-- the key decodes, isn't of small order, and R, S and k are as they have to be
abbrev pub is_key_for : List ℕ → ℕ → ℕ → Option Coordinates → Bool
is_key_for r s k None = false
is_key_for r s k (Some A) = not (is_small A) && equation_holds A r s k

-- the signature of a message by a key, R and S (section 5.1.7): 64 octets, S below L, A decodes and isn't of small order
unfoldable pub is_signature : List ℕ → List ℕ → List ℕ → Bool
is_signature key message signature =
    let r = take 32 signature in
    let s = number_of (drop 32 signature) in
    length signature == 64 && nat_lt s L && is_key_for r s (challenge r key message) (decoded key)
