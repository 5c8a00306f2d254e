-- ECDSA signatures as octets (RFC 7518, section 3.4).
use Rattle.std.specs.Prelude.{ℕ, ◌+◌, ◌==◌, ◌&&◌, Bool, List, length, take, drop}
use Rattle.std.specs.Int.Digits.{number_from_digits}
use Rattle.ecdsa.specs.Curve.{Domain, holds, is_key}

-- the coordinates have `octets` octets each, and are a point of the curve (SEC 1, section 3.2.2.1)
unfoldable pub is_public_key : Domain → ℕ → List ℕ → List ℕ → Bool
is_public_key curve octets x y =
    length x == octets && length y == octets && is_key curve (number_from_digits 256 x) (number_from_digits 256 y)

-- the key's coordinates have `octets` octets each, the signature twice as many, R before S, and they are a signature of the digest,
-- all of whose bits count: no digest here has more bits than n (FIPS 186-5, section 6.4.2, step 2)
unfoldable pub ecdsa : Domain → ℕ → List ℕ → List ℕ → List ℕ → List ℕ → Bool
ecdsa curve octets digest x y signature =
    length x == octets && length y == octets && length signature == octets + octets
    && holds curve (number_from_digits 256 x) (number_from_digits 256 y) (number_from_digits 256 digest)
    (number_from_digits 256 (take octets signature)) (number_from_digits 256 (drop octets signature))
