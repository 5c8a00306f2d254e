-- The contents of an INTEGER (ITU-T X.690, section 8.3).
use Rattle.std.specs.Prelude.{◌≡◌, ℕ, ◌+◌, ◌*◌, ◌<◌, ◌≤◌, List, fold, slice_index}
use Rattle.jwt_jwk.specs.der.Der.{IsNumber, twos_complement}

-- the number that octets write, the most significant first
abbrev pub number_of_octets : List ℕ → ℕ
number_of_octets octets = fold (λ n octet. 256 * n + octet) 0 octets

-- these contents are the two's complement of that number, which is above 0, in as few octets as it has
pub record IsTwosComplement (contents octets : List ℕ) : Type 0 where
  -- bit 8 of the first octet is the sign (8.3.3)
  pub positive : slice_index contents 0 < 128
  pub number : number_of_octets contents ≡ number_of_octets octets
  -- the first nine bits aren't all 0 (8.3.2)
  pub shortest : slice_index contents 0 ≡ 0 → 128 ≤ slice_index contents 1

abbrev pub NumbersAreWritten : Type 0
NumbersAreWritten = (octets : List ℕ) → IsNumber octets → IsTwosComplement (twos_complement octets) octets
