-- Points to octets (RFC 8032, section 5.1.2).
use Rattle.std.specs.Prelude.{ℕ, ◌+◌, ◌-◌, ◌*◌, ◌%◌, ◌^◌, List}
use Rattle.jwt_ed25519.specs.Field.{p, times, power}
use Rattle.jwt_ed25519.specs.Octets.{little_endian}
use Rattle.jwt_ed25519.specs.Points.{Coordinates}

-- y, and the least significant bit of x above it, where x = X/Z and y = Y/Z
unfoldable pub encoded_number : Coordinates → ℕ
encoded_number P =
    let inverse = power P.Z (p - 2) in
    times P.Y inverse + 2 ^ 255 * (times P.X inverse % 2)

abbrev pub encoded_point : Coordinates → List ℕ
encoded_point P = little_endian 32 (encoded_number P)
