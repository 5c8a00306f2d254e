-- Points of Ed25519, their sums and their multiples (RFC 8032, sections 5.1 and 5.1.4).
use Rattle.std.specs.Prelude.{ℕ, suc, zero, ◌*◌, ◌/◌, ◌%◌, ◌==◌, ◌+◌, ◌^◌, if◌then◌else◌, Option, Some, None}
use Rattle.jwt_ed25519.specs.Field.{plus, minus, times}

-- extended homogeneous coordinates (section 5.1.4): x = X/Z, y = Y/Z, x * y = T/Z
pub record Coordinates : Type 0 where
  pub X : ℕ
  pub Y : ℕ
  pub Z : ℕ
  pub T : ℕ

-- d = -121665/121666 (section 5.1)
abbrev pub d : ℕ
d = 37095705934669439343138083508754565189542113879843219016388785533085940283555

-- the base point B (section 5.1)
abbrev pub base_x : ℕ
base_x = 15112221349535400772501151409588531511454012693041857206046113283949847762202

abbrev pub base_y : ℕ
base_y = 46316835694926478169428394003475163141307993866256225615783033603165251855960

-- the order L of B (section 5.1)
abbrev pub L : ℕ
L = 2 ^ 252 + 27742317777372353535851937790883648493

-- a point by its x and y
unfoldable pub point : ℕ → ℕ → Coordinates
point x y = record { X = x; Y = y; Z = 1; T = times x y }

-- the neutral point (0, 1)
abbrev pub neutral : Coordinates
neutral = record { X = 0; Y = 1; Z = 1; T = 0 }

-- the sum (section 5.1.4)
unfoldable pub add : Coordinates → Coordinates → Coordinates
add P Q =
    let A = times (minus P.Y P.X) (minus Q.Y Q.X) in
    let B = times (plus P.Y P.X) (plus Q.Y Q.X) in
    let C = times (times P.T (times 2 d)) Q.T in
    let D = times 2 (times P.Z Q.Z) in
    let E = minus B A in
    let F = minus D C in
    let G = plus D C in
    let H = plus B A in
    record { X = times E F; Y = times G H; Z = times F G; T = times E H }

-- the double (section 5.1.4)
unfoldable pub double : Coordinates → Coordinates
double P =
    let A = times P.X P.X in
    let B = times P.Y P.Y in
    let C = times 2 (times P.Z P.Z) in
    let H = plus A B in
    let E = minus H (times (plus P.X P.Y) (plus P.X P.Y)) in
    let G = minus A B in
    let F = plus C G in
    record { X = times E F; Y = times G H; Z = times F G; T = times E H }

-- the point with -x in place of x
unfoldable pub negated : Coordinates → Coordinates
negated P = record { X = minus 0 P.X; Y = P.Y; Z = P.Z; T = minus 0 P.T }

-- the sum of what there is to be summed: a point, or none, for which the neutral point stands in the end
abbrev pub sum_of : Option Coordinates → Option Coordinates → Option Coordinates
sum_of None Q = Q
sum_of (Some P) None = Some P
sum_of (Some P) (Some Q) = Some (add P Q)

abbrev pub or_neutral : Option Coordinates → Coordinates
or_neutral None = neutral
or_neutral (Some P) = P

-- the point doubled so often
unfoldable pub doubled : ℕ → Coordinates → Coordinates
doubled zero P = P
doubled (suc times) P = double (doubled times P)

-- [digit] of the point doubled so often, by the digit's lowest bits, so many: the sum of those doubles of it whose bit is set, from
-- the lowest bit
unfoldable pub digit_multiple : ℕ → ℕ → ℕ → Coordinates → Option Coordinates
digit_multiple times zero digit P = None
digit_multiple times (suc bits) digit P =
    let lower = digit_multiple times bits digit P in
    if (digit / 2 ^ bits) % 2 == 1 then sum_of lower (Some (doubled (times + bits) P)) else lower

-- [s]P (section 5.1.7), by the lowest hexadecimal digits of s, so many: the sum, from the lowest digit, of each digit's multiple of the
-- point doubled four times as often as there are digits below it
unfoldable pub multiple_by : ℕ → ℕ → Coordinates → Option Coordinates
multiple_by zero s P = None
multiple_by (suc digits) s P = sum_of (multiple_by digits s P) (digit_multiple (4 * digits) 4 ((s / 16 ^ digits) % 16) P)

-- [s]P, where s is below L, which 64 hexadecimal digits hold
abbrev pub multiple : ℕ → Coordinates → Option Coordinates
multiple s P = multiple_by 64 s P
