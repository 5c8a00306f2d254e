-- Elliptic curves over a prime field, and ECDSA on them (SEC 1 version 2, sections 2.2.1, 3.2.2.1 and 4.1.4; FIPS 186-5, section 6.4.2).
use Rattle.std.specs.Prelude.{ℕ, suc, zero, ◌+◌, ◌-◌, ◌*◌, ◌/◌, ◌%◌, ◌^◌, ◌==◌, ◌&&◌, Bool, false, if◌then◌else◌, nat_lt, Option, Some, None}
use Rattle.ecdsa.specs.Inverse.{inverse}

-- the domain parameters of a curve (SEC 1, section 3.1.1): y^2 = x^3 + a x + b modulo p, the base point (gx, gy), its order n, and
-- how many hexadecimal digits hold n
pub record Domain : Type 0 where
  pub p : ℕ
  pub a : ℕ
  pub b : ℕ
  pub gx : ℕ
  pub gy : ℕ
  pub n : ℕ
  pub digits : ℕ

-- a point of the curve: at infinity, or by its coordinates
pub data Point : Type 0 where
  Infinity : Point
  Affine : (x y : ℕ) → Point

-- left - right modulo p, where right is below p
unfoldable pub minus : ℕ → ℕ → ℕ → ℕ
minus p left right = (left + (p - right)) % p

-- the third point of the line through (x1, y1) and a point at x2, mirrored, by the slope: `rise` times the inverse of the run, if
-- there is one (section 2.2.1, rules 4 and 5)
unfoldable pub by_slope : ℕ → ℕ → ℕ → ℕ → ℕ → Option ℕ → Option Point
by_slope p x1 y1 x2 rise None = None
by_slope p x1 y1 x2 rise (Some inverse_of_run) =
    let slope = (rise * inverse_of_run) % p in
    let x3 = minus p (minus p (slope * slope) x1) x2 in
    Some (Affine x3 (minus p (slope * minus p x1 x3) y1))

-- the sum of two points (section 2.2.1, rules 1 to 5); None where an inverse lacks, which can't be where p is prime
unfoldable pub sum : Domain → Point → Point → Option Point
sum curve Infinity other = Some other
sum curve (Affine x1 y1) Infinity = Some (Affine x1 y1)
sum curve (Affine x1 y1) (Affine x2 y2) =
    if x1 == x2 && (y1 + y2) % curve.p == 0 then Some Infinity
    else if x1 == x2 && y1 == y2
    then by_slope curve.p x1 y1 x1 (3 * (x1 * x1) + curve.a) (inverse curve.p (2 * y1))
    else by_slope curve.p x1 y1 x2 (minus curve.p y2 y1) (inverse curve.p (minus curve.p x2 x1))

-- the sum of two results, where both are there
abbrev pub sum_of : Domain → Option Point → Option Point → Option Point
sum_of curve (Some point) (Some other) = sum curve point other
sum_of curve _ _ = None

-- the point doubled so often
unfoldable pub doubled : Domain → ℕ → Point → Option Point
doubled curve zero point = Some point
doubled curve (suc times) point = sum_of curve (doubled curve times point) (doubled curve times point)

-- [digit] of the point doubled so often, by the digit's lowest bits, so many: the sum of those doubles of it whose bit is set, from
-- the lowest bit
unfoldable pub digit_multiple : Domain → ℕ → ℕ → ℕ → Point → Option Point
digit_multiple curve times zero digit point = Some Infinity
digit_multiple curve times (suc bits) digit point =
    let lower = digit_multiple curve times bits digit point in
    if (digit / 2 ^ bits) % 2 == 1 then sum_of curve lower (doubled curve (times + bits) point) else lower

-- [scalar]point (section 2.2.1), by the scalar's lowest hexadecimal digits, so many: the sum, from the lowest digit, of each digit's
-- multiple of the point doubled four times as often as there are digits below it
unfoldable pub multiple : Domain → ℕ → ℕ → Point → Option Point
multiple curve zero scalar point = Some Infinity
multiple curve (suc digits) scalar point =
    sum_of curve (multiple curve digits scalar point) (digit_multiple curve (4 * digits) 4 ((scalar / 16 ^ digits) % 16) point)

-- r is x of the point, modulo n (section 4.1.4, steps 6 to 8)
abbrev pub has_x : Domain → ℕ → Option Point → Bool
has_x curve r (Some (Affine x y)) = x % curve.n == r
has_x curve r _ = false

-- r is x of [hash / s]G + [r / s]Q, where s has an inverse (section 4.1.4, steps 4 to 8)
abbrev pub holds_by : Domain → ℕ → ℕ → ℕ → ℕ → Option ℕ → Bool
holds_by curve key_x key_y hash r None = false
holds_by curve key_x key_y hash r (Some inverse_of_s) =
    has_x curve r (sum_of curve
    (multiple curve curve.digits ((hash * inverse_of_s) % curve.n) (Affine curve.gx curve.gy))
    (multiple curve curve.digits ((r * inverse_of_s) % curve.n) (Affine key_x key_y)))

-- the key is on the curve (section 3.2.2.1; its order is n, since the cofactor is 1)
unfoldable pub is_key : Domain → ℕ → ℕ → Bool
is_key curve x y = nat_lt x curve.p && nat_lt y curve.p && (y * y) % curve.p == (x * x * x + curve.a * x + curve.b) % curve.p

-- r and s are a signature of the hash by the key (section 4.1.4)
unfoldable pub holds : Domain → ℕ → ℕ → ℕ → ℕ → ℕ → Bool
holds curve key_x key_y hash r s =
    nat_lt 0 r && nat_lt r curve.n && nat_lt 0 s && nat_lt s curve.n && is_key curve key_x key_y
    && holds_by curve key_x key_y hash r (inverse curve.n s)
