-- Jacobian coordinates that stand for a result of the curve's definition.
use Rattle.std.specs.Prelude.{ℕ, ◌≡◌, ◌+◌, ◌*◌, ◌<◌, Option, Some, None}
use Rattle.ecdsa.specs.declared.field.Field.{Field}
use Rattle.ecdsa.specs.declared.point.Point.{Point}
use Rattle.ecdsa.specs.Curve.{Point as CurvePoint, Point.Infinity, Point.Affine}
use Rattle.ecdsa.specs.Field.{size, value, Below}
use Rattle.ecdsa.specs.Residues.{Same, HasInverse, NoInverse}

-- X, Y, Z are coordinates of (x, y) modulo m: x = X/Z^2, y = Y/Z^3
pub record IsAt (m X Y Z x y : ℕ) : Type 0 where
  pub x_below : x < m
  pub y_below : y < m
  pub unit : HasInverse m Z
  pub x_is : Same m X (x * (Z * Z))
  pub y_is : Same m Y (y * (Z * Z * Z))

-- X, Y, Z stand for a finite point, or, where Z has no inverse, for no result
abbrev pub AreFor : ℕ → ℕ → ℕ → ℕ → Option CurvePoint → Type 0
AreFor m X Y Z None = NoInverse m Z
AreFor m X Y Z (Some Infinity) = ⊥
AreFor m X Y Z (Some (Affine x y)) = IsAt m X Y Z x y

-- ---- Cited by contracts of private functions alone

-- no coordinates stand for infinity
abbrev pub Stands : {N KIND : ℕ} → Field N KIND → Option (Point N) → Option CurvePoint → Type 0
Stands f None R = R ≡ Some Infinity
Stands f (Some P) R = AreFor (size f) (value f P.x) (value f P.y) (value f P.z) R

-- the coordinates are below the modulus
pub record IsBelow {N KIND : ℕ} (f : Field N KIND) (P : Point N) : Type 0 where
  pub x : Below f P.x
  pub y : Below f P.y
  pub z : Below f P.z

-- the third point of a chord over a common Z: U = x1 Z^2, S = y1 Z^3, H = (x2 - x1) Z^2, R = (y2 - y1) Z^3
pub record IsChord (m U S H R Z X' Y' Z' : ℕ) : Type 0 where
  pub x : Same m (X' + (H * H * H + 2 * (U * (H * H)))) (R * R)
  pub y : Same m (Y' + (S * (H * H * H) + R * X')) (R * (U * (H * H)))
  pub z : Same m Z' (Z * H)

-- the double where a = -3, with A = 3 (X - Z^2) (X + Z^2)
pub record IsTangent (m X Y Z X' Y' Z' : ℕ) : Type 0 where
  pub less : ℕ
  pub less_is : Same m (less + Z * Z) X
  pub x : Same m (X' + 8 * (X * (Y * Y))) (3 * (less * (X + Z * Z)) * (3 * (less * (X + Z * Z))))
  pub y : Same m (Y' + (8 * (Y * Y * (Y * Y)) + 3 * (less * (X + Z * Z)) * X')) (3 * (less * (X + Z * Z)) * (4 * (X * (Y * Y))))
  pub z : Same m Z' (2 * (Y * Z))
