-- The definition's parameters of a curve as it is held.
use Rattle.std.specs.Prelude.{ℕ, ◌≡◌, ◌-◌, ◌⊎◌, Option, Some, None}
use Rattle.ecdsa.specs.declared.curve.Curve.{Curve}
use Rattle.ecdsa.specs.Curve.{Domain, Point, Point.Affine, sum_of}
use Rattle.ecdsa.specs.Field.{size, value}
use Rattle.ecdsa.specs.Residues.{NoInverse}
use Rattle.ecdsa.specs.Stands.{IsAt}

abbrev pub domain : {N KIND : ℕ} → Curve N KIND → Domain
domain C = record {
  p = size C.field;
  a = size C.field - 3;
  b = value C.field C.b;
  gx = value C.field C.gx;
  gy = value C.field C.gy;
  n = size C.order;
  digits = C.digits;
}

-- ---- Cited by contracts of private functions alone

-- two points at coordinates over one Z, or a sum without a result and a Z without an inverse
pub record AreBoth (E : Domain) (U S U2 S2 Z : ℕ) (left right : Option Point) : Type 0 where
  pub x1 : ℕ
  pub y1 : ℕ
  pub x2 : ℕ
  pub y2 : ℕ
  pub first : left ≡ Some (Affine x1 y1)
  pub second : right ≡ Some (Affine x2 y2)
  pub first_at : IsAt E.p U S Z x1 y1
  pub second_at : IsAt E.p U2 S2 Z x2 y2

pub record HasNoSum (E : Domain) (Z : ℕ) (left right : Option Point) : Type 0 where
  pub none : sum_of E left right ≡ None
  pub lacks : NoInverse E.p Z

abbrev pub Meet : Domain → ℕ → ℕ → ℕ → ℕ → ℕ → Option Point → Option Point → Type 0
Meet E U S U2 S2 Z left right = AreBoth E U S U2 S2 Z left right ⊎ HasNoSum E Z left right
