-- Tables of a point's windows: for each hexadecimal digit of a scalar, and each of its values, what the digit adds to the multiple.
use Rattle.std.specs.Prelude.{ℕ, ◌≡◌, ◌≢◌, ◌+◌, ◌*◌, ◌/◌, ◌%◌, ◌<◌, List, [], length, get_or}
use Rattle.ecdsa.specs.Curve.{Domain, Point, digit_multiple}
use Rattle.numbers.specs.Limbs.{number}
use Rattle.ecdsa.specs.declared.field.Field.{Field}
use Rattle.ecdsa.specs.Field.{size, value, Below, formed}
use Rattle.ecdsa.specs.Residues.{Same}
use Rattle.ecdsa.specs.Stands.{AreFor}

-- sixteen places for each digit, of which that of 0 isn't used; the coordinates are below p
pub record AreBelow (E : Domain) (xs ys : List (List ℕ)) : Type 0 where
  pub xs_long : length xs ≡ 16 * E.digits
  pub ys_long : length ys ≡ 16 * E.digits
  pub x : (k : ℕ) → k < 16 * E.digits → number (get_or xs k []) < E.p
  pub y : (k : ℕ) → k < 16 * E.digits → number (get_or ys k []) < E.p

-- the windows of P, over so many limbs in the form of Montgomery, in affine coordinates
abbrev pub AreWindows : ℕ → Domain → Point → List (List ℕ) → List (List ℕ) → Type 0
AreWindows limbs E P xs ys =
    (k : ℕ) → k < 16 * E.digits → k % 16 ≢ 0
    → AreFor E.p (formed limbs E.p (get_or xs k [])) (formed limbs E.p (get_or ys k [])) 1 (digit_multiple E (4 * (k / 16)) 4 (k % 16) P)

-- ---- Cited by contracts of private functions alone

-- so many rows of coordinates, below the modulus
pub record AreRows {N KIND : ℕ} (f : Field N KIND) (count : ℕ) (xs ys zs : List (List ℕ)) : Type 0 where
  pub xs_long : length xs ≡ count
  pub ys_long : length ys ≡ count
  pub zs_long : length zs ≡ count
  pub x : (k : ℕ) → k < count → Below f (get_or xs k [])
  pub y : (k : ℕ) → k < count → Below f (get_or ys k [])
  pub z : (k : ℕ) → k < count → Below f (get_or zs k [])

-- the windows of P before z is 1, so many
abbrev pub AreRough : {N KIND : ℕ} → Field N KIND → Domain → Point → ℕ → List (List ℕ) → List (List ℕ) → List (List ℕ) → Type 0
AreRough f E P count xs ys zs =
    (k : ℕ) → k < count → k % 16 ≢ 0
    → AreFor (size f) (value f (get_or xs k [])) (value f (get_or ys k [])) (value f (get_or zs k [])) (digit_multiple E (4 * (k / 16)) 4 (k % 16) P)

-- each product is that before it times the z between them
pub record IsChained {N KIND : ℕ} (f : Field N KIND) (count : ℕ) (zs products : List (List ℕ)) : Type 0 where
  pub long : length products ≡ count + 1
  pub each : (k : ℕ) → k < count → Same (size f) (value f (get_or products (k + 1) [])) (value f (get_or products k []) * value f (get_or zs k []))
