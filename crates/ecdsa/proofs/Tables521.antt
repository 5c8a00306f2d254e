-- The table of P-521.
use Rattle.std.proofs.Common.{◌≡◌, ℕ, ◌^◌, true, refl, Some}
use Rattle.ecdsa.specs.Curve.{Point.Affine, minus, by_slope, doubled}
use Rattle.ecdsa.specs.Curves.{P521}
use Rattle.ecdsa.specs.Doubles.{IsTable}
use Rattle.ecdsa.specs.Field.{size}
use Rattle.ecdsa.specs.declared.field.Field.{Field}
use Rattle.ecdsa.specs.declared.p521_doubles.TheConstants.{P521_X, P521_Y}
use Rattle.ecdsa.proofs.Inverses521.{inverses}
use Rattle.ecdsa.proofs.Chains.{chain, row_holds, rows_of}

passes : chain P521 ((2 ^ 64) ^ 9) P521_X P521_Y inverses (Some (Affine P521.gx P521.gy)) ≡ true
unfolding P521 chain row_holds by_slope minus inverses
passes = refl

first : doubled P521 0 (Affine P521.gx P521.gy) ≡ Some (Affine P521.gx P521.gy)
unfolding doubled
first = refl

pub is_table : {KIND : ℕ} (f : Field 9 KIND) → size f ≡ P521.p → IsTable f P521 P521_X P521_Y
unfolding P521
is_table f is = record {
  long = refl;
  rows = rows_of f P521 is 0 (Affine P521.gx P521.gy) (Some (Affine P521.gx P521.gy)) first P521_X P521_Y inverses passes;
}
