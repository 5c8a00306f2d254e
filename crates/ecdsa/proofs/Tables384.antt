-- The table of P-384.
use Rattle.std.proofs.Common.{◌≡◌, ℕ, ◌^◌, true, refl, Some}
use Rattle.ecdsa.specs.Curve.{Point.Affine, minus, by_slope, doubled}
use Rattle.ecdsa.specs.Curves.{P384}
use Rattle.ecdsa.specs.Doubles.{IsTable}
use Rattle.ecdsa.specs.Field.{size}
use Rattle.ecdsa.specs.declared.field.Field.{Field}
use Rattle.ecdsa.specs.declared.p384_doubles.TheConstants.{P384_X, P384_Y}
use Rattle.ecdsa.proofs.Inverses384.{inverses}
use Rattle.ecdsa.proofs.Chains.{chain, row_holds, rows_of}

passes : chain P384 ((2 ^ 64) ^ 6) P384_X P384_Y inverses (Some (Affine P384.gx P384.gy)) ≡ true
unfolding P384 chain row_holds by_slope minus inverses
passes = refl

first : doubled P384 0 (Affine P384.gx P384.gy) ≡ Some (Affine P384.gx P384.gy)
unfolding doubled
first = refl

pub is_table : {KIND : ℕ} (f : Field 6 KIND) → size f ≡ P384.p → IsTable f P384 P384_X P384_Y
unfolding P384
is_table f is = record {
  long = refl;
  rows = rows_of f P384 is 0 (Affine P384.gx P384.gy) (Some (Affine P384.gx P384.gy)) first P384_X P384_Y inverses passes;
}
