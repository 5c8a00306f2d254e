-- The table of P-256.
use Rattle.std.proofs.Common.{◌≡◌, ℕ, ◌^◌, true, refl, Some}
use Rattle.ecdsa.specs.Curve.{Point.Affine, minus, by_slope, doubled}
use Rattle.ecdsa.specs.Curves.{P256}
use Rattle.ecdsa.specs.Doubles.{IsTable}
use Rattle.ecdsa.specs.Field.{size}
use Rattle.ecdsa.specs.declared.field.Field.{Field}
use Rattle.ecdsa.specs.declared.p256_doubles.TheConstants.{P256_X, P256_Y}
use Rattle.ecdsa.proofs.Inverses256.{inverses}
use Rattle.ecdsa.proofs.Chains.{chain, row_holds, rows_of}

passes : chain P256 ((2 ^ 64) ^ 4) P256_X P256_Y inverses (Some (Affine P256.gx P256.gy)) ≡ true
unfolding P256 chain row_holds by_slope minus inverses
passes = refl

first : doubled P256 0 (Affine P256.gx P256.gy) ≡ Some (Affine P256.gx P256.gy)
unfolding doubled
first = refl

pub is_table : {KIND : ℕ} (f : Field 4 KIND) → size f ≡ P256.p → IsTable f P256 P256_X P256_Y
unfolding P256
is_table f is = record {
  long = refl;
  rows = rows_of f P256 is 0 (Affine P256.gx P256.gy) (Some (Affine P256.gx P256.gy)) first P256_X P256_Y inverses passes;
}
