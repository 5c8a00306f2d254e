-- The tangent's slope where a = -3, and slopes from inverses.
use Rattle.std.proofs.Common.{◌≡◌, ℕ, ◌+◌, ◌*◌, ◌%◌, ◌<◌, ap, sym, ◌∙◌, refl, arith}
use Rattle.std.proofs.Math.Nat.{mod-mod}
use Rattle.ecdsa.proofs.Congruence.{Same, same_add, same_mul, cancel}

pub slope_is : (m bottom top i : ℕ) → Same m (bottom * i) 1 → Same m ((top * i) % m * bottom) top
slope_is m bottom top i e =
    let swapped : top * i * bottom ≡ top * (bottom * i) = omega arith in
    let one : top * 1 ≡ top = omega arith in
    same_mul m ((top * i) % m) (top * i) bottom bottom (mod-mod (top * i) m) refl
    ∙ ap (λ k. k % m) swapped ∙ same_mul m top top (bottom * i) 1 refl e ∙ ap (λ k. k % m) one

pub alpha_is : (m x a Z X q P : ℕ) → 0 < m → Same m (a + 3) 0 → Same m X (x * (Z * Z)) → Same m (q + Z * Z) X → Same m P (X + Z * Z) →
    Same m (3 * (q * P)) ((3 * (x * x) + a) * (Z * Z * (Z * Z)))
alpha_is m x a Z X q P some three first less more =
    let z4 = Z * Z * (Z * Z) in
    let split : (q + Z * Z) * (X + Z * Z) ≡ q * (X + Z * Z) + z4 + X * (Z * Z) = omega arith in
    let joined : X * (X + Z * Z) ≡ X * X + X * (Z * Z) = omega arith in
    let product : Same m (q * (X + Z * Z) + z4) (X * X) =
    cancel m (q * (X + Z * Z) + z4) (X * X) (X * (Z * Z)) some
    (ap (λ k. k % m) (sym split) ∙ same_mul m (q + Z * Z) X (X + Z * Z) (X + Z * Z) less refl ∙ ap (λ k. k % m) joined) in
    let qp : Same m (q * P + z4) (x * (Z * Z) * (x * (Z * Z))) =
    same_add m _ _ z4 z4 (same_mul m q q P (X + Z * Z) refl more) refl ∙ product ∙ same_mul m X _ X _ first first in
    let tripled : 3 * (q * P) + 3 * z4 ≡ 3 * (q * P + z4) = omega arith in
    let right : (3 * (x * x) + a) * z4 + 3 * z4 ≡ 3 * (x * (Z * Z) * (x * (Z * Z))) + (a + 3) * z4 = omega arith in
    let none : 3 * (x * (Z * Z) * (x * (Z * Z))) + 0 * z4 ≡ 3 * (x * (Z * Z) * (x * (Z * Z))) = omega arith in
    cancel m (3 * (q * P)) ((3 * (x * x) + a) * z4) (3 * z4) some
    (ap (λ k. k % m) tripled ∙ same_mul m 3 3 _ _ refl qp ∙ ap (λ k. k % m) (sym none)
    ∙ sym (same_add m (3 * (x * (Z * Z) * (x * (Z * Z)))) (3 * (x * (Z * Z) * (x * (Z * Z)))) ((a + 3) * z4) (0 * z4) refl (same_mul m (a + 3) 0 z4 z4 three refl))
    ∙ ap (λ k. k % m) (sym right))
