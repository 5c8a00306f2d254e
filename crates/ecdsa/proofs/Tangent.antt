-- The tangent of SEC 1, section 2.2.1, rule 5, in Jacobian coordinates, modulo m.
use Rattle.std.proofs.Common.{◌≡◌, ℕ, ◌+◌, ◌*◌, ◌%◌, ◌<◌, ap, sym, ◌∙◌, refl, arith}
use Rattle.ecdsa.proofs.Congruence.{Same, same_add, same_mul, cancel}

pub tangent_x : (m x y l t Z A B W X x' : ℕ) → 0 < m → Same m (l * (2 * y)) t → Same m A (t * (Z * Z * (Z * Z))) →
    Same m B (x * (Z * Z) * (y * y * (Z * Z * (Z * Z) * (Z * Z)))) → Same m W (2 * y * (Z * Z * (Z * Z))) →
    Same m (X + 8 * B) (A * A) → Same m (x' + (x + x)) (l * l) → Same m X (x' * (W * W))
tangent_x m x y l t Z A B W X x' some slope a b w sum third =
    let w' = 2 * y * (Z * Z * (Z * Z)) in
    let b' = x * (Z * Z) * (y * y * (Z * Z * (Z * Z) * (Z * Z))) in
    let a' : Same m A (l * (2 * y) * (Z * Z * (Z * Z))) = a ∙ same_mul m t (l * (2 * y)) _ _ (sym slope) refl in
    let aa : Same m (A * A) (l * (2 * y) * (Z * Z * (Z * Z)) * (l * (2 * y) * (Z * Z * (Z * Z)))) = same_mul m A _ A _ a' a' in
    let grouped : l * (2 * y) * (Z * Z * (Z * Z)) * (l * (2 * y) * (Z * Z * (Z * Z))) ≡ l * l * (w' * w') = omega arith in
    let opened : (x' + (x + x)) * (w' * w') ≡ x' * (w' * w') + 8 * b' = omega arith in
    let right : Same m (x' * (W * W) + 8 * B) (x' * (w' * w') + 8 * b') =
    same_add m _ _ _ _ (same_mul m x' x' _ _ refl (same_mul m W w' W w' w w)) (same_mul m 8 8 _ _ refl b) in
    cancel m X (x' * (W * W)) (8 * B) some
    (sum ∙ aa ∙ ap (λ k. k % m) grouped ∙ same_mul m (l * l) (x' + (x + x)) (w' * w') (w' * w') (sym third) refl
    ∙ ap (λ k. k % m) opened ∙ sym right)

pub tangent_y : (m x y l t Z A B G W X Y x' y' : ℕ) → 0 < m → Same m (l * (2 * y)) t → Same m A (t * (Z * Z * (Z * Z))) →
    Same m B (x * (Z * Z) * (y * y * (Z * Z * (Z * Z) * (Z * Z)))) → Same m G (y * y * (Z * Z * (Z * Z) * (Z * Z))) →
    Same m W (2 * y * (Z * Z * (Z * Z))) → Same m X (x' * (W * W)) → Same m (Y + (8 * (G * G) + A * X)) (A * (4 * B)) →
    Same m (y' + (y + l * x')) (l * x) → Same m Y (y' * (W * W * W))
tangent_y m x y l t Z A B G W X Y x' y' some slope a b g w first sum third =
    let w' = 2 * y * (Z * Z * (Z * Z)) in
    let b' = x * (Z * Z) * (y * y * (Z * Z * (Z * Z) * (Z * Z))) in
    let g' = y * y * (Z * Z * (Z * Z) * (Z * Z)) in
    let s = l * (2 * y) * (Z * Z * (Z * Z)) in
    let a' : Same m A s = a ∙ same_mul m t (l * (2 * y)) _ _ (sym slope) refl in
    let ww : Same m (W * W) (w' * w') = same_mul m W w' W w' w w in
    let www : Same m (W * W * W) (w' * w' * w') = same_mul m _ _ W w' ww w in
    let X' : Same m X (x' * (w' * w')) = first ∙ same_mul m x' x' _ _ refl ww in
    let taken : Same m (8 * (G * G) + A * X) (8 * (g' * g') + s * (x' * (w' * w'))) =
    same_add m _ _ _ _ (same_mul m 8 8 _ _ refl (same_mul m G g' G g' g g)) (same_mul m A s X _ a' X') in
    let made : Same m (A * (4 * B)) (s * (4 * b')) = same_mul m A s _ _ a' (same_mul m 4 4 B b' refl b) in
    let grouped : s * (4 * b') ≡ l * x * (w' * w' * w') = omega arith in
    let opened : (y' + (y + l * x')) * (w' * w' * w') ≡ y' * (w' * w' * w') + (8 * (g' * g') + s * (x' * (w' * w'))) = omega arith in
    let right : Same m (y' * (W * W * W) + (8 * (G * G) + A * X)) (y' * (w' * w' * w') + (8 * (g' * g') + s * (x' * (w' * w')))) =
    same_add m _ _ _ _ (same_mul m y' y' _ _ refl www) taken in
    cancel m Y (y' * (W * W * W)) (8 * (G * G) + A * X) some
    (sum ∙ made ∙ ap (λ k. k % m) grouped ∙ same_mul m (l * x) (y' + (y + l * x')) (w' * w' * w') (w' * w' * w') (sym third) refl
    ∙ ap (λ k. k % m) opened ∙ sym right)
