-- The chord of SEC 1, section 2.2.1, rule 4, in Jacobian coordinates, modulo m: no inverse and no prime is needed.
use Rattle.std.proofs.Common.{◌≡◌, ℕ, ◌+◌, ◌*◌, ◌%◌, ◌<◌, ap, sym, ◌∙◌, refl, arith}
use Rattle.ecdsa.proofs.Congruence.{Same, same_add, same_mul, cancel}

pub chord_x : (m x1 x2 d l t Z H R U X x : ℕ) → 0 < m → Same m x2 (x1 + d) → Same m (l * d) t → Same m H (d * (Z * Z)) →
    Same m R (t * (Z * Z * Z)) → Same m U (x1 * (Z * Z)) → Same m (X + (H * H * H + 2 * (U * (H * H)))) (R * R) →
    Same m (x + (x1 + x2)) (l * l) → Same m X (x * ((Z * H) * (Z * H)))
chord_x m x1 x2 d l t Z H R U X x some apart slope h r u sum third =
    let h' = d * (Z * Z) in
    let u' = x1 * (Z * Z) in
    let hh : Same m (H * H) (h' * h') = same_mul m H h' H h' h h in
    let hhh : Same m (H * H * H) (h' * h' * h') = same_mul m (H * H) (h' * h') H h' hh h in
    let v : Same m (U * (H * H)) (u' * (h' * h')) = same_mul m U u' (H * H) (h' * h') u hh in
    let taken : Same m (H * H * H + 2 * (U * (H * H))) (h' * h' * h' + 2 * (u' * (h' * h'))) =
    same_add m _ _ _ _ hhh (same_mul m 2 2 _ _ refl v) in
    let r' : Same m R (l * d * (Z * Z * Z)) = r ∙ same_mul m t (l * d) (Z * Z * Z) (Z * Z * Z) (sym slope) refl in
    let rr : Same m (R * R) (l * d * (Z * Z * Z) * (l * d * (Z * Z * Z))) = same_mul m R _ R _ r' r' in
    let w = d * d * (Z * Z * Z * (Z * Z * Z)) in
    let grouped : l * d * (Z * Z * Z) * (l * d * (Z * Z * Z)) ≡ l * l * w = omega arith in
    let thirds : Same m (x + (x1 + x2)) (x + (x1 + (x1 + d))) = same_add m x x _ _ refl (same_add m x1 x1 x2 (x1 + d) refl apart) in
    let opened : (x + (x1 + (x1 + d))) * w ≡ x * ((Z * h') * (Z * h')) + (h' * h' * h' + 2 * (u' * (h' * h'))) = omega arith in
    let zh : Same m (Z * H) (Z * h') = same_mul m Z Z H h' refl h in
    let right : Same m (x * ((Z * H) * (Z * H)) + (H * H * H + 2 * (U * (H * H)))) (x * ((Z * h') * (Z * h')) + (h' * h' * h' + 2 * (u' * (h' * h')))) =
    same_add m _ _ _ _ (same_mul m x x _ _ refl (same_mul m _ _ _ _ zh zh)) taken in
    cancel m X (x * ((Z * H) * (Z * H))) (H * H * H + 2 * (U * (H * H))) some
    (sum ∙ rr ∙ ap (λ k. k % m) grouped ∙ same_mul m (l * l) (x + (x1 + (x1 + d))) w w (sym third ∙ thirds) refl
    ∙ ap (λ k. k % m) opened ∙ sym right)

-- y of the chord: y + y1 + l x = l x1, where y is what the definition makes of it
pub chord_y : (m x1 y1 d l t Z H R U S X Y x y : ℕ) → 0 < m → Same m (l * d) t → Same m H (d * (Z * Z)) →
    Same m R (t * (Z * Z * Z)) → Same m U (x1 * (Z * Z)) → Same m S (y1 * (Z * Z * Z)) → Same m X (x * ((Z * H) * (Z * H))) →
    Same m (Y + (S * (H * H * H) + R * X)) (R * (U * (H * H))) → Same m (y + (y1 + l * x)) (l * x1) →
    Same m Y (y * ((Z * H) * (Z * H) * (Z * H)))
chord_y m x1 y1 d l t Z H R U S X Y x y some slope h r u s first sum third =
    let h' = d * (Z * Z) in
    let z3 = Z * Z * Z in
    let hh : Same m (H * H) (h' * h') = same_mul m H h' H h' h h in
    let hhh : Same m (H * H * H) (h' * h' * h') = same_mul m (H * H) (h' * h') H h' hh h in
    let zh : Same m (Z * H) (Z * h') = same_mul m Z Z H h' refl h in
    let zh2 : Same m ((Z * H) * (Z * H)) ((Z * h') * (Z * h')) = same_mul m _ _ _ _ zh zh in
    let zh3 : Same m ((Z * H) * (Z * H) * (Z * H)) ((Z * h') * (Z * h') * (Z * h')) = same_mul m _ _ _ _ zh2 zh in
    let r' : Same m R (l * d * z3) = r ∙ same_mul m t (l * d) z3 z3 (sym slope) refl in
    let x' : Same m X (x * ((Z * h') * (Z * h'))) = first ∙ same_mul m x x _ _ refl zh2 in
    let taken : Same m (S * (H * H * H) + R * X) (y1 * z3 * (h' * h' * h') + l * d * z3 * (x * ((Z * h') * (Z * h')))) =
    same_add m _ _ _ _ (same_mul m S (y1 * z3) _ _ s hhh) (same_mul m R (l * d * z3) X _ r' x') in
    let made : Same m (R * (U * (H * H))) (l * d * z3 * (x1 * (Z * Z) * (h' * h'))) =
    same_mul m R (l * d * z3) _ _ r' (same_mul m U (x1 * (Z * Z)) _ _ u hh) in
    let w = (Z * h') * (Z * h') * (Z * h') in
    let grouped : l * d * z3 * (x1 * (Z * Z) * (h' * h')) ≡ l * x1 * w = omega arith in
    let opened : (y + (y1 + l * x)) * w ≡ y * w + (y1 * z3 * (h' * h' * h') + l * d * z3 * (x * ((Z * h') * (Z * h')))) = omega arith in
    let right : Same m (y * ((Z * H) * (Z * H) * (Z * H)) + (S * (H * H * H) + R * X)) (y * w + (y1 * z3 * (h' * h' * h') + l * d * z3 * (x * ((Z * h') * (Z * h'))))) =
    same_add m _ _ _ _ (same_mul m y y _ _ refl zh3) taken in
    cancel m Y (y * ((Z * H) * (Z * H) * (Z * H))) (S * (H * H * H) + R * X) some
    (sum ∙ made ∙ ap (λ k. k % m) grouped ∙ same_mul m (l * x1) (y + (y1 + l * x)) w w (sym third) refl
    ∙ ap (λ k. k % m) opened ∙ sym right)
