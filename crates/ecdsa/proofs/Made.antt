-- The formulas, step by step, modulo m.
use Rattle.std.proofs.Common.{◌≡◌, ℕ, ◌+◌, ◌*◌, ◌%◌, ◌<◌, ap, sym, ◌∙◌, refl, arith}
use Rattle.ecdsa.proofs.Congruence.{Same, same_add, same_mul}
use Rattle.ecdsa.specs.Stands.{IsChord, IsTangent}

same_twice : (m a b t : ℕ) → Same m t (a + a) → Same m a b → Same m t (2 * b)
same_twice m a b t e f =
    let double : b + b ≡ 2 * b = omega arith in
    e ∙ same_add m a b a b f f ∙ ap (λ k. k % m) double

-- a product with a difference
across_is : (m rest a b R T : ℕ) → 0 < m → Same m (rest + b) a → Same m T (R * rest) → Same m (T + R * b) (R * a)
across_is m rest a b R T some e f =
    let split : R * rest + R * b ≡ R * (rest + b) = omega arith in
    same_add m T (R * rest) (R * b) (R * b) f refl ∙ ap (λ k. k % m) split ∙ same_mul m R R (rest + b) a refl e

pub chord_made : (m U S H R Z hh hhh v vv taken rr X rest across down Y Z' : ℕ) → 0 < m →
    Same m hh (H * H) → Same m hhh (hh * H) → Same m v (U * hh) → Same m vv (v + v) → Same m taken (hhh + vv) → Same m rr (R * R) →
    Same m (X + taken) rr → Same m (rest + X) v → Same m across (R * rest) → Same m down (S * hhh) → Same m (Y + down) across → Same m Z' (Z * H) →
    IsChord m U S H R Z X Y Z'
chord_made m U S H R Z hh hhh v vv taken rr X rest across down Y Z' some hh_is hhh_is v_is vv_is taken_is rr_is x_is rest_is across_is' down_is y_is z_is =
    let cube : Same m hhh (H * H * H) = hhh_is ∙ same_mul m hh (H * H) H H hh_is refl in
    let v' : Same m v (U * (H * H)) = v_is ∙ same_mul m U U hh (H * H) refl hh_is in
    let taken' : Same m taken (H * H * H + 2 * (U * (H * H))) = taken_is ∙ same_add m hhh (H * H * H) vv (2 * (U * (H * H))) cube (same_twice m v (U * (H * H)) vv vv_is v') in
    let down' : Same m down (S * (H * H * H)) = down_is ∙ same_mul m S S hhh (H * H * H) refl cube in
    let grouped : Y + (S * (H * H * H) + R * X) ≡ Y + S * (H * H * H) + R * X = omega arith in
    record {
      x = same_add m X X (H * H * H + 2 * (U * (H * H))) taken refl (sym taken') ∙ x_is ∙ rr_is;
      y = ap (λ k. k % m) grouped
          ∙ same_add m (Y + S * (H * H * H)) across (R * X) (R * X) (same_add m Y Y (S * (H * H * H)) down refl (sym down') ∙ y_is) refl
          ∙ across_is m rest v X R across some rest_is across_is'
          ∙ same_mul m R R v (U * (H * H)) refl v';
      z = z_is;
    }

pub tangent_made : (m x y z delta gamma beta less more span span2 alpha beta2 beta4 beta8 square X gamma2 gamma4 gamma8 rest across Y yz Z : ℕ) → 0 < m →
    Same m delta (z * z) → Same m gamma (y * y) → Same m beta (x * gamma) → Same m (less + delta) x → Same m more (x + delta) → Same m span (less * more) →
    Same m span2 (span + span) → Same m alpha (span2 + span) → Same m beta2 (beta + beta) → Same m beta4 (beta2 + beta2) → Same m beta8 (beta4 + beta4) →
    Same m square (alpha * alpha) → Same m (X + beta8) square → Same m gamma2 (gamma + gamma) → Same m gamma4 (gamma2 * gamma2) → Same m gamma8 (gamma4 + gamma4) →
    Same m (rest + X) beta4 → Same m across (alpha * rest) → Same m (Y + gamma8) across → Same m yz (y * z) → Same m Z (yz + yz) →
    IsTangent m x y z X Y Z
tangent_made m x y z delta gamma beta less more span span2 alpha beta2 beta4 beta8 square X gamma2 gamma4 gamma8 rest across Y yz Z some
    delta_is gamma_is beta_is less_is more_is span_is span2_is alpha_is beta2_is beta4_is beta8_is square_is x_is gamma2_is gamma4_is gamma8_is rest_is across_is' y_is yz_is z_is =
    let s = less * (x + z * z) in
    let a = 3 * s in
    let b = x * (y * y) in
    let g = y * y in
    let span' : Same m span s = span_is ∙ same_mul m less less more (x + z * z) refl (more_is ∙ same_add m x x delta (z * z) refl delta_is) in
    let three : 2 * s + s ≡ 3 * s = omega arith in
    let alpha' : Same m alpha a = alpha_is ∙ same_add m span2 (2 * s) span s (same_twice m span s span2 span2_is span') span' ∙ ap (λ k. k % m) three in
    let beta' : Same m beta b = beta_is ∙ same_mul m x x gamma g refl gamma_is in
    let four : 2 * (2 * b) ≡ 4 * b = omega arith in
    let eight : 2 * (4 * b) ≡ 8 * b = omega arith in
    let beta4' : Same m beta4 (4 * b) = same_twice m beta2 (2 * b) beta4 beta4_is (same_twice m beta b beta2 beta2_is beta') ∙ ap (λ k. k % m) four in
    let beta8' : Same m beta8 (8 * b) = same_twice m beta4 (4 * b) beta8 beta8_is beta4' ∙ ap (λ k. k % m) eight in
    let gamma2' : Same m gamma2 (2 * g) = same_twice m gamma g gamma2 gamma2_is gamma_is in
    let gamma4' : Same m gamma4 (2 * g * (2 * g)) = gamma4_is ∙ same_mul m gamma2 (2 * g) gamma2 (2 * g) gamma2' gamma2' in
    let eight' : 2 * (2 * g * (2 * g)) ≡ 8 * (g * g) = omega arith in
    let gamma8' : Same m gamma8 (8 * (g * g)) = same_twice m gamma4 (2 * g * (2 * g)) gamma8 gamma8_is gamma4' ∙ ap (λ k. k % m) eight' in
    let grouped : Y + (8 * (g * g) + a * X) ≡ Y + 8 * (g * g) + a * X = omega arith in
    record {
      less = less;
      less_is = same_add m less less (z * z) delta refl (sym delta_is) ∙ less_is;
      x = same_add m X X (8 * b) beta8 refl (sym beta8') ∙ x_is ∙ square_is ∙ same_mul m alpha a alpha a alpha' alpha';
      y = ap (λ k. k % m) grouped
          ∙ same_add m (Y + 8 * (g * g)) across (a * X) (alpha * X) (same_add m Y Y (8 * (g * g)) gamma8 refl (sym gamma8') ∙ y_is) (same_mul m a alpha X X (sym alpha') refl)
          ∙ across_is m rest beta4 X alpha across some rest_is across_is'
          ∙ same_mul m alpha a beta4 (4 * b) alpha' beta4';
      z = z_is ∙ same_twice m yz (y * z) (yz + yz) refl yz_is;
    }
