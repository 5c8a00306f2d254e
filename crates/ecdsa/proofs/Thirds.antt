-- The third points that the formulas make are those of the definition's slopes.
use Rattle.std.proofs.Common.{◌≡◌, ℕ, ◌+◌, ◌-◌, ◌*◌, ◌%◌, ◌<◌, ⊎_elim, ap, sym, ◌∙◌, subst, refl, arith}
use Rattle.std.proofs.Math.Nat.{mod-mod, mod-lt, add-mod_right}
use Rattle.ecdsa.specs.Inverse.{inverse}
use Rattle.ecdsa.proofs.Congruence.{Same, same_add, same_mul, cancel}
use Rattle.ecdsa.specs.Curve.{minus, by_slope}
use Rattle.ecdsa.specs.Residues.{NoInverse}
use Rattle.ecdsa.specs.Stands.{IsAt, AreFor, IsChord, IsTangent}
use Rattle.ecdsa.proofs.Chord.{chord_x, chord_y}
use Rattle.ecdsa.proofs.Tangent.{tangent_x, tangent_y}
use Rattle.ecdsa.proofs.Slopes.{slope_is, alpha_is}
use Rattle.ecdsa.proofs.Inverses.{inverse_tells, one_is, unit_same, unit_times, unit_left, unit_right}

pub minus_is : (m a b : ℕ) → b < m → Same m (minus m a b + b) a
unfolding minus
minus_is m a b below =
    let whole : a + (m - b) + b ≡ a + m = omega arith in
    same_add m ((a + (m - b)) % m) (a + (m - b)) b b (mod-mod (a + (m - b)) m) refl ∙ ap (λ k. k % m) whole ∙ add-mod_right a m

pub minus_below : (m a b : ℕ) → 0 < m → minus m a b < m
unfolding minus
minus_below m a b some = mod-lt (a + (m - b)) some

third_x : (m l x1 x2 : ℕ) → x1 < m → x2 < m → Same m (minus m (minus m (l * l) x1) x2 + (x1 + x2)) (l * l)
third_x m l x1 x2 below below_too =
    let x3 = minus m (minus m (l * l) x1) x2 in
    let grouped : x3 + (x1 + x2) ≡ x3 + x2 + x1 = omega arith in
    ap (λ k. k % m) grouped ∙ same_add m (x3 + x2) (minus m (l * l) x1) x1 x1 (minus_is m (minus m (l * l) x1) x2 below_too) refl
    ∙ minus_is m (l * l) x1 below

third_y : (m l x1 y1 x3 : ℕ) → x3 < m → y1 < m → Same m (minus m (l * minus m x1 x3) y1 + (y1 + l * x3)) (l * x1)
third_y m l x1 y1 x3 below below_too =
    let d = minus m x1 x3 in
    let y3 = minus m (l * d) y1 in
    let grouped : y3 + (y1 + l * x3) ≡ y3 + y1 + l * x3 = omega arith in
    let joined : l * d + l * x3 ≡ l * (d + x3) = omega arith in
    ap (λ k. k % m) grouped ∙ same_add m (y3 + y1) (l * d) (l * x3) (l * x3) (minus_is m (l * d) y1 below_too) refl
    ∙ ap (λ k. k % m) joined ∙ same_mul m l l (d + x3) x1 refl (minus_is m x1 x3 below)

-- a difference of products with w
scaled_difference : (m a1 a2 d w H U U2 : ℕ) → 0 < m → Same m (d + a1) a2 → Same m U (a1 * w) → Same m U2 (a2 * w) → Same m (H + U) U2 → Same m H (d * w)
scaled_difference m a1 a2 d w H U U2 some apart u u2 h =
    let split : (d + a1) * w ≡ d * w + a1 * w = omega arith in
    cancel m H (d * w) U some
    (h ∙ u2 ∙ same_mul m a2 (d + a1) w w (sym apart) refl ∙ ap (λ k. k % m) split ∙ same_add m (d * w) (d * w) (a1 * w) U refl (sym u))

pub chord_at : (m U S U2 S2 Z H R x1 y1 x2 y2 X Y Z' : ℕ) → 1 < m → IsAt m U S Z x1 y1 → IsAt m U2 S2 Z x2 y2 → Same m (H + U) U2 → Same m (R + S) S2 →
    IsChord m U S H R Z X Y Z' → AreFor m X Y Z' (by_slope m x1 y1 x2 (minus m y2 y1) (inverse m (minus m x2 x1)))
unfolding by_slope
chord_at m U S U2 S2 Z H R x1 y1 x2 y2 X Y Z' above P Q h_is r_is made =
    let some : 0 < m = omega arith in
    let d = minus m x2 x1 in
    let t = minus m y2 y1 in
    let d_is : Same m (d + x1) x2 = minus_is m x2 x1 P.x_below in
    let t_is : Same m (t + y1) y2 = minus_is m y2 y1 P.y_below in
    let H' : Same m H (d * (Z * Z)) = scaled_difference m x1 x2 d (Z * Z) H U U2 some d_is P.x_is Q.x_is h_is in
    let R' : Same m R (t * (Z * Z * Z)) = scaled_difference m y1 y2 t (Z * Z * Z) R S S2 some t_is P.y_is Q.y_is r_is in
    let turned : d + x1 ≡ x1 + d = omega arith in
    ⊎_elim
    (λ g.
    let l = (t * g.w) % m in
    let x3 = minus m (minus m (l * l) x1) x2 in
    let y3 = minus m (l * minus m x1 x3) y1 in
    let one = g.one in
    let slope : Same m (l * d) t = slope_is m d t g.w (one ∙ sym (one_is m above)) in
    let x3_below : x3 < m = minus_below m (minus m (l * l) x1) x2 some in
    let zz : Same m (Z' * Z') (Z * H * (Z * H)) = same_mul m Z' (Z * H) Z' (Z * H) made.z made.z in
    let zzz : Same m (Z' * Z' * Z') (Z * H * (Z * H) * (Z * H)) = same_mul m (Z' * Z') (Z * H * (Z * H)) Z' (Z * H) zz made.z in
    let first : Same m X (x3 * (Z * H * (Z * H))) =
    chord_x m x1 x2 d l t Z H R U X x3 some (sym d_is ∙ ap (λ k. k % m) turned) slope H' R' P.x_is made.x (third_x m l x1 x2 P.x_below Q.x_below) in
    let second : Same m Y (y3 * (Z * H * (Z * H) * (Z * H))) =
    chord_y m x1 y1 d l t Z H R U S X Y x3 y3 some slope H' R' P.x_is P.y_is first made.y (third_y m l x1 y1 x3 x3_below P.y_below) in
    let at : IsAt m X Y Z' x3 y3 = record {
      x_below = x3_below;
      y_below = minus_below m (l * minus m x1 x3) y1 some;
      unit =
          unit_same m above (Z * H) Z' (sym made.z)
          (unit_times m above Z H P.unit
          (unit_same m above (d * (Z * Z)) H (sym H') (unit_times m above d (Z * Z) (g.w, one) (unit_times m above Z Z P.unit P.unit))));
      x_is = first ∙ same_mul m x3 x3 (Z * H * (Z * H)) (Z' * Z') refl (sym zz);
      y_is = second ∙ same_mul m y3 y3 (Z * H * (Z * H) * (Z * H)) (Z' * Z' * Z') refl (sym zzz);
    } in
    subst (λ o. AreFor m X Y Z' (by_slope m x1 y1 x2 t o)) (sym g.is) at)
    (λ n.
    let lacks : NoInverse m Z' = λ i one.
    let zh = unit_same m above Z' (Z * H) made.z (i, one) in
    let dz = unit_same m above H (d * (Z * Z)) H' (unit_right m above Z H zh) in
    let du = unit_left m above d (Z * Z) dz in
    n.none du.0 du.1 in
    subst (λ o. AreFor m X Y Z' (by_slope m x1 y1 x2 t o)) (sym n.is) lacks)
    (inverse_tells m d above)

pub tangent_at : (m a X0 Y0 Z x y X Y Z' : ℕ) → 1 < m → Same m (a + 3) 0 → IsAt m X0 Y0 Z x y → IsTangent m X0 Y0 Z X Y Z' →
    AreFor m X Y Z' (by_slope m x y x (3 * (x * x) + a) (inverse m (2 * y)))
unfolding by_slope
tangent_at m a X0 Y0 Z x y X Y Z' above three P made =
    let some : 0 < m = omega arith in
    let d = 2 * y in
    let t = 3 * (x * x) + a in
    let A = 3 * (made.less * (X0 + Z * Z)) in
    let A' : Same m A (t * (Z * Z * (Z * Z))) = alpha_is m x a Z X0 made.less (X0 + Z * Z) some three P.x_is made.less_is refl in
    let g : y * (Z * Z * Z) * (y * (Z * Z * Z)) ≡ y * y * (Z * Z * (Z * Z) * (Z * Z)) = omega arith in
    let G' : Same m (Y0 * Y0) (y * y * (Z * Z * (Z * Z) * (Z * Z))) = same_mul m Y0 (y * (Z * Z * Z)) Y0 (y * (Z * Z * Z)) P.y_is P.y_is ∙ ap (λ k. k % m) g in
    let B' : Same m (X0 * (Y0 * Y0)) (x * (Z * Z) * (y * y * (Z * Z * (Z * Z) * (Z * Z)))) = same_mul m X0 (x * (Z * Z)) (Y0 * Y0) (y * y * (Z * Z * (Z * Z) * (Z * Z))) P.x_is G' in
    let w : 2 * (y * (Z * Z * Z) * Z) ≡ 2 * y * (Z * Z * (Z * Z)) = omega arith in
    let W' : Same m Z' (2 * y * (Z * Z * (Z * Z))) =
    made.z ∙ same_mul m 2 2 (Y0 * Z) (y * (Z * Z * Z) * Z) refl (same_mul m Y0 (y * (Z * Z * Z)) Z Z P.y_is refl) ∙ ap (λ k. k % m) w in
    ⊎_elim
    (λ g.
    let l = (t * g.w) % m in
    let x3 = minus m (minus m (l * l) x) x in
    let y3 = minus m (l * minus m x x3) y in
    let slope : Same m (l * d) t = slope_is m d t g.w (g.one ∙ sym (one_is m above)) in
    let x3_below : x3 < m = minus_below m (minus m (l * l) x) x some in
    let first : Same m X (x3 * (Z' * Z')) =
    tangent_x m x y l t Z A (X0 * (Y0 * Y0)) Z' X x3 some slope A' B' W' made.x (third_x m l x x P.x_below P.x_below) in
    let at : IsAt m X Y Z' x3 y3 = record {
      x_below = x3_below;
      y_below = minus_below m (l * minus m x x3) y some;
      unit =
          unit_same m above (d * (Z * Z * (Z * Z))) Z' (sym W')
          (unit_times m above d (Z * Z * (Z * Z)) (g.w, g.one)
          (unit_times m above (Z * Z) (Z * Z) (unit_times m above Z Z P.unit P.unit) (unit_times m above Z Z P.unit P.unit)));
      x_is = first;
      y_is =
          tangent_y m x y l t Z A (X0 * (Y0 * Y0)) (Y0 * Y0) Z' X Y x3 y3 some slope A' B' G' W' first made.y (third_y m l x y x3 x3_below P.y_below);
    } in
    subst (λ o. AreFor m X Y Z' (by_slope m x y x t o)) (sym g.is) at)
    (λ n.
    let lacks : NoInverse m Z' = λ i one.
    let du = unit_left m above d (Z * Z * (Z * Z)) (unit_same m above Z' (d * (Z * Z * (Z * Z))) W' (i, one)) in
    n.none du.0 du.1 in
    subst (λ o. AreFor m X Y Z' (by_slope m x y x t o)) (sym n.is) lacks)
    (inverse_tells m d above)
