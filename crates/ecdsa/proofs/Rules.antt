-- Sums over one Z, by the rules of the definition.
use Rattle.std.proofs.Common.{◌≡◌, ◌≢◌, ℕ, ◌+◌, ◌-◌, ◌*◌, ◌%◌, ◌<◌, inl, inr, Option, Some, None, ⊎_elim, ap, sym, ◌∙◌, subst, refl, arith}
use Rattle.std.proofs.Math.Path.{ap₂}
use Rattle.std.proofs.Math.Nat.{mod-eq_of_lt}
use Rattle.std.proofs.lemmas.Bool.{eq-eqb, ne_eqb, cases_lt}
use Rattle.ecdsa.specs.Inverse.{inverse}
use Rattle.ecdsa.proofs.Congruence.{Same, same_add, same_mul, cancel, rest_over}
use Rattle.ecdsa.specs.Curve.{Domain, Point, Point.Infinity, Point.Affine, minus, by_slope, sum, sum_of}
use Rattle.ecdsa.specs.Domains.{AreBoth, Meet}
use Rattle.ecdsa.specs.Residues.{HasInverse, NoInverse}
use Rattle.ecdsa.specs.Stands.{IsAt, AreFor, IsChord, IsTangent}
use Rattle.ecdsa.proofs.Inverses.{inverse_tells, unit_same, unit_times, unit_left, unit_right, zero_lacks, cancel_unit, cancel_unit_zero}
use Rattle.ecdsa.proofs.Thirds.{minus_is, chord_at, tangent_at}

pub none_left : (E : Domain) (R : Option Point) → sum_of E None R ≡ None
none_left E None = refl
none_left E (Some P) = refl

pub none_right : (E : Domain) (R : Option Point) → sum_of E R None ≡ None
none_right E None = refl
none_right E (Some P) = refl

pub infinity_left : (E : Domain) (R : Option Point) → sum_of E (Some Infinity) R ≡ R
unfolding sum
infinity_left E None = refl
infinity_left E (Some P) = refl

pub infinity_right : (E : Domain) (R : Option Point) → sum_of E R (Some Infinity) ≡ R
unfolding sum
infinity_right E None = refl
infinity_right E (Some Infinity) = refl
infinity_right E (Some (Affine x y)) = refl

sum_chord : (E : Domain) (x1 y1 x2 y2 : ℕ) → x1 ≢ x2 →
    sum E (Affine x1 y1) (Affine x2 y2) ≡ by_slope E.p x1 y1 x2 (minus E.p y2 y1) (inverse E.p (minus E.p x2 x1))
unfolding sum
sum_chord E x1 y1 x2 y2 other = let test = ne_eqb x1 x2 other in rw test refl

sum_tangent : (E : Domain) (x y : ℕ) → (y + y) % E.p ≢ 0 →
    sum E (Affine x y) (Affine x y) ≡ by_slope E.p x y x (3 * (x * x) + E.a) (inverse E.p (2 * y))
unfolding sum
sum_tangent E x y other =
    let x_test = eq-eqb x x refl in
    let y_test = eq-eqb y y refl in
    let test = ne_eqb ((y + y) % E.p) 0 other in
    rw (x_test, test, y_test) refl

sum_opposite : (E : Domain) (x y1 y2 : ℕ) → (y1 + y2) % E.p ≡ 0 → sum E (Affine x y1) (Affine x y2) ≡ Some Infinity
unfolding sum
sum_opposite E x y1 y2 none =
    let x_test = eq-eqb x x refl in
    let test = eq-eqb ((y1 + y2) % E.p) 0 none in
    rw (x_test, test) refl

sum_apart : (E : Domain) (x y1 y2 : ℕ) → (y1 + y2) % E.p ≢ 0 → y1 ≢ y2 →
    sum E (Affine x y1) (Affine x y2) ≡ by_slope E.p x y1 x (minus E.p y2 y1) (inverse E.p (minus E.p x x))
unfolding sum
sum_apart E x y1 y2 other apart =
    let x_test = eq-eqb x x refl in
    let test = ne_eqb ((y1 + y2) % E.p) 0 other in
    let y_test = ne_eqb y1 y2 apart in
    rw (x_test, test, y_test) refl

module _ (m : ℕ) (above : 1 < m) where
  small_zero : (v : ℕ) → v < m → Same m v 0 → v ≡ 0
  small_zero v below e = sym (mod-eq_of_lt below) ∙ e ∙ mod-eq_of_lt (omega arith)

  no_difference : (H U U2 : ℕ) → Same m (H + U) U2 → H ≡ 0 → Same m U U2
  no_difference H U U2 h none =
      let whole : U ≡ H + U = omega arith in
      ap (λ k. k % m) whole ∙ h

  same_from : (a b w U U2 : ℕ) → a < m → b < m → HasInverse m w → Same m U (a * w) → Same m U2 (b * w) → Same m U U2 → a ≡ b
  same_from a b w U U2 below below_too unit u u2 e =
      sym (mod-eq_of_lt below) ∙ cancel_unit m above a b w unit (sym u ∙ e ∙ u2) ∙ mod-eq_of_lt below_too

  -- where x (or y) is the same there is no difference
  difference_from : (a b w H U U2 : ℕ) → H < m → Same m U (a * w) → Same m U2 (b * w) → Same m (H + U) U2 → a ≡ b → H ≡ 0
  difference_from a b w H U U2 below u u2 h same =
      let whole : U ≡ 0 + U = omega arith in
      small_zero H below
      (cancel m H 0 U (omega arith) (h ∙ u2 ∙ ap (λ k. (k * w) % m) (sym same) ∙ sym u ∙ ap (λ k. k % m) whole))

  opposite_from : (y1 y2 w S S2 T : ℕ) → HasInverse m w → Same m S (y1 * w) → Same m S2 (y2 * w) → Same m T (S + S2) → T ≡ 0 → (y1 + y2) % m ≡ 0
  opposite_from y1 y2 w S S2 T unit s s2 t none =
      let split : (y1 + y2) * w ≡ y1 * w + y2 * w = omega arith in
      cancel_unit_zero m above (y1 + y2) w unit
      (ap (λ k. k % m) split ∙ sym (same_add m S (y1 * w) S2 (y2 * w) s s2) ∙ sym t ∙ ap (λ k. k % m) none)
      ∙ mod-eq_of_lt (omega arith)

  no_opposite : (y1 y2 w S S2 T : ℕ) → T < m → Same m S (y1 * w) → Same m S2 (y2 * w) → Same m T (S + S2) → (y1 + y2) % m ≡ 0 → T ≡ 0
  no_opposite y1 y2 w S S2 T below s s2 t none =
      let split : (y1 + y2) * w ≡ y1 * w + y2 * w = omega arith in
      let nothing : 0 * w ≡ 0 = omega arith in
      small_zero T below
      (t ∙ same_add m S (y1 * w) S2 (y2 * w) s s2 ∙ ap (λ k. k % m) (sym split)
      ∙ same_mul m (y1 + y2) 0 w w (none ∙ sym (mod-eq_of_lt (omega arith))) refl ∙ ap (λ k. k % m) nothing)

  -- twice y is a multiple of an odd m only where y is 0
  no_double : (y : ℕ) → m % 2 ≡ 1 → y < m → (y + y) % m ≡ 0 → y ≡ 0
  no_double y odd below e =
      ⊎_elim
      (λ less. let whole : (y + y) % m ≡ y + y = mod-eq_of_lt less in omega arith)
      (λ more.
      let rest = y + y - m in
      let whole : y + y ≡ rest + m = omega arith in
      let left : (y + y) % m ≡ rest = rest_over m (y + y) rest (omega arith) whole in
      absurd (omega arith))
      (cases_lt (y + y) m)

  same_zero : (y w Y : ℕ) → Y < m → Same m Y (y * w) → y ≡ 0 → Y ≡ 0
  same_zero y w Y below e none =
      let nothing : 0 * w ≡ 0 = omega arith in
      small_zero Y below (e ∙ ap (λ k. (k * w) % m) none ∙ ap (λ k. k % m) nothing)

  -- the same point with another factor in Z
  pub scaled_at : (X Y Z W U S Z' x y : ℕ) → HasInverse m W → Same m U (X * (W * W)) → Same m S (Y * (W * W * W)) → Same m Z' (Z * W) →
      IsAt m X Y Z x y → IsAt m U S Z' x y
  scaled_at X Y Z W U S Z' x y unit u s z P =
      let zz : Same m (Z' * Z') (Z * W * (Z * W)) = same_mul m Z' (Z * W) Z' (Z * W) z z in
      let zzz : Same m (Z' * Z' * Z') (Z * W * (Z * W) * (Z * W)) = same_mul m (Z' * Z') (Z * W * (Z * W)) Z' (Z * W) zz z in
      let x_grouped : x * (Z * Z) * (W * W) ≡ x * (Z * W * (Z * W)) = omega arith in
      let y_grouped : y * (Z * Z * Z) * (W * W * W) ≡ y * (Z * W * (Z * W) * (Z * W)) = omega arith in
      record {
        x_below = P.x_below;
        y_below = P.y_below;
        unit = unit_same m above (Z * W) Z' (sym z) (unit_times m above Z W P.unit unit);
        x_is =
            u ∙ same_mul m X (x * (Z * Z)) (W * W) (W * W) P.x_is refl ∙ ap (λ k. k % m) x_grouped ∙ same_mul m x x (Z * W * (Z * W)) (Z' * Z') refl (sym zz);
        y_is =
            s ∙ same_mul m Y (y * (Z * Z * Z)) (W * W * W) (W * W * W) P.y_is refl ∙ ap (λ k. k % m) y_grouped
            ∙ same_mul m y y (Z * W * (Z * W) * (Z * W)) (Z' * Z' * Z') refl (sym zzz);
      }

  square_unit : (Z : ℕ) → HasInverse m Z → HasInverse m (Z * Z)
  square_unit Z unit = unit_times m above Z Z unit unit

  cube_unit : (Z : ℕ) → HasInverse m Z → HasInverse m (Z * Z * Z)
  cube_unit Z unit = unit_times m above (Z * Z) Z (square_unit Z unit) unit

module _ (E : Domain) (above : 1 < E.p) where
  both : (U S U2 S2 Z : ℕ) (left right : Option Point) (b : AreBoth E U S U2 S2 Z left right) → sum_of E left right ≡ sum E (Affine b.x1 b.y1) (Affine b.x2 b.y2)
  both U S U2 S2 Z left right b = ap₂ (sum_of E) b.first b.second

  pub chord_sum : (U S U2 S2 Z H R X Y Z' : ℕ) (left right : Option Point) → H < E.p → H ≢ 0 → Same E.p (H + U) U2 → Same E.p (R + S) S2 →
      IsChord E.p U S H R Z X Y Z' → Meet E U S U2 S2 Z left right → AreFor E.p X Y Z' (sum_of E left right)
  chord_sum U S U2 S2 Z H R X Y Z' left right below other h r made meet =
      ⊎_elim
      (λ b.
      let apart : b.x1 ≢ b.x2 = λ same. other (difference_from E.p above b.x1 b.x2 (Z * Z) H U U2 below b.first_at.x_is b.second_at.x_is h same) in
      let is = both U S U2 S2 Z left right b ∙ sum_chord E b.x1 b.y1 b.x2 b.y2 apart in
      subst (λ o. AreFor E.p X Y Z' o) (sym is)
      (chord_at E.p U S U2 S2 Z H R b.x1 b.y1 b.x2 b.y2 X Y Z' above b.first_at b.second_at h r made))
      (λ n.
      let lacks : NoInverse E.p Z' = λ i one.
      let unit = unit_left E.p above Z H (unit_same E.p above Z' (Z * H) made.z (i, one)) in
      n.lacks unit.0 unit.1 in
      subst (λ o. AreFor E.p X Y Z' o) (sym n.none) lacks)
      meet

  pub lacking_sum : (U S U2 S2 Z X Y : ℕ) (left right : Option Point) → NoInverse E.p Z → Meet E U S U2 S2 Z left right → AreFor E.p X Y Z (sum_of E left right)
  lacking_sum U S U2 S2 Z X Y left right lacks meet =
      ⊎_elim
      (λ b. let unit = b.first_at.unit in absurd (lacks unit.0 unit.1))
      (λ n. subst (λ o. AreFor E.p X Y Z o) (sym n.none) lacks)
      meet

  -- where x and y are the same, both are one point
  pub same_sum : (U S U2 S2 Z H R : ℕ) (left right : Option Point) → HasInverse E.p Z → H ≡ 0 → R ≡ 0 → Same E.p (H + U) U2 → Same E.p (R + S) S2 →
      Meet E U S U2 S2 Z left right → (left ≡ right) × AreFor E.p U S Z left
  same_sum U S U2 S2 Z H R left right unit none none_too h r meet =
      ⊎_elim
      (λ b.
      let x_same : b.x1 ≡ b.x2 =
      same_from E.p above b.x1 b.x2 (Z * Z) U U2 b.first_at.x_below b.second_at.x_below (square_unit E.p above Z unit) b.first_at.x_is b.second_at.x_is
      (no_difference E.p above H U U2 h none) in
      let y_same : b.y1 ≡ b.y2 =
      same_from E.p above b.y1 b.y2 (Z * Z * Z) S S2 b.first_at.y_below b.second_at.y_below (cube_unit E.p above Z unit) b.first_at.y_is b.second_at.y_is
      (no_difference E.p above R S S2 r none_too) in
      (b.first ∙ ap₂ (λ x y. Some (Affine x y)) x_same y_same ∙ sym b.second, subst (λ o. AreFor E.p U S Z o) (sym b.first) b.first_at))
      (λ n. absurd (n.lacks unit.0 unit.1))
      meet

  pub opposite_sum : (U S U2 S2 Z H T : ℕ) (left right : Option Point) → HasInverse E.p Z → H ≡ 0 → Same E.p (H + U) U2 → Same E.p T (S + S2) → T ≡ 0 →
      Meet E U S U2 S2 Z left right → sum_of E left right ≡ Some Infinity
  opposite_sum U S U2 S2 Z H T left right unit none h t none_too meet =
      ⊎_elim
      (λ b.
      let x_same : b.x1 ≡ b.x2 =
      same_from E.p above b.x1 b.x2 (Z * Z) U U2 b.first_at.x_below b.second_at.x_below (square_unit E.p above Z unit) b.first_at.x_is b.second_at.x_is
      (no_difference E.p above H U U2 h none) in
      let turned : (b.y1 + b.y2) % E.p ≡ 0 =
      opposite_from E.p above b.y1 b.y2 (Z * Z * Z) S S2 T (cube_unit E.p above Z unit) b.first_at.y_is b.second_at.y_is t none_too in
      both U S U2 S2 Z left right b ∙ ap (λ x. sum E (Affine b.x1 b.y1) (Affine x b.y2)) (sym x_same) ∙ sum_opposite E b.x1 b.y1 b.y2 turned)
      (λ n. absurd (n.lacks unit.0 unit.1))
      meet

  no_slope : (x : ℕ) → x < E.p → inverse E.p (minus E.p x x) ≡ None
  no_slope x below =
      let whole : x ≡ 0 + x = omega arith in
      let zero_is : Same E.p (minus E.p x x) 0 =
      cancel E.p (minus E.p x x) 0 x (omega arith) (minus_is E.p x x below ∙ ap (λ k. k % E.p) whole) in
      ⊎_elim
      (λ g. absurd (zero_lacks E.p above (minus E.p x x) zero_is g.w g.one))
      (λ l. l.is)
      (inverse_tells E.p (minus E.p x x) above)

  pub apart_sum : (U S U2 S2 Z H R T X Y : ℕ) (left right : Option Point) → HasInverse E.p Z → H ≡ 0 → R < E.p → R ≢ 0 → T < E.p → T ≢ 0 →
      Same E.p (H + U) U2 → Same E.p (R + S) S2 → Same E.p T (S + S2) → Meet E U S U2 S2 Z left right → AreFor E.p X Y H (sum_of E left right)
  unfolding by_slope
  apart_sum U S U2 S2 Z H R T X Y left right unit none r_below r_other t_below t_other h r t meet =
      ⊎_elim
      (λ b.
      let x_same : b.x1 ≡ b.x2 =
      same_from E.p above b.x1 b.x2 (Z * Z) U U2 b.first_at.x_below b.second_at.x_below (square_unit E.p above Z unit) b.first_at.x_is b.second_at.x_is
      (no_difference E.p above H U U2 h none) in
      let y_other : b.y1 ≢ b.y2 = λ same.
      r_other (difference_from E.p above b.y1 b.y2 (Z * Z * Z) R S S2 r_below b.first_at.y_is b.second_at.y_is r same) in
      let no_turn : (b.y1 + b.y2) % E.p ≢ 0 = λ turned.
      t_other (no_opposite E.p above b.y1 b.y2 (Z * Z * Z) S S2 T t_below b.first_at.y_is b.second_at.y_is t turned) in
      let is : sum_of E left right ≡ None =
      both U S U2 S2 Z left right b ∙ ap (λ x. sum E (Affine b.x1 b.y1) (Affine x b.y2)) (sym x_same) ∙ sum_apart E b.x1 b.y1 b.y2 no_turn y_other
      ∙ ap (by_slope E.p b.x1 b.y1 b.x1 (minus E.p b.y2 b.y1)) (no_slope b.x1 b.first_at.x_below) in
      subst (λ o. AreFor E.p X Y H o) (sym is) (zero_lacks E.p above H (ap (λ k. k % E.p) none)))
      (λ n. absurd (n.lacks unit.0 unit.1))
      meet

  pub tangent_sum : (X Y Z X' Y' Z' : ℕ) (R : Option Point) → E.p % 2 ≡ 1 → Same E.p (E.a + 3) 0 → Y < E.p → (Y ≡ 0 → NoInverse E.p Z) →
      IsTangent E.p X Y Z X' Y' Z' → AreFor E.p X Y Z R → AreFor E.p X' Y' Z' (sum_of E R R)
  tangent_sum X Y Z X' Y' Z' None odd three below apart made at =
      λ i one.
      let turned : Z * (2 * Y) ≡ 2 * (Y * Z) = omega arith in
      let unit = unit_left E.p above Z (2 * Y) (unit_same E.p above Z' (Z * (2 * Y)) (made.z ∙ ap (λ k. k % E.p) (sym turned)) (i, one)) in
      at unit.0 unit.1
  tangent_sum X Y Z X' Y' Z' (Some Infinity) odd three below apart made at = absurd at
  tangent_sum X Y Z X' Y' Z' (Some (Affine x y)) odd three below apart made at =
      let other : (y + y) % E.p ≢ 0 = λ e.
      let lacks = apart (same_zero E.p above y (Z * Z * Z) Y below at.y_is (no_double E.p above y odd at.y_below e)) in
      lacks at.unit.0 at.unit.1 in
      subst (λ o. AreFor E.p X' Y' Z' o) (sym (sum_tangent E x y other)) (tangent_at E.p E.a X Y Z x y X' Y' Z' above three at made)

  pub infinite_double : (X Y Z : ℕ) (R : Option Point) → HasInverse E.p Z → Y ≡ 0 → AreFor E.p X Y Z R → sum_of E R R ≡ Some Infinity
  infinite_double X Y Z None unit none at = absurd (at unit.0 unit.1)
  infinite_double X Y Z (Some Infinity) unit none at = absurd at
  infinite_double X Y Z (Some (Affine x y)) unit none at =
      let zero_too : Same E.p (y * (Z * Z * Z)) 0 = sym at.y_is ∙ ap (λ k. k % E.p) none in
      let y_zero : y ≡ 0 = small_zero E.p above y at.y_below (cancel_unit_zero E.p above y (Z * Z * Z) (cube_unit E.p above Z unit) zero_too) in
      let twice : y + y ≡ 0 = omega arith in
      sum_opposite E x y y (ap (λ k. k % E.p) twice ∙ mod-eq_of_lt (omega arith))

  -- over the product of both Z
  pub meets : (X1 Y1 Z1 X2 Y2 Z2 U S U2 S2 Z : ℕ) (left right : Option Point) → Same E.p U (X1 * (Z2 * Z2)) → Same E.p S (Y1 * (Z2 * Z2 * Z2)) →
      Same E.p U2 (X2 * (Z1 * Z1)) → Same E.p S2 (Y2 * (Z1 * Z1 * Z1)) → Same E.p Z (Z1 * Z2) → AreFor E.p X1 Y1 Z1 left → AreFor E.p X2 Y2 Z2 right →
      Meet E U S U2 S2 Z left right
  meets X1 Y1 Z1 X2 Y2 Z2 U S U2 S2 Z None right u s u2 s2 z first second =
      inr (record {
        none = none_left E right;
        lacks = λ i one.
            let unit = unit_left E.p above Z1 Z2 (unit_same E.p above Z (Z1 * Z2) z (i, one)) in
            first unit.0 unit.1;
      })
  meets X1 Y1 Z1 X2 Y2 Z2 U S U2 S2 Z (Some Infinity) right u s u2 s2 z first second = absurd first
  meets X1 Y1 Z1 X2 Y2 Z2 U S U2 S2 Z (Some (Affine x1 y1)) None u s u2 s2 z first second =
      inr (record {
        none = refl;
        lacks = λ i one.
            let unit = unit_right E.p above Z1 Z2 (unit_same E.p above Z (Z1 * Z2) z (i, one)) in
            second unit.0 unit.1;
      })
  meets X1 Y1 Z1 X2 Y2 Z2 U S U2 S2 Z (Some (Affine x1 y1)) (Some Infinity) u s u2 s2 z first second = absurd second
  meets X1 Y1 Z1 X2 Y2 Z2 U S U2 S2 Z (Some (Affine x1 y1)) (Some (Affine x2 y2)) u s u2 s2 z first second =
      let turned : Z1 * Z2 ≡ Z2 * Z1 = omega arith in
      inl (record {
        x1 = x1;
        y1 = y1;
        x2 = x2;
        y2 = y2;
        first = refl;
        second = refl;
        first_at = scaled_at E.p above X1 Y1 Z1 Z2 U S Z x1 y1 second.unit u s z first;
        second_at = scaled_at E.p above X2 Y2 Z2 Z1 U2 S2 Z x2 y2 first.unit u2 s2 (z ∙ ap (λ k. k % E.p) turned) second;
      })

  -- over the first Z, where the second is 1
  pub meets_affine : (X1 Y1 Z1 X2 Y2 Z2 U2 S2 : ℕ) (left right : Option Point) → Z2 ≡ 1 → Same E.p U2 (X2 * (Z1 * Z1)) → Same E.p S2 (Y2 * (Z1 * Z1 * Z1)) →
      AreFor E.p X1 Y1 Z1 left → AreFor E.p X2 Y2 Z2 right → Meet E X1 Y1 U2 S2 Z1 left right
  meets_affine X1 Y1 Z1 X2 Y2 Z2 U2 S2 left right one u2 s2 first second =
      let alone : X1 ≡ X1 * (Z2 * Z2) = omega (arith, ap (λ k. X1 * (k * k)) one) in
      let alone_too : Y1 ≡ Y1 * (Z2 * Z2 * Z2) = omega (arith, ap (λ k. Y1 * (k * k * k)) one) in
      let same : Z1 ≡ Z1 * Z2 = omega (arith, ap (λ k. Z1 * k) one) in
      meets X1 Y1 Z1 X2 Y2 Z2 X1 Y1 U2 S2 Z1 left right (ap (λ k. k % E.p) alone) (ap (λ k. k % E.p) alone_too) u2 s2 (ap (λ k. k % E.p) same) first second
