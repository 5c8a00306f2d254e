-- Whether a table has the doubles of a point, as a test that computes.
use Rattle.std.proofs.Common.{◌≡◌, ℕ, suc, ◌+◌, ◌*◌, ◌^◌, ◌%◌, ◌<◌, ◌==◌, ◌&&◌, nat_lt, Bool, true, false, List, [], ◌∷◌, Option, Some, None, ap, sym, subst, ◌∙◌, refl, arith, eqb-true, ltb-true, eq-eqb, ne_eqb, ◌≢◌, zero-mul}
use Rattle.std.specs.Int.{from_bool}
use Rattle.std.proofs.Math.Nat.{mod-lt, mod-eq_of_lt, mul-mod_right}
use Rattle.std.proofs.Math.Path.{ap₂}
use Rattle.std.proofs.lemmas.Bool.{and_parts}
use Rattle.numbers.specs.Limbs.{number}
use Rattle.ecdsa.proofs.Search.{inverse_is}
use Rattle.ecdsa.proofs.Congruence.{same_mul}
use Rattle.ecdsa.specs.Curve.{Domain, Point, Point.Infinity, Point.Affine, by_slope, sum, sum_of, doubled}
use Rattle.ecdsa.specs.Doubles.{DoublesRow, Rows}
use Rattle.ecdsa.specs.Stands.{IsAt, AreFor}
use Rattle.ecdsa.specs.Field.{size, value, Below}
use Rattle.ecdsa.specs.declared.field.Field.{Field}
use Rattle.ecdsa.proofs.FieldValues.{value_is}

-- a row has the forms of (x, y), of which w is the inverse of twice y
unfoldable pub row_holds : Domain → ℕ → ℕ → ℕ → List ℕ → List ℕ → ℕ → Bool
row_holds E weight x y X Y w =
    (nat_lt x E.p && nat_lt y E.p) && ((number X == (x * weight) % E.p && number Y == (y * weight) % E.p) && (nat_lt w E.p && (2 * y * w) % E.p == 1))

-- the rows are a point and its doubles
unfoldable pub chain : Domain → ℕ → List (List ℕ) → List (List ℕ) → List ℕ → Option Point → Bool
chain E weight [] [] ws R = true
chain E weight (X ∷ xs) (Y ∷ ys) (w ∷ ws) (Some (Affine x y)) =
    row_holds E weight x y X Y w && chain E weight xs ys ws (by_slope E.p x y x (3 * (x * x) + E.a) (Some w))
chain E weight xs ys ws R = false

pub row_is : {N KIND : ℕ} (f : Field N KIND) (E : Domain) → size f ≡ E.p → (i : ℕ) (P : Point) (x y : ℕ) (X Y : List ℕ) → doubled E i P ≡ Some (Affine x y) → x < E.p → y < E.p →
    number X ≡ (x * (2 ^ 64) ^ N) % E.p → number Y ≡ (y * (2 ^ 64) ^ N) % E.p → DoublesRow f E i P X Y
unfolding Below
row_is {N = N} f E is i P x y X Y double x_below y_below X_is Y_is =
    let m = size f in
    let X_here : number X ≡ (x * (2 ^ 64) ^ N) % m = X_is ∙ ap (λ p. (x * (2 ^ 64) ^ N) % p) (sym is) in
    let Y_here : number Y ≡ (y * (2 ^ 64) ^ N) % m = Y_is ∙ ap (λ p. (y * (2 ^ 64) ^ N) % p) (sym is) in
    let x_small : x < m = omega (arith, is, x_below) in
    let y_small : y < m = omega (arith, is, y_below) in
    let some : 0 < m = omega (arith, f.above) in
    let x_value = value_is f X x f.above f.odd x_small X_here in
    let y_value = value_is f Y y f.above f.odd y_small Y_here in
    let x_one : value f X ≡ x * (1 * 1) = omega (arith, x_value) in
    let y_one : value f Y ≡ y * (1 * 1 * 1) = omega (arith, y_value) in
    let at : IsAt m (value f X) (value f Y) 1 x y = record {
      x_below = x_small;
      y_below = y_small;
      unit = (1, mod-eq_of_lt f.above);
      x_is = ap (λ k. k % m) x_one;
      y_is = ap (λ k. k % m) y_one;
    } in
    record {
      x_below = omega (arith, X_here, mod-lt (x * (2 ^ 64) ^ N) some);
      y_below = omega (arith, Y_here, mod-lt (y * (2 ^ 64) ^ N) some);
      stands = subst (λ o. AreFor m (value f X) (value f Y) 1 o) (sym double) at;
    }

-- a number whose double has an inverse isn't its own opposite
not_opposite : (p y w : ℕ) → (2 * y * w) % p ≡ 1 → (y + y) % p ≢ 0
not_opposite p y w one none =
    let whole : 2 * y * w ≡ (y + y) * w = omega arith in
    let product : ((y + y) * w) % p ≡ (0 * w) % p = same_mul p (y + y) 0 w w (none ∙ sym (zero_mod p)) refl in
    let nought : (0 * w) % p ≡ 0 = ap (λ k. k % p) (zero-mul w) ∙ zero_mod p in
    let last : (2 * y * w) % p ≡ 0 = ap (λ k. k % p) whole ∙ product ∙ nought in
    omega (arith, one, last)
  where
    zero_mod : (k : ℕ) → 0 % k ≡ 0
    zero_mod k = omega (arith, mul-mod_right k 0)

double_is : (E : Domain) (x y w : ℕ) → 1 < E.p → w < E.p → (2 * y * w) % E.p ≡ 1 →
    sum E (Affine x y) (Affine x y) ≡ by_slope E.p x y x (3 * (x * x) + E.a) (Some w)
unfolding sum
double_is E x y w above below one =
    let x_same = eq-eqb x x refl in
    let y_same = eq-eqb y y refl in
    let other = ne_eqb ((y + y) % E.p) 0 (not_opposite E.p y w one) in
    rw (x_same, other, y_same, inverse_is E.p (2 * y) w above one below) refl

next : (E : Domain) (i : ℕ) (P : Point) (x y w : ℕ) → doubled E i P ≡ Some (Affine x y) → 1 < E.p → w < E.p → (2 * y * w) % E.p ≡ 1 →
    doubled E (suc i) P ≡ by_slope E.p x y x (3 * (x * x) + E.a) (Some w)
unfolding doubled
next E i P x y w before above below one = ap₂ (sum_of E) before before ∙ double_is E x y w above below one

clash : false ≡ true → ⊥
clash e = let no : from_bool false ≡ from_bool true = ap from_bool e in omega (arith, no)

-- a table that passes the test has the doubles
pub rows_of : {N KIND : ℕ} (f : Field N KIND) (E : Domain) → size f ≡ E.p → (i : ℕ) (P : Point) (R : Option Point) → doubled E i P ≡ R →
    (xs ys : List (List ℕ)) (ws : List ℕ) → chain E ((2 ^ 64) ^ N) xs ys ws R ≡ true → Rows f E i P xs ys
unfolding chain row_holds
rows_of f E is i P R before [] [] ws passed = tt
rows_of f E is i P R before [] (Y ∷ ys) ws passed = absurd (clash passed)
rows_of f E is i P R before (X ∷ xs) [] ws passed = absurd (clash passed)
rows_of f E is i P R before (X ∷ xs) (Y ∷ ys) [] passed = absurd (clash passed)
rows_of f E is i P None before (X ∷ xs) (Y ∷ ys) (w ∷ ws) passed = absurd (clash passed)
rows_of f E is i P (Some Infinity) before (X ∷ xs) (Y ∷ ys) (w ∷ ws) passed = absurd (clash passed)
rows_of {N = N} f E is i P (Some (Affine x y)) before (X ∷ xs) (Y ∷ ys) (w ∷ ws) passed =
    let weight = (2 ^ 64) ^ N in
    let parts = and_parts (row_holds E weight x y X Y w) (chain E weight xs ys ws (by_slope E.p x y x (3 * (x * x) + E.a) (Some w))) passed in
    let row = and_parts (nat_lt x E.p && nat_lt y E.p) ((number X == (x * weight) % E.p && number Y == (y * weight) % E.p) && (nat_lt w E.p && (2 * y * w) % E.p == 1)) parts.0 in
    let small = and_parts (nat_lt x E.p) (nat_lt y E.p) row.0 in
    let rest = and_parts (number X == (x * weight) % E.p && number Y == (y * weight) % E.p) (nat_lt w E.p && (2 * y * w) % E.p == 1) row.1 in
    let forms = and_parts (number X == (x * weight) % E.p) (number Y == (y * weight) % E.p) rest.0 in
    let unit = and_parts (nat_lt w E.p) ((2 * y * w) % E.p == 1) rest.1 in
    let above : 1 < E.p = omega (arith, is, f.above) in (
      row_is f E is i P x y X Y before (ltb-true x E.p small.0) (ltb-true y E.p small.1) (eqb-true _ _ forms.0) (eqb-true _ _ forms.1),
      rows_of f E is (suc i) P (by_slope E.p x y x (3 * (x * x) + E.a) (Some w))
          (next E i P x y w before above (ltb-true w E.p unit.0) (eqb-true _ _ unit.1)) xs ys ws parts.1,
    )
