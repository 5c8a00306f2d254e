-- The tests of a signature.
use Rattle.std.proofs.Common.{◌≡◌, ◌≢◌, ℕ, ◌+◌, ◌-◌, ◌*◌, ◌%◌, ◌<◌, ◌≤◌, ◌↔◌, ◌==◌, ◌&&◌, nat_lt, IsTrue, Bool, true, false, Option, Some, None, ⊎_elim, ap, sym, ◌∙◌, refl, arith}
use Rattle.std.proofs.Math.Nat.{mod-mod, mod-eq_of_lt, add-mul-mod_self_left}
use Rattle.std.proofs.lemmas.Bool.{eq-eqb, ne_eqb, lt-ltb, le-ltb, cases_lt, iff_false}
use Rattle.std.specs.Int.{from_bool}
use Rattle.ecdsa.specs.Inverse.{inverse}
use Rattle.ecdsa.proofs.Congruence.{Same, same_add, same_mul, cancel}
use Rattle.ecdsa.specs.Curve.{Point, Point.Infinity, Point.Affine, Domain, sum_of, multiple, has_x, holds_by, is_key, holds}
use Rattle.ecdsa.specs.Residues.{NoInverse}
use Rattle.ecdsa.specs.Stands.{IsAt, AreFor}
use Rattle.ecdsa.proofs.Inverses.{one_is, inverse_tells}

-- a test of one fact by its parts
pub tested : (t : Bool) (a b : ℕ) → ((t ≡ true) ↔ (a ≡ b)) → t ≡ (a == b)
tested true a b is = sym (eq-eqb a b (is.0 refl))
tested false a b is = sym (ne_eqb a b (λ e. let no : false ≡ true = is.1 e in cc))

pub not_less : (less : Bool) (n m : ℕ) → (IsTrue less ↔ (n < m)) → less ≡ false → m ≤ n
not_less less n m is refused = ⊎_elim (λ below. absurd (iff_false is refused below)) (λ above. above) (cases_lt n m)

pub less_tested : (t : Bool) (a n : ℕ) → (IsTrue t ↔ (a < n)) → t ≡ nat_lt a n
less_tested true a n is = sym (lt-ltb a n (is.0 refl))
less_tested false a n is = sym (le-ltb a n (not_less false a n is refl))

pub scalar_zero : (a n : ℕ) → a ≡ 0 → false ≡ (nat_lt 0 a && nat_lt a n)
scalar_zero a n none = ap (λ k. nat_lt 0 k && nat_lt a n) (sym none)

pub scalar_some : (t : Bool) (a n : ℕ) → a ≢ 0 → (IsTrue t ↔ (a < n)) → t ≡ (nat_lt 0 a && nat_lt a n)
scalar_some t a n some is =
    let above : 0 < a = omega arith in
    let test = lt-ltb 0 a above in
    less_tested t a n is ∙ ap (λ b. b && nat_lt a n) (sym test)

-- x^3 - 3x + b
pub right_is : (m x b square cube twice thrice rest right : ℕ) → 3 ≤ m → Same m square (x * x) → Same m cube (square * x) → Same m twice (x + x) →
    Same m thrice (twice + x) → Same m (rest + thrice) cube → Same m right (rest + b) → Same m right (x * x * x + (m - 3) * x + b)
right_is m x b square cube twice thrice rest right three square_is cube_is twice_is thrice_is rest_is right_is' =
    let a = m - 3 in
    let whole : a + 3 ≡ m = omega arith in
    let times : x * x * x + a * x + 3 * x ≡ x * x * x + m * x = omega (arith, ap (λ k. k * x) whole) in
    let three_x : x + x + x ≡ 3 * x = omega arith in
    let thrice' : Same m thrice (3 * x) = thrice_is ∙ same_add m twice (x + x) x x twice_is refl ∙ ap (λ k. k % m) three_x in
    let cube' : Same m cube (x * x * x) = cube_is ∙ same_mul m square (x * x) x x square_is refl in
    let rest' : Same m rest (x * x * x + a * x) =
    cancel m rest (x * x * x + a * x) (3 * x) (omega arith)
    (same_add m rest rest (3 * x) thrice refl (sym thrice') ∙ rest_is ∙ cube' ∙ sym (add-mul-mod_self_left (x * x * x) m x) ∙ ap (λ k. k % m) (sym times)) in
    right_is' ∙ same_add m rest (x * x * x + a * x) b b rest' refl

pub key_first : (E : Domain) (x y : ℕ) → E.p ≤ x → false ≡ is_key E x y
unfolding is_key
key_first E x y above = let test = le-ltb x E.p above in rw test refl

pub key_second : (E : Domain) (x y : ℕ) → x < E.p → E.p ≤ y → false ≡ is_key E x y
unfolding is_key
key_second E x y below above = let test = lt-ltb x E.p below in let test_too = le-ltb y E.p above in rw (test, test_too) refl

pub key_third : (E : Domain) (x y : ℕ) → x < E.p → y < E.p → ((y * y) % E.p == (x * x * x + E.a * x + E.b) % E.p) ≡ is_key E x y
unfolding is_key
key_third E x y below below_too = let test = lt-ltb x E.p below in let test_too = lt-ltb y E.p below_too in rw (test, test_too) refl

pub key_below : (E : Domain) (x y : ℕ) → true ≡ is_key E x y → (x < E.p) × (y < E.p)
key_below E x y is =
    ⊎_elim
    (λ below. ⊎_elim
    (λ below_too. (below, below_too))
    (λ above. let no : false ≡ true = key_second E x y below above ∙ sym is in cc)
    (cases_lt y E.p))
    (λ above. let no : false ≡ true = key_first E x y above ∙ sym is in cc)
    (cases_lt x E.p)

pub affine_at : (m x y z : ℕ) → 1 < m → x < m → y < m → z ≡ 1 → IsAt m x y z x y
affine_at m x y z above below below_too one =
    let x_whole : x ≡ x * (z * z) = omega (arith, ap (λ k. x * (k * k)) one) in
    let y_whole : y ≡ y * (z * z * z) = omega (arith, ap (λ k. y * (k * k * k)) one) in
    let z_whole : z * 1 ≡ 1 = omega arith in
    record {
      x_below = below;
      y_below = below_too;
      unit = (1, ap (λ k. k % m) z_whole ∙ one_is m above);
      x_is = ap (λ k. k % m) x_whole;
      y_is = ap (λ k. k % m) y_whole;
    }

pub lacks_none : (m x : ℕ) → 1 < m → None ≡ inverse m x → NoInverse m x
lacks_none m x above is = ⊎_elim (λ g. let no : None ≡ Some g.w = is ∙ g.is in cc) (λ l. l.none) (inverse_tells m x above)

pub has_some : (m x i : ℕ) → 1 < m → Some i ≡ inverse m x → (x * i) % m ≡ 1
has_some m x i above is =
    ⊎_elim
    (λ g. let both : Some i ≡ Some g.w = is ∙ g.is in let same : i ≡ g.w = cc in ap (λ k. (x * k) % m) same ∙ g.one)
    (λ l. let no : Some i ≡ None = is ∙ l.is in cc)
    (inverse_tells m x above)

pub no_x : (E : Domain) (m X Y Z r : ℕ) (R : Option Point) → NoInverse m Z → AreFor m X Y Z R → false ≡ has_x E r R
no_x E m X Y Z r None lacks at = refl
no_x E m X Y Z r (Some Infinity) lacks at = refl
no_x E m X Y Z r (Some (Affine x y)) lacks at = absurd (lacks at.unit.0 at.unit.1)

pub x_of : (E : Domain) (w m X Y Z r i x' rest : ℕ) (same : Bool) (R : Option Point) → 1 < m → (Z * i) % m ≡ 1 → x' ≡ (X * (i * i)) % m →
    rest ≡ (x' + from_bool false * w) % E.n → (IsTrue same ↔ (rest ≡ r)) → AreFor m X Y Z R → same ≡ has_x E r R
x_of E w m X Y Z r i x' rest same None above one x_is rest_is is at = absurd (at i one)
x_of E w m X Y Z r i x' rest same (Some Infinity) above one x_is rest_is is at = absurd at
x_of E w m X Y Z r i x' rest same (Some (Affine x y)) above one x_is rest_is is at =
    let unit : Same m (Z * i) 1 = one ∙ sym (one_is m above) in
    let grouped : x * (Z * Z) * (i * i) ≡ x * (Z * i * (Z * i)) = omega arith in
    let alone : x * (1 * 1) ≡ x = omega arith in
    let back : x' ≡ x =
    x_is ∙ same_mul m X (x * (Z * Z)) (i * i) (i * i) at.x_is refl ∙ ap (λ k. k % m) grouped
    ∙ same_mul m x x (Z * i * (Z * i)) (1 * 1) refl (same_mul m (Z * i) 1 (Z * i) 1 unit unit) ∙ ap (λ k. k % m) alone ∙ mod-eq_of_lt at.x_below in
    let whole : x' + from_bool false * w ≡ x = omega arith in
    tested same rest r is ∙ ap (λ k. k == r) (rest_is ∙ ap (λ k. k % E.n) whole)

pub holds_by_reduced : (E : Domain) (w x y e e' r i : ℕ) → e' ≡ (e + from_bool false * w) % E.n → holds_by E x y e' r (Some i) ≡ holds_by E x y e r (Some i)
holds_by_reduced E w x y e e' r i is =
    let whole : e + from_bool false * w ≡ e = omega arith in
    let reduced : Same E.n e' e = ap (λ k. k % E.n) is ∙ mod-mod (e + from_bool false * w) E.n ∙ ap (λ k. k % E.n) whole in
    ap (λ k. has_x E r (sum_of E (multiple E E.digits k (Affine E.gx E.gy)) (multiple E E.digits ((r * i) % E.n) (Affine x y)))) (same_mul E.n e' e i i reduced refl)

and_assoc : (a b c : Bool) → ((a && b) && c) ≡ (a && (b && c))
and_assoc true b c = refl
and_assoc false b c = refl

pub holds_tests : (E : Domain) (x y e r s : ℕ) →
    ((nat_lt 0 r && nat_lt r E.n) && ((nat_lt 0 s && nat_lt s E.n) && (is_key E x y && holds_by E x y e r (inverse E.n s)))) ≡ holds E x y e r s
unfolding holds
holds_tests E x y e r s =
    let R = nat_lt 0 r && nat_lt r E.n in
    let S = nat_lt 0 s && nat_lt s E.n in
    let key = is_key E x y in
    let last = holds_by E x y e r (inverse E.n s) in
    sym (ap (λ b. (b && key) && last) (and_assoc R (nat_lt 0 s) (nat_lt s E.n)) ∙ and_assoc (R && S) key last ∙ and_assoc R S (key && last))
