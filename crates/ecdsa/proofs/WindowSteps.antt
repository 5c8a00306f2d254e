-- Windows: the digits' highest bits, the steps of the table, a point with z = 1, and the sum over digits.
use Rattle.std.proofs.Common.{◌≡◌, ◌≢◌, ℕ, ◌+◌, ◌-◌, ◌*◌, ◌/◌, ◌%◌, ◌^◌, ◌<◌, List, [], ◌∷◌, ◌++◌, length, get_or, reverse, Option, Some, None, ⊎_elim, ap, sym, subst, ◌∙◌, refl, arith}
use Rattle.std.proofs.Math.Path.{ap₂}
use Rattle.std.proofs.lemmas.Bool.{cases_lt}
use Rattle.std.proofs.lemmas.List.{get_or_append_left, get_or_push, length-append, get_or-reverse, length-reverse}
use Rattle.ecdsa.specs.declared.field.Field.{Field}
use Rattle.ecdsa.specs.Curve.{Domain, Point, Point.Infinity, Point.Affine, sum_of, doubled, digit_multiple}
use Rattle.numbers.specs.Digits.{highest}
use Rattle.numbers.specs.Limbs.{number}
use Rattle.numbers.proofs.Digits.{below_16}
use Rattle.ecdsa.specs.Field.{size, value, Below, formed}
use Rattle.ecdsa.specs.Stands.{AreFor}
use Rattle.ecdsa.specs.Windows.{AreBelow, AreWindows, AreRows, AreRough}
use Rattle.ecdsa.proofs.Congruence.{Same, same_mul}
use Rattle.ecdsa.proofs.Inverses.{one_is}
use Rattle.ecdsa.proofs.Rules.{infinity_left, infinity_right, scaled_at}

-- a digit's multiple, by its highest bit and the others
pub by_highest : (E : Domain) (times : ℕ) (P : Point) (d : ℕ) → d < 16 → d ≢ 0 →
    sum_of E (digit_multiple E times 4 (d - 2 ^ highest d) P) (doubled E (times + highest d) P) ≡ digit_multiple E times 4 d P
unfolding digit_multiple
by_highest E times P =
    below_16
    (λ d. d ≢ 0 → sum_of E (digit_multiple E times 4 (d - 2 ^ highest d) P) (doubled E (times + highest d) P) ≡ digit_multiple E times 4 d P)
    (λ some. absurd (some refl))
    (λ some. refl)
    (λ some. refl)
    (λ some. refl)
    (λ some. refl)
    (λ some. refl)
    (λ some. refl)
    (λ some. refl)
    (λ some. refl)
    (λ some. refl)
    (λ some. refl)
    (λ some. refl)
    (λ some. refl)
    (λ some. refl)
    (λ some. refl)
    (λ some. refl)

none_at : (E : Domain) (times d : ℕ) (P : Point) → d ≡ 0 → Some Infinity ≡ digit_multiple E times 4 d P
unfolding digit_multiple
none_at E times d P none = sym (ap (λ k. digit_multiple E times 4 k P) none)

-- a digit of one bit
pub by_power : (E : Domain) (times : ℕ) (P : Point) (d : ℕ) → d < 16 → d ≢ 0 → d ≡ 2 ^ highest d → doubled E (times + highest d) P ≡ digit_multiple E times 4 d P
by_power E times P d below some power =
    let none : d - 2 ^ highest d ≡ 0 = omega (arith, power) in
    sym (infinity_left E (doubled E (times + highest d) P))
    ∙ ap (λ o. sum_of E o (doubled E (times + highest d) P)) (none_at E times (d - 2 ^ highest d) P none)
    ∙ by_highest E times P d below some

-- the same point with z = 1
pub settled_at : (m : ℕ) (above : 1 < m) (X Y Z W U S o : ℕ) (R : Option Point) → (Z * W) % m ≡ 1 → Same m U (X * (W * W)) → Same m S (Y * (W * W * W)) → o ≡ 1 →
    AreFor m X Y Z R → AreFor m U S o R
settled_at m above X Y Z W U S o None unit u s one at = absurd (at W unit)
settled_at m above X Y Z W U S o (Some Infinity) unit u s one at = at
settled_at m above X Y Z W U S o (Some (Affine x y)) unit u s one at =
    let turned : W * Z ≡ Z * W = omega arith in
    scaled_at m above X Y Z W U S o x y (Z, ap (λ k. k % m) turned ∙ unit) u s (ap (λ k. k % m) one ∙ one_is m above ∙ sym unit) at

-- the sum over digits
pub no_digit : (E : Domain) (times d : ℕ) (R : Option Point) (P : Point) → d ≡ 0 → R ≡ sum_of E R (digit_multiple E times 4 d P)
no_digit E times d R P none = sym (ap (sum_of E R) (sym (none_at E times d P none)) ∙ infinity_right E R)

pub placed : (E : Domain) (i d : ℕ) (P : Point) → d < 16 → digit_multiple E (4 * ((16 * i + d) / 16)) 4 ((16 * i + d) % 16) P ≡ digit_multiple E (4 * i) 4 d P
placed E i d P below =
    let rest : (16 * i + d) % 16 ≡ d = omega (arith, below) in
    let whole : (16 * i + d) / 16 ≡ i = omega (arith, below) in
    ap₂ (λ a b. digit_multiple E (4 * a) 4 b P) whole rest

-- the table as it is made
pub known : {N KIND : ℕ} (f : Field N KIND) (a : List ℕ) → number a < size f → Below f a
unfolding Below
known f a below = below

pub told : {N KIND : ℕ} (f : Field N KIND) (a : List ℕ) → Below f a → number a < size f
unfolding Below
told f a below = below

pub as_value : {N KIND : ℕ} (f : Field N KIND) (a : List ℕ) → value f a ≡ formed N (size f) a
unfolding value
as_value f a = refl

pub pushed : (Q : ℕ → List ℕ → List ℕ → List ℕ → Type 0) (xs ys zs xs' ys' zs' : List (List ℕ)) (x y z : List ℕ) (n : ℕ) → length xs ≡ n → length ys ≡ n → length zs ≡ n →
    xs' ≡ xs ++ x ∷ [] → ys' ≡ ys ++ y ∷ [] → zs' ≡ zs ++ z ∷ [] →
    ((k : ℕ) → k < n → Q k (get_or xs k []) (get_or ys k []) (get_or zs k [])) → Q n x y z →
    (k : ℕ) → k < n + 1 → Q k (get_or xs' k []) (get_or ys' k []) (get_or zs' k [])
pushed Q xs ys zs xs' ys' zs' x y z n x_long y_long z_long x_is y_is z_is each last k below =
    ⊎_elim
    (λ before.
    subst (λ a. Q k a (get_or ys' k []) (get_or zs' k [])) (sym (ap (λ l. get_or l k []) x_is ∙ get_or_append_left xs (x ∷ []) [] k (omega arith)))
    (subst (λ a. Q k (get_or xs k []) a (get_or zs' k [])) (sym (ap (λ l. get_or l k []) y_is ∙ get_or_append_left ys (y ∷ []) [] k (omega arith)))
    (subst (λ a. Q k (get_or xs k []) (get_or ys k []) a) (sym (ap (λ l. get_or l k []) z_is ∙ get_or_append_left zs (z ∷ []) [] k (omega arith))) (each k before))))
    (λ after.
    let here : n ≡ k = omega arith in
    subst (λ a. Q k a (get_or ys' k []) (get_or zs' k [])) (sym (ap (λ l. get_or l k []) x_is ∙ get_or_push xs x [] k (x_long ∙ here)))
    (subst (λ a. Q k x a (get_or zs' k [])) (sym (ap (λ l. get_or l k []) y_is ∙ get_or_push ys y [] k (y_long ∙ here)))
    (subst (λ a. Q k x y a) (sym (ap (λ l. get_or l k []) z_is ∙ get_or_push zs z [] k (z_long ∙ here))) (subst (λ j. Q j x y z) here last))))
    (cases_lt k n)

pub product_more : {N KIND : ℕ} (f : Field N KIND) (zs ps zs' ps' : List (List ℕ)) (z p before : List ℕ) (n : ℕ) → length zs ≡ n → length ps ≡ n + 1 →
    zs' ≡ zs ++ z ∷ [] → ps' ≡ ps ++ p ∷ [] → get_or ps n [] ≡ before → Same (size f) (value f p) (value f before * value f z) →
    ((k : ℕ) → k < n → Same (size f) (value f (get_or ps (k + 1) [])) (value f (get_or ps k []) * value f (get_or zs k []))) →
    (k : ℕ) → k < n + 1 → Same (size f) (value f (get_or ps' (k + 1) [])) (value f (get_or ps' k []) * value f (get_or zs' k []))
product_more f zs ps zs' ps' z p before n z_long p_long z_is p_is before_is product each k below =
    let m = size f in
    ⊎_elim
    (λ less.
    let next : get_or ps' (k + 1) [] ≡ get_or ps (k + 1) [] = ap (λ l. get_or l (k + 1) []) p_is ∙ get_or_append_left ps (p ∷ []) [] (k + 1) (omega arith) in
    let here : get_or ps' k [] ≡ get_or ps k [] = ap (λ l. get_or l k []) p_is ∙ get_or_append_left ps (p ∷ []) [] k (omega arith) in
    let between : get_or zs' k [] ≡ get_or zs k [] = ap (λ l. get_or l k []) z_is ∙ get_or_append_left zs (z ∷ []) [] k (omega arith) in
    ap (λ a. value f a % m) next ∙ each k less ∙ sym (ap₂ (λ a b. (value f a * value f b) % m) here between))
    (λ after.
    let same : n ≡ k = omega arith in
    let up : n + 1 ≡ k + 1 = omega arith in
    let next : get_or ps' (k + 1) [] ≡ p = ap (λ l. get_or l (k + 1) []) p_is ∙ get_or_push ps p [] (k + 1) (p_long ∙ up) in
    let here : get_or ps' k [] ≡ before = ap (λ l. get_or l k []) p_is ∙ get_or_append_left ps (p ∷ []) [] k (omega arith) ∙ ap (λ j. get_or ps j []) (sym same) ∙ before_is in
    let between : get_or zs' k [] ≡ z = ap (λ l. get_or l k []) z_is ∙ get_or_push zs z [] k (z_long ∙ same) in
    ap (λ a. value f a % m) next ∙ product ∙ sym (ap₂ (λ a b. (value f a * value f b) % m) here between))
    (cases_lt k n)

longer : (xs : List (List ℕ)) (x : List ℕ) (n : ℕ) → length xs ≡ n → length (xs ++ x ∷ []) ≡ n + 1
longer xs x n long = simp length-append (omega (arith, long))

pub one_longer : (xs xs' : List (List ℕ)) (x : List ℕ) (n : ℕ) → length xs ≡ n → xs' ≡ xs ++ x ∷ [] → length xs' ≡ n + 1
one_longer xs xs' x n long is = ap length is ∙ longer xs x n long

pub rows_more : {N KIND : ℕ} (f : Field N KIND) (n : ℕ) (xs ys zs xs' ys' zs' : List (List ℕ)) (x y z : List ℕ) → AreRows f n xs ys zs →
    xs' ≡ xs ++ x ∷ [] → ys' ≡ ys ++ y ∷ [] → zs' ≡ zs ++ z ∷ [] → Below f x → Below f y → Below f z → AreRows f (n + 1) xs' ys' zs'
rows_more f n xs ys zs xs' ys' zs' x y z so_far x_is y_is z_is x_below y_below z_below = record {
  xs_long = one_longer xs xs' x n so_far.xs_long x_is;
  ys_long = one_longer ys ys' y n so_far.ys_long y_is;
  zs_long = one_longer zs zs' z n so_far.zs_long z_is;
  x = pushed (λ j a b c. Below f a) xs xs xs xs' xs' xs' x x x n so_far.xs_long so_far.xs_long so_far.xs_long x_is x_is x_is so_far.x x_below;
  y = pushed (λ j a b c. Below f a) ys ys ys ys' ys' ys' y y y n so_far.ys_long so_far.ys_long so_far.ys_long y_is y_is y_is so_far.y y_below;
  z = pushed (λ j a b c. Below f a) zs zs zs zs' zs' zs' z z z n so_far.zs_long so_far.zs_long so_far.zs_long z_is z_is z_is so_far.z z_below;
}

pub no_rows : {N KIND : ℕ} (f : Field N KIND) (xs ys zs : List (List ℕ)) → length xs ≡ 0 → length ys ≡ 0 → length zs ≡ 0 → AreRows f 0 xs ys zs
no_rows f xs ys zs x_long y_long z_long = record {
  xs_long = x_long;
  ys_long = y_long;
  zs_long = z_long;
  x = λ k below. absurd (omega arith);
  y = λ k below. absurd (omega arith);
  z = λ k below. absurd (omega arith);
}

pub rough_slices : {N KIND : ℕ} (f : Field N KIND) (E : Domain) (P : Point) (n : ℕ) (xs ys zs xs' ys' zs' : List (List ℕ)) → xs' ≡ xs → ys' ≡ ys → zs' ≡ zs →
    AreRough f E P n xs ys zs → AreRough f E P n xs' ys' zs'
rough_slices f E P n xs ys zs xs' ys' zs' x_is y_is z_is rough =
    subst (λ a. AreRough f E P n a ys' zs') (sym x_is) (subst (λ b. AreRough f E P n xs b zs') (sym y_is) (subst (λ z. AreRough f E P n xs ys z) (sym z_is) rough))

-- the inverse of a product, taken apart
pub parted : (m V B Z I i J : ℕ) → (V * I) % m ≡ 1 → Same m V (B * Z) → Same m i (I * B) → Same m J (I * Z) → ((Z * i) % m ≡ 1) × ((B * J) % m ≡ 1)
parted m V B Z I i J one link i_is j_is =
    let left : Z * (I * B) ≡ B * Z * I = omega arith in
    let right : B * (I * Z) ≡ B * Z * I = omega arith in
    let whole : Same m (B * Z * I) (V * I) = same_mul m (B * Z) V I I (sym link) refl in
    (same_mul m Z Z i (I * B) refl i_is ∙ ap (λ k. k % m) left ∙ whole ∙ one, same_mul m B B J (I * Z) refl j_is ∙ ap (λ k. k % m) right ∙ whole ∙ one)

-- the windows in their order
pub turned_windows : (limbs : ℕ) (E : Domain) (P : Point) (xs ys : List (List ℕ)) (n : ℕ) → n ≡ 16 * E.digits → length xs ≡ n → length ys ≡ n →
    ((k : ℕ) → k < n → (n - 1 - k) % 16 ≢ 0 → AreFor E.p (formed limbs E.p (get_or xs k [])) (formed limbs E.p (get_or ys k [])) 1 (digit_multiple E (4 * ((n - 1 - k) / 16)) 4 ((n - 1 - k) % 16) P)) →
    AreWindows limbs E P (reverse xs) (reverse ys)
turned_windows limbs E P xs ys n all x_long y_long each k below some =
    let within : k < n = omega (arith, below, all) in
    let back : n - 1 - (n - 1 - k) ≡ k = omega (arith, within) in
    let R = digit_multiple E (4 * (k / 16)) 4 (k % 16) P in
    subst (λ a. AreFor E.p (formed limbs E.p a) (formed limbs E.p (get_or (reverse ys) k [])) 1 R) (sym (get_or-reverse xs k [] (omega (arith, within, x_long)) ∙ ap (λ j. get_or xs (j - 1 - k) []) x_long))
    (subst (λ b. AreFor E.p (formed limbs E.p (get_or xs (n - 1 - k) [])) (formed limbs E.p b) 1 R) (sym (get_or-reverse ys k [] (omega (arith, within, y_long)) ∙ ap (λ j. get_or ys (j - 1 - k) []) y_long))
    (subst (λ j. AreFor E.p (formed limbs E.p (get_or xs (n - 1 - k) [])) (formed limbs E.p (get_or ys (n - 1 - k) [])) 1 (digit_multiple E (4 * (j / 16)) 4 (j % 16) P)) back
    (each (n - 1 - k) (omega (arith, within)) (λ none. some (ap (λ j. j % 16) (sym back) ∙ none)))))

pub turned_below : (E : Domain) (xs ys : List (List ℕ)) (n : ℕ) → n ≡ 16 * E.digits → length xs ≡ n → length ys ≡ n →
    ((k : ℕ) → k < n → number (get_or xs k []) < E.p) → ((k : ℕ) → k < n → number (get_or ys k []) < E.p) → AreBelow E (reverse xs) (reverse ys)
turned_below E xs ys n all x_long y_long each each_too = record {
  xs_long = length-reverse xs ∙ x_long ∙ all;
  ys_long = length-reverse ys ∙ y_long ∙ all;
  x = λ k below.
      let within : k < n = omega (arith, below, all) in
      subst (λ a. number a < E.p) (sym (get_or-reverse xs k [] (omega (arith, within, x_long)) ∙ ap (λ j. get_or xs (j - 1 - k) []) x_long)) (each (n - 1 - k) (omega (arith, within)));
  y = λ k below.
      let within : k < n = omega (arith, below, all) in
      subst (λ a. number a < E.p) (sym (get_or-reverse ys k [] (omega (arith, within, y_long)) ∙ ap (λ j. get_or ys (j - 1 - k) []) y_long)) (each_too (n - 1 - k) (omega (arith, within)));
}
