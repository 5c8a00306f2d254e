-- Multiples by the scalar's hexadecimal digits, a digit's multiple by its bits, and windows.
use Rattle.std.proofs.Common.{◌≡◌, ◌≢◌, ℕ, zero, suc, ◌+◌, ◌-◌, ◌*◌, ◌/◌, ◌%◌, ◌^◌, ◌<◌, ◌==◌, List, [], ◌∷◌, ◌++◌, length, get_or, Option, Some, None, ⊎_elim, ap, sym, ◌∙◌, refl, arith}
use Rattle.std.specs.Prelude.{if◌then◌else◌}
use Rattle.std.proofs.lemmas.Bool.{cases_lt}
use Rattle.std.proofs.lemmas.List.{get_or_append_left, get_or_push, length-append}
use Rattle.numbers.specs.Digits.{highest}
use Rattle.numbers.proofs.Digits.{below_16}
use Rattle.jwt_ed25519.specs.declared.point.EdwardsPoint.{EdwardsPoint}
use Rattle.jwt_ed25519.specs.Elements.{summed}
use Rattle.jwt_ed25519.specs.Points.{Coordinates, double, sum_of, doubled, digit_multiple, multiple_by}
use Rattle.jwt_ed25519.specs.Windows.{AreWindows}

pub digit_none : (times d : ℕ) (P : Coordinates) → None ≡ digit_multiple times 0 d P
unfolding digit_multiple
digit_none times d P = refl

bit_more : (times i d : ℕ) (P : Coordinates) →
    (if (d / 2 ^ i) % 2 == 1 then sum_of (digit_multiple times i d P) (Some (doubled (times + i) P)) else digit_multiple times i d P) ≡ digit_multiple times (suc i) d P
unfolding digit_multiple
bit_more times i d P = refl

-- one more bit of a digit
pub digit_more : (times i d rest : ℕ) (P : Coordinates) → rest ≡ d / 2 ^ i →
    (if rest % 2 == 1 then sum_of (digit_multiple times i d P) (Some (doubled (times + i) P)) else digit_multiple times i d P) ≡ digit_multiple times (i + 1) d P
digit_more times i d rest P is =
    let next : suc i ≡ i + 1 = omega arith in
    ap (λ k. if k % 2 == 1 then sum_of (digit_multiple times i d P) (Some (doubled (times + i) P)) else digit_multiple times i d P) is
    ∙ bit_more times i d P ∙ ap (λ n. digit_multiple times n d P) next

pub twice : (times : ℕ) (P : Coordinates) → double (doubled times P) ≡ doubled (suc times) P
unfolding doubled
twice times P = refl

pub doubled_none : (P : Coordinates) → P ≡ doubled 0 P
unfolding doubled
doubled_none P = refl

pub doubled_more : (times i : ℕ) (P : Coordinates) → double (doubled (times + i) P) ≡ doubled (times + (i + 1)) P
doubled_more times i P =
    let next : suc (times + i) ≡ times + (i + 1) = omega arith in
    twice (times + i) P ∙ ap (λ n. doubled n P) next

pub multiple_none : (u : ℕ) (P : Coordinates) → None ≡ multiple_by 0 u P
unfolding multiple_by
multiple_none u P = refl

one_more : (i u : ℕ) (P : Coordinates) → sum_of (multiple_by i u P) (digit_multiple (4 * i) 4 ((u / 16 ^ i) % 16) P) ≡ multiple_by (suc i) u P
unfolding multiple_by
one_more i u P = refl

-- one more digit of a scalar
pub multiple_more : (i u rest less d : ℕ) (P : Coordinates) → rest ≡ u / 16 ^ i → rest ≡ 16 * less + d → d < 16 →
    sum_of (multiple_by i u P) (digit_multiple (4 * i) 4 d P) ≡ multiple_by (i + 1) u P
multiple_more i u rest less d P is split below =
    let low : rest % 16 ≡ d = omega arith in
    let here : d ≡ (u / 16 ^ i) % 16 = sym low ∙ ap (λ k. k % 16) is in
    let next : suc i ≡ i + 1 = omega arith in
    ap (λ k. sum_of (multiple_by i u P) (digit_multiple (4 * i) 4 k P)) here ∙ one_more i u P ∙ ap (λ n. multiple_by n u P) next

-- a digit's multiple, by its highest bit and the others
pub by_highest : (times : ℕ) (P : Coordinates) (d : ℕ) → d < 16 → d ≢ 0 →
    sum_of (digit_multiple times 4 (d - 2 ^ highest d) P) (Some (doubled (times + highest d) P)) ≡ digit_multiple times 4 d P
unfolding digit_multiple
by_highest times P =
    below_16
    (λ d. d ≢ 0 → sum_of (digit_multiple times 4 (d - 2 ^ highest d) P) (Some (doubled (times + highest d) P)) ≡ digit_multiple times 4 d P)
    (λ some. absurd (some refl))
    (λ some. refl)
    (λ some. refl)
    (λ some. refl)
    (λ some. refl)
    (λ some. refl)
    (λ some. refl)
    (λ some. refl)
    (λ some. refl)
    (λ some. refl)
    (λ some. refl)
    (λ some. refl)
    (λ some. refl)
    (λ some. refl)
    (λ some. refl)
    (λ some. refl)

pub no_digit : (times d : ℕ) (P : Coordinates) → d ≡ 0 → None ≡ digit_multiple times 4 d P
unfolding digit_multiple
no_digit times d P none = sym (ap (λ k. digit_multiple times 4 k P) none)

pub placed : (i d : ℕ) (P : Coordinates) → d < 16 → digit_multiple (4 * ((16 * i + d) / 16)) 4 ((16 * i + d) % 16) P ≡ digit_multiple (4 * i) 4 d P
placed i d P below =
    let rest : (16 * i + d) % 16 ≡ d = omega (arith, below) in
    let whole : (16 * i + d) / 16 ≡ i = omega (arith, below) in
    ap (λ a. digit_multiple (4 * a) 4 ((16 * i + d) % 16) P) whole ∙ ap (λ b. digit_multiple (4 * i) 4 b P) rest

-- what stands at a place doesn't depend on what is given for none
pub at_place : (xs : List (Option EdwardsPoint)) (i : ℕ) (d : Option EdwardsPoint) → i < length xs → get_or xs i d ≡ get_or xs i None
at_place [] i d within = absurd (omega arith)
at_place (x ∷ xs) zero d within = refl
at_place (x ∷ xs) (suc i) d within = at_place xs i d (omega arith)

pub one_longer : (xs xs' : List (Option EdwardsPoint)) (x : Option EdwardsPoint) (n : ℕ) → length xs ≡ n → xs' ≡ xs ++ x ∷ [] → length xs' ≡ n + 1
one_longer xs xs' x n long is = ap length is ∙ (simp length-append (omega (arith, long)))

-- one more window
pub windows_more : (n : ℕ) (P : Coordinates) (xs xs' : List (Option EdwardsPoint)) (x : Option EdwardsPoint) → length xs ≡ n → xs' ≡ xs ++ x ∷ [] →
    AreWindows n P xs → summed x ≡ digit_multiple (4 * (n / 16)) 4 (n % 16) P → AreWindows (n + 1) P xs'
windows_more n P xs xs' x long is each last k below =
    ⊎_elim
    (λ before. ap (λ l. summed (get_or l k None)) is ∙ ap summed (get_or_append_left xs (x ∷ []) None k (omega (arith, before, long))) ∙ each k before)
    (λ after.
    let here : n ≡ k = omega (arith, after, below) in
    ap (λ l. summed (get_or l k None)) is ∙ ap summed (get_or_push xs x None k (long ∙ here)) ∙ last ∙ ap (λ j. digit_multiple (4 * (j / 16)) 4 (j % 16) P) here)
    (cases_lt k n)
