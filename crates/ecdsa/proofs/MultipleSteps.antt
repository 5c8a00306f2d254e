-- Multiples by the scalar's hexadecimal digits, and a digit's multiple by its bits.
use Rattle.std.proofs.Common.{◌≡◌, ℕ, suc, ◌+◌, ◌*◌, ◌/◌, ◌%◌, ◌^◌, ◌<◌, ◌==◌, Some, ap, sym, ◌∙◌, refl, arith}
use Rattle.std.specs.Prelude.{if◌then◌else◌}
use Rattle.std.proofs.Math.Path.{ap₂}
use Rattle.numbers.proofs.Digits.{all_bits}
use Rattle.ecdsa.proofs.Rules.{infinity_left}
use Rattle.ecdsa.specs.Curve.{Domain, Point, Point.Infinity, sum_of, doubled, digit_multiple, multiple}

pub digit_none : (E : Domain) (times d : ℕ) (P : Point) → Some Infinity ≡ digit_multiple E times 0 d P
unfolding digit_multiple
digit_none E times d P = refl

bit_more : (E : Domain) (times i d : ℕ) (P : Point) →
    (if (d / 2 ^ i) % 2 == 1 then sum_of E (digit_multiple E times i d P) (doubled E (times + i) P) else digit_multiple E times i d P) ≡ digit_multiple E times (suc i) d P
unfolding digit_multiple
bit_more E times i d P = refl

-- one more bit of a digit
pub digit_more : (E : Domain) (times i d rest : ℕ) (P : Point) → rest ≡ d / 2 ^ i →
    (if rest % 2 == 1 then sum_of E (digit_multiple E times i d P) (doubled E (times + i) P) else digit_multiple E times i d P) ≡ digit_multiple E times (i + 1) d P
digit_more E times i d rest P is =
    let next : suc i ≡ i + 1 = omega arith in
    ap (λ k. if k % 2 == 1 then sum_of E (digit_multiple E times i d P) (doubled E (times + i) P) else digit_multiple E times i d P) is
    ∙ bit_more E times i d P ∙ ap (λ n. digit_multiple E times n d P) next

-- the two lowest bits of a digit
two_bits : (E : Domain) (times d : ℕ) (P : Point) →
    (if (d / 2) % 2 == 1 then sum_of E (if d % 2 == 1 then sum_of E (Some Infinity) (doubled E (times + 0) P) else Some Infinity) (doubled E (times + 1) P)
    else (if d % 2 == 1 then sum_of E (Some Infinity) (doubled E (times + 0) P) else Some Infinity)) ≡ digit_multiple E times 2 d P
unfolding digit_multiple
two_bits E times d P = let whole : d / 2 ^ 0 ≡ d = sym (all_bits d) in rw whole refl

pub neither_or_second : (E : Domain) (times d : ℕ) (P : Point) → d % 2 ≡ 0 →
    (if (d / 2) % 2 == 1 then sum_of E (Some Infinity) (doubled E (times + 1) P) else Some Infinity) ≡ digit_multiple E times 2 d P
neither_or_second E times d P even =
    ap (λ k. if (d / 2) % 2 == 1 then sum_of E (if k == 1 then sum_of E (Some Infinity) (doubled E (times + 0) P) else Some Infinity) (doubled E (times + 1) P)
    else (if k == 1 then sum_of E (Some Infinity) (doubled E (times + 0) P) else Some Infinity)) (sym even)
    ∙ two_bits E times d P

pub first_of_two : (E : Domain) (times d : ℕ) (P : Point) → d % 2 ≡ 1 → (d / 2) % 2 ≡ 0 → doubled E times P ≡ digit_multiple E times 2 d P
first_of_two E times d P odd none =
    let same : times ≡ times + 0 = omega arith in
    ap (λ n. doubled E n P) same ∙ sym (infinity_left E (doubled E (times + 0) P))
    ∙ ap₂ (λ j k. if j == 1 then sum_of E (if k == 1 then sum_of E (Some Infinity) (doubled E (times + 0) P) else Some Infinity) (doubled E (times + 1) P)
    else (if k == 1 then sum_of E (Some Infinity) (doubled E (times + 0) P) else Some Infinity)) (sym none) (sym odd)
    ∙ two_bits E times d P

pub both_of_two : (E : Domain) (times d : ℕ) (P : Point) → d % 2 ≡ 1 → (d / 2) % 2 ≡ 1 → sum_of E (doubled E times P) (doubled E (times + 1) P) ≡ digit_multiple E times 2 d P
both_of_two E times d P odd odd_too =
    let same : times ≡ times + 0 = omega arith in
    ap (λ R. sum_of E R (doubled E (times + 1) P)) (ap (λ n. doubled E n P) same ∙ sym (infinity_left E (doubled E (times + 0) P)))
    ∙ ap₂ (λ j k. if j == 1 then sum_of E (if k == 1 then sum_of E (Some Infinity) (doubled E (times + 0) P) else Some Infinity) (doubled E (times + 1) P)
    else (if k == 1 then sum_of E (Some Infinity) (doubled E (times + 0) P) else Some Infinity)) (sym odd_too) (sym odd)
    ∙ two_bits E times d P

pub twice : (E : Domain) (times : ℕ) (P : Point) → sum_of E (doubled E times P) (doubled E times P) ≡ doubled E (suc times) P
unfolding doubled
twice E times P = refl

pub doubled_none : (E : Domain) (P : Point) → Some P ≡ doubled E 0 P
unfolding doubled
doubled_none E P = refl

pub doubled_more : (E : Domain) (times i : ℕ) (P : Point) → sum_of E (doubled E (times + i) P) (doubled E (times + i) P) ≡ doubled E (times + (i + 1)) P
doubled_more E times i P =
    let next : suc (times + i) ≡ times + (i + 1) = omega arith in
    twice E (times + i) P ∙ ap (λ n. doubled E n P) next

pub multiple_none : (E : Domain) (u : ℕ) (P : Point) → Some Infinity ≡ multiple E 0 u P
unfolding multiple
multiple_none E u P = refl

one_more : (E : Domain) (i u : ℕ) (P : Point) → sum_of E (multiple E i u P) (digit_multiple E (4 * i) 4 ((u / 16 ^ i) % 16) P) ≡ multiple E (suc i) u P
unfolding multiple
one_more E i u P = refl

-- one more digit of a scalar
pub multiple_more : (E : Domain) (i u rest less d : ℕ) (P : Point) → rest ≡ u / 16 ^ i → rest ≡ 16 * less + d → d < 16 →
    sum_of E (multiple E i u P) (digit_multiple E (4 * i) 4 d P) ≡ multiple E (i + 1) u P
multiple_more E i u rest less d P is split below =
    let low : rest % 16 ≡ d = omega arith in
    let here : d ≡ (u / 16 ^ i) % 16 = sym low ∙ ap (λ k. k % 16) is in
    let next : suc i ≡ i + 1 = omega arith in
    ap (λ k. sum_of E (multiple E i u P) (digit_multiple E (4 * i) 4 k P)) here ∙ one_more E i u P ∙ ap (λ n. multiple E n u P) next
