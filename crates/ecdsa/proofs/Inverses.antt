-- What has an inverse modulo m.
use Rattle.std.proofs.Common.{◌≡◌, ℕ, suc, zero, ◌+◌, ◌*◌, ◌^◌, ◌%◌, ◌<◌, ◌⊎◌, inl, inr, Some, None, ⊎_elim, ap, sym, ◌∙◌, refl, arith}
use Rattle.std.proofs.Math.Nat.{mod-lt, mod-mod, mod-eq_of_lt, add-mod_right, pow-suc, pow-zero}
use Rattle.std.proofs.lemmas.Bool.{cases_lt}
use Rattle.std.proofs.lemmas.Bool.Decides.{eqb_tells}
use Rattle.ecdsa.specs.Inverse.{inverse_below, inverse}
use Rattle.ecdsa.proofs.Congruence.{Same, same_mul}
use Rattle.ecdsa.specs.Residues.{HasInverse, NoInverse}

pub record Found (m x bound : ℕ) : Type 0 where
  pub w : ℕ
  pub is : inverse_below m x bound ≡ Some w
  pub one : (x * w) % m ≡ 1

pub record Missed (m x bound : ℕ) : Type 0 where
  pub is : inverse_below m x bound ≡ None
  pub none : (w : ℕ) → w < bound → (x * w) % m ≡ 1 → ⊥

pub searched : (m x bound : ℕ) → Found m x bound ⊎ Missed m x bound
unfolding inverse_below
searched m x zero = inr (record { is = refl; none = λ w less one. absurd (omega arith) })
searched m x (suc bound) =
    ⊎_elim
    (λ hit. inl (record { w = bound; is = rw (hit.0); one = hit.1 }))
    (λ miss. ⊎_elim
    (λ f. inl (record { w = f.w; is = rw (miss.0) (f.is); one = f.one }))
    (λ n. inr (record {
      is = rw (miss.0) (n.is);
      none = λ w less one. ⊎_elim (λ below. n.none w below one) (λ above. let same : w ≡ bound = omega arith in miss.1 (ap (λ k. (x * k) % m) (sym same) ∙ one)) (cases_lt w bound);
    }))
    (searched m x bound))
    (eqb_tells ((x * bound) % m) 1)

-- the definition's inverse is one, or there is none
pub record Given (m x : ℕ) : Type 0 where
  pub w : ℕ
  pub is : inverse m x ≡ Some w
  pub one : (x * w) % m ≡ 1

pub record Lacking (m x : ℕ) : Type 0 where
  pub is : inverse m x ≡ None
  pub none : NoInverse m x

pub inverse_tells : (m x : ℕ) → 1 < m → Given m x ⊎ Lacking m x
unfolding inverse
inverse_tells m x some =
    ⊎_elim
    (λ f. inl (record { w = f.w; is = f.is; one = f.one }))
    (λ n. inr (record {
      is = n.is;
      none = λ i one. n.none (i % m) (mod-lt i (omega arith)) (same_mul m x x (i % m) i refl (mod-mod i m) ∙ one);
    }))
    (searched m x m)

module _ (m : ℕ) (some : 1 < m) where
  pub one_is : 1 % m ≡ 1
  one_is = mod-eq_of_lt some

  pub unit_same : (a b : ℕ) → Same m a b → HasInverse m a → HasInverse m b
  unit_same a b same h = (h.0, same_mul m b a h.0 h.0 (sym same) refl ∙ h.1)

  pub unit_times : (a b : ℕ) → HasInverse m a → HasInverse m b → HasInverse m (a * b)
  unit_times a b h g =
      let grouped : a * b * (h.0 * g.0) ≡ a * h.0 * (b * g.0) = omega arith in
      (h.0 * g.0, ap (λ k. k % m) grouped ∙ same_mul m (a * h.0) 1 (b * g.0) 1 (h.1 ∙ sym one_is) (g.1 ∙ sym one_is) ∙ one_is)

  pub unit_left : (a b : ℕ) → HasInverse m (a * b) → HasInverse m a
  unit_left a b h = (b * h.0, ap (λ k. k % m) (omega arith) ∙ h.1)

  pub unit_right : (a b : ℕ) → HasInverse m (a * b) → HasInverse m b
  unit_right a b h = (a * h.0, ap (λ k. k % m) (omega arith) ∙ h.1)

  pub zero_lacks : (z : ℕ) → Same m z 0 → NoInverse m z
  zero_lacks z nil i one =
      let nothing : 0 * i ≡ 0 = omega arith in
      let none : 0 % m ≡ 0 = mod-eq_of_lt (omega arith) in
      let no : ◌≡◌ {A = ℕ} 0 1 = sym none ∙ ap (λ k. k % m) (sym nothing) ∙ sym (same_mul m z 0 i i nil refl) ∙ one in
      omega arith

  pub cancel_unit : (a b u : ℕ) → HasInverse m u → Same m (a * u) (b * u) → Same m a b
  cancel_unit a b u h e =
      let left : a * 1 ≡ a = omega arith in
      let right : b * 1 ≡ b = omega arith in
      let grouped : a * u * h.0 ≡ a * (u * h.0) = omega arith in
      let grouped_too : b * u * h.0 ≡ b * (u * h.0) = omega arith in
      let unit : Same m (u * h.0) 1 = h.1 ∙ sym one_is in
      ap (λ k. k % m) (sym left) ∙ sym (same_mul m a a (u * h.0) 1 refl unit) ∙ ap (λ k. k % m) (sym grouped)
      ∙ same_mul m (a * u) (b * u) h.0 h.0 e refl
      ∙ ap (λ k. k % m) grouped_too ∙ same_mul m b b (u * h.0) 1 refl unit ∙ ap (λ k. k % m) right

  pub cancel_unit_zero : (a u : ℕ) → HasInverse m u → Same m (a * u) 0 → Same m a 0
  cancel_unit_zero a u h e =
      let nothing : 0 ≡ 0 * u = omega arith in
      cancel_unit a 0 u h (e ∙ ap (λ k. k % m) nothing)

  -- 2 has an inverse modulo an odd number, so its powers have
  pub power_of_two : (half k : ℕ) → 2 * half ≡ m + 1 → HasInverse m (2 ^ k)
  power_of_two half zero odd =
      let whole : 2 ^ 0 * 1 ≡ 1 = omega (arith, pow-zero 2) in
      (1, ap (λ j. j % m) whole ∙ one_is)
  power_of_two half (suc k) odd =
      let turned : m + 1 ≡ 1 + m = omega arith in
      let two : HasInverse m 2 = (half, ap (λ j. j % m) odd ∙ ap (λ j. j % m) turned ∙ add-mod_right 1 m ∙ one_is) in
      unit_same (2 ^ k * 2) (2 ^ suc k) (ap (λ j. j % m) (sym (pow-suc 2 k))) (unit_times (2 ^ k) 2 (power_of_two half k odd) two)

  pub unit_power : (a k : ℕ) → HasInverse m a → HasInverse m (a ^ k)
  unit_power a zero h =
      let whole : a ^ 0 * 1 ≡ 1 = omega (arith, pow-zero a) in
      (1, ap (λ j. j % m) whole ∙ one_is)
  unit_power a (suc k) h = unit_same (a ^ k * a) (a ^ suc k) (ap (λ j. j % m) (sym (pow-suc a k))) (unit_times (a ^ k) a (unit_power a k h) h)
