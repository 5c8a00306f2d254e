-- Numbers of RSA keys.
use Rattle.std.proofs.Common.{◌≡◌, ℕ, ◌+◌, ◌<◌, ◌≤◌, false, cond, ltb, eqb, List, [], ◌∷◌, ◌++◌, length, get_or, Ok, Err, refl, sym, ap, subst, ◌∙◌, arith, inl, inr}
use Rattle.std.proofs.lemmas.Bool.{cases_lt, ltb-true, ltb-false, lt-ltb, le-ltb, eqb-true, eqb-false, ne_eqb}
use Rattle.std.proofs.lemmas.List.{length-append}
use Rattle.jwt_jwk.specs.declared.der.refusal.Refusal.TheVariants.{Number}
use Rattle.jwt_jwk.specs.der.Der.{AreOctets, IsNumber, der_element, integer, twos_complement, rsa_public_key}
use Rattle.jwt_jwk.specs.der.Integers.{IsTwosComplement}
use Rattle.jwt_jwk.specs.der.Reading.{◌>>=◌, within_size, behind_zero, der_number, rsa_of, only_element, element_at}
use Rattle.jwt_jwk.proofs.Steps.{bind_ok, chosen, guard_ok, behind_ok, under_ok, ok_is}
use Rattle.jwt_jwk.proofs.Elements.{whole_takes, whole_again, element_takes, element_again, length-element}

complement_low : (f : ℕ) (r : List ℕ) → f < 128 → twos_complement (f ∷ r) ≡ f ∷ r
complement_low f r lt = rw (lt-ltb f 128 lt) refl

complement_high : (f : ℕ) (r : List ℕ) → 128 ≤ f → twos_complement (f ∷ r) ≡ 0 ∷ f ∷ r
complement_high f r le = rw (le-ltb f 128 le) refl

abbrev pub IsNumberIn : List ℕ → List ℕ → Type 0
IsNumberIn bytes n = (bytes ≡ twos_complement n) × IsNumber n

within_is : (bytes n : List ℕ) → within_size bytes ≡ Ok n → (bytes ≡ n) × (length bytes ≤ 4096)
within_is bytes n e =
    let g = guard_ok (ltb 4096 (length bytes)) Number bytes n e in
    (g.1, ltb-false _ _ g.0)

behind_takes : (rest n : List ℕ) → behind_zero rest ≡ Ok n → IsNumberIn (0 ∷ rest) n
behind_takes [] n e = absurd cc
behind_takes (f ∷ r) n e =
    let g = behind_ok (ltb f 128) Number (within_size (f ∷ r)) n e in
    let w = within_is (f ∷ r) n g.1 in
    let high : 128 ≤ f = ltb-false _ _ g.0 in
    let here : IsNumberIn (0 ∷ f ∷ r) (f ∷ r) = (sym (complement_high f r high), record { first = omega arith; most = w.1 }) in
    subst (λ (y : List ℕ). IsNumberIn (0 ∷ f ∷ r) y) w.0 here

pub number_takes : (bytes n : List ℕ) → der_number bytes ≡ Ok n → IsNumberIn bytes n
unfolding der_number
number_takes [] n e = absurd cc
number_takes (f ∷ r) n e =
    elim (chosen (eqb f 0) (behind_zero r) (cond (ltb f 128) (within_size (f ∷ r)) (Err Number)) (Ok n) e) [
      | inl (t, e1) ↦ rw (eqb-true _ _ t) (behind_takes r n e1)
      | inr (t, e1) ↦
          let some : f ≡ 0 → ⊥ = eqb-false f 0 t in
          let u = under_ok (ltb f 128) Number (within_size (f ∷ r)) n e1 in
          let w = within_is (f ∷ r) n u.1 in
          let here : IsNumberIn (f ∷ r) (f ∷ r) = (sym (complement_low f r (ltb-true _ _ u.0)), record { first = some; most = w.1 }) in
          subst (λ (y : List ℕ). IsNumberIn (f ∷ r) y) w.0 here
    ]

pub number_again : (n : List ℕ) → IsNumber n → der_number (twos_complement n) ≡ Ok n
unfolding der_number
number_again [] is = absurd (is.first refl)
number_again (f ∷ r) is =
    let few : ltb 4096 (length (f ∷ r)) ≡ false = le-ltb _ _ is.most in
    elim (cases_lt f 128) [
      | inl low ↦ rw (complement_low f r low, ne_eqb f 0 is.first, lt-ltb f 128 low, few) refl
      | inr high ↦ rw (complement_high f r high, le-ltb f 128 high, few) refl
    ]

pub length-complement : (n : List ℕ) → length (twos_complement n) ≤ length n + 1
length-complement n =
    elim (cases_lt (get_or n 0 0) 128) [
      | inl low ↦ rw (lt-ltb (get_or n 0 0) 128 low) (omega arith)
      | inr high ↦ rw (le-ltb (get_or n 0 0) 128 high) (omega arith)
    ]

pub length-integer : (n : List ℕ) → IsNumber n → length (integer n) ≤ 4101
length-integer n is = omega (arith, length-element 2 (twos_complement n), length-complement n, is.most)

pub length-rsa : (n e : List ℕ) → IsNumber n → IsNumber e → length (rsa_public_key n e) < 60000
length-rsa n e is_n is_e = omega (arith, length-element 48 (integer n ++ integer e), length-append (integer n) (integer e), length-integer n is_n, length-integer e is_e)

pub rsa_takes : (bytes : List ℕ) (p : List ℕ × List ℕ) → AreOctets bytes → rsa_of bytes ≡ Ok p → (bytes ≡ rsa_public_key p.0 p.1) × (IsNumber p.0 × IsNumber p.1)
unfolding rsa_of
rsa_takes bytes p fits e =
    let a = bind_ok (only_element 48 bytes) (λ both. element_at 2 both >>= λ n. only_element 2 n.1 >>= λ e. der_number n.0 >>= λ modulus. der_number e >>= λ exponent. Ok (modulus, exponent)) p e in
    let b = bind_ok (element_at 2 a.0) (λ n. only_element 2 n.1 >>= λ e. der_number n.0 >>= λ modulus. der_number e >>= λ exponent. Ok (modulus, exponent)) p a.2 in
    let c = bind_ok (only_element 2 b.0.1) (λ e. der_number b.0.0 >>= λ modulus. der_number e >>= λ exponent. Ok (modulus, exponent)) p b.2 in
    let d = bind_ok (der_number b.0.0) (λ modulus. der_number c.0 >>= λ exponent. Ok (modulus, exponent)) p c.2 in
    let f = bind_ok (der_number c.0) (λ exponent. Ok (d.0, exponent)) p d.2 in
    let t0 = whole_takes 48 bytes a.0 fits a.1 in
    let t1 = element_takes 2 a.0 b.0 t0.1 b.1 in
    let t2 = whole_takes 2 b.0.1 c.0 t1.0.fits c.1 in
    let n = number_takes b.0.0 d.0 d.1 in
    let x = number_takes c.0 f.0 f.1 in
    let inner : a.0 ≡ integer d.0 ++ integer f.0 = t1.0.parts ∙ ap (λ (r : List ℕ). der_element 2 b.0.0 ++ r) (t2.0 ∙ ap (der_element 2) x.0) ∙ ap (λ (q : List ℕ). der_element 2 q ++ integer f.0) n.0 in
    let outer : bytes ≡ rsa_public_key d.0 f.0 = t0.0 ∙ ap (der_element 48) inner in
    subst (λ (y : List ℕ × List ℕ). (bytes ≡ rsa_public_key y.0 y.1) × (IsNumber y.0 × IsNumber y.1)) (ok_is (d.0, f.0) p f.2) (outer, (n.1, x.1))

pub rsa_again : (n e : List ℕ) → IsNumber n → IsNumber e → rsa_of (rsa_public_key n e) ≡ Ok (n, e)
unfolding rsa_of
rsa_again n e is_n is_e =
    let inner : length (integer n ++ integer e) < 65536 = omega (arith, length-append (integer n) (integer e), length-integer n is_n, length-integer e is_e) in
    let n_short : length (twos_complement n) < 65536 = omega (arith, length-complement n, is_n.most) in
    let e_short : length (twos_complement e) < 65536 = omega (arith, length-complement e, is_e.most) in
    rw (whole_again 48 (integer n ++ integer e) inner, element_again 2 (twos_complement n) (integer e) n_short, whole_again 2 (twos_complement e) e_short, number_again n is_n, number_again e is_e) refl

-- ---- the law of two's complement

pub written : (n : List ℕ) → IsNumber n → IsTwosComplement (twos_complement n) n
written [] is = absurd (is.first refl)
written (f ∷ r) is =
    elim (cases_lt f 128) [
      | inl low ↦
          let here : IsTwosComplement (f ∷ r) (f ∷ r) = record { positive = low; number = refl; shortest = λ e. absurd (is.first e) } in
          subst (λ (c : List ℕ). IsTwosComplement c (f ∷ r)) (sym (complement_low f r low)) here
      | inr high ↦
          let here : IsTwosComplement (0 ∷ f ∷ r) (f ∷ r) = record { positive = omega arith; number = refl; shortest = λ e. high } in
          subst (λ (c : List ℕ). IsTwosComplement c (f ∷ r)) (sym (complement_high f r high)) here
    ]
