-- An element that is read is the element that was written, and what was written is read again.
use Rattle.std.proofs.Common.{◌≡◌, ℕ, ◌+◌, ◌*◌, ◌/◌, ◌%◌, ◌<◌, ◌≤◌, false, cond, ltb, eqb, List, [], ◌∷◌, ◌++◌, length, take, drop, Ok, Err, refl, sym, ap, subst, ◌∙◌, append_assoc, arith, inl, inr}
use Rattle.std.proofs.lemmas.Bool.{cases_lt, ltb-true, ltb-false, lt-ltb, le-ltb, eqb-true, eqb-false, eq-eqb, ne_eqb}
use Rattle.std.proofs.lemmas.List.{take_at, drop_at, take-append-drop, length-append, length-take, append-nil, nil_from_length}
use Rattle.jwt_jwk.specs.declared.der.refusal.Refusal.TheVariants.{Element, Trailing, Bits}
use Rattle.jwt_jwk.specs.der.Der.{AreOctets, length_octets, der_element, bit_string, sequence}
use Rattle.jwt_jwk.specs.der.Reading.{◌>>=◌, one_more, two_more, length_at, split_of, element_at, only_element, bits_of, algorithm_and_key}
use Rattle.jwt_jwk.proofs.Steps.{bind_ok, chosen, guard_ok, under_ok, ok_is, AreOctets-rest, AreOctets-drop, AreOctets-take, Takes, Takes-then}

-- ---- lengths

pub length_short : (n : ℕ) → n < 128 → length_octets n ≡ n ∷ []
unfolding length_octets
length_short n lt = rw (lt-ltb n 128 lt) refl

pub length_one : (n : ℕ) → 128 ≤ n → n < 256 → length_octets n ≡ 129 ∷ n ∷ []
unfolding length_octets
length_one n le lt = rw (le-ltb n 128 le, lt-ltb n 256 lt) refl

pub length_two : (n : ℕ) → 256 ≤ n → length_octets n ≡ 130 ∷ (n / 256) ∷ (n % 256) ∷ []
unfolding length_octets
length_two n le =
    let le' : 128 ≤ n = omega arith in
    rw (le-ltb n 128 le', le-ltb n 256 le) refl

one_takes : (rest : List ℕ) (x : ℕ × List ℕ) → AreOctets rest → one_more rest ≡ Ok x → Takes (129 ∷ rest) (length_octets x.0) x.1
one_takes [] x fits e = absurd cc
one_takes (a ∷ rest) x fits e =
    let g = guard_ok (ltb a 128) Element (a, rest) x e in
    let text : length_octets a ≡ 129 ∷ a ∷ [] = length_one a (ltb-false _ _ g.0) (fits 0) in
    let here : Takes (129 ∷ a ∷ rest) (length_octets a) rest = record { parts = rw text refl; fits = AreOctets-rest a rest fits } in
    subst (λ (y : ℕ × List ℕ). Takes (129 ∷ a ∷ rest) (length_octets y.0) y.1) g.1 here

two_takes : (rest : List ℕ) (x : ℕ × List ℕ) → AreOctets rest → two_more rest ≡ Ok x → Takes (130 ∷ rest) (length_octets x.0) x.1
two_takes [] x fits e = absurd cc
two_takes (a ∷ []) x fits e = absurd cc
two_takes (a ∷ b ∷ rest) x fits e =
    let g = guard_ok (eqb a 0) Element (256 * a + b, rest) x e in
    let some : a ≡ 0 → ⊥ = eqb-false a 0 g.0 in
    let low : b < 256 = fits 1 in
    let n : ℕ = 256 * a + b in
    let large : 256 ≤ 256 * a + b = omega (arith, some) in
    let quotient : (256 * a + b) / 256 ≡ a = omega arith in
    let remainder : (256 * a + b) % 256 ≡ b = omega arith in
    let text : length_octets (256 * a + b) ≡ 130 ∷ a ∷ b ∷ [] = length_two (256 * a + b) large ∙ rw (quotient, remainder) refl in
    let here : Takes (130 ∷ a ∷ b ∷ rest) (length_octets (256 * a + b)) rest = record { parts = rw text refl; fits = AreOctets-rest b rest (AreOctets-rest a (b ∷ rest) fits) } in
    subst (λ (y : ℕ × List ℕ). Takes (130 ∷ a ∷ b ∷ rest) (length_octets y.0) y.1) g.1 here

pub length_takes : (bytes : List ℕ) (x : ℕ × List ℕ) → AreOctets bytes → length_at bytes ≡ Ok x → Takes bytes (length_octets x.0) x.1
unfolding length_at
length_takes [] x fits e = absurd cc
length_takes (first ∷ rest) x fits e =
    let more = AreOctets-rest first rest fits in
    elim (chosen (ltb first 128) (Ok (first, rest)) (cond (eqb first 129) (one_more rest) (cond (eqb first 130) (two_more rest) (Err Element))) (Ok x) e) [
      | inl (t, e1) ↦
          let text : length_octets first ≡ first ∷ [] = length_short first (ltb-true _ _ t) in
          let here : Takes (first ∷ rest) (length_octets first) rest = record { parts = rw text refl; fits = more } in
          subst (λ (y : ℕ × List ℕ). Takes (first ∷ rest) (length_octets y.0) y.1) (ok_is (first, rest) x e1) here
      | inr (t, e1) ↦
          elim (chosen (eqb first 129) (one_more rest) (cond (eqb first 130) (two_more rest) (Err Element)) (Ok x) e1) [
            | inl (t1, e2) ↦ rw (eqb-true _ _ t1) (one_takes rest x more e2)
            | inr (t1, e2) ↦
                let u = under_ok (eqb first 130) Element (two_more rest) x e2 in
                rw (eqb-true _ _ u.0) (two_takes rest x more u.1)
          ]
    ]

pub length_again : (n : ℕ) (rest : List ℕ) → n < 65536 → length_at (length_octets n ++ rest) ≡ Ok (n, rest)
unfolding length_at
length_again n rest lt =
    elim (cases_lt n 128) [
      | inl short ↦ rw (length_short n short, lt-ltb n 128 short) refl
      | inr long ↦
          elim (cases_lt n 256) [
            | inl one ↦ rw (length_one n long one, le-ltb n 128 long) refl
            | inr two ↦
                let some : n / 256 ≡ 0 → ⊥ = omega arith in
                let whole : 256 * (n / 256) + n % 256 ≡ n = omega arith in
                rw (length_two n two, ne_eqb (n / 256) 0 some, whole) refl
          ]
    ]

-- ---- elements

pub element_takes : (tag : ℕ) (bytes : List ℕ) (x : List ℕ × List ℕ) → AreOctets bytes → element_at tag bytes ≡ Ok x → Takes bytes (der_element tag x.0) x.1 × AreOctets x.0
unfolding element_at
element_takes tag [] x fits e = absurd cc
element_takes tag (first ∷ rest) x fits e =
    let u = under_ok (eqb first tag) Element (length_at rest >>= λ n. split_of n.0 n.1) x e in
    let b = bind_ok (length_at rest) (λ n. split_of n.0 n.1) x u.1 in
    let n = b.0 in
    let t = length_takes rest n (AreOctets-rest first rest fits) b.1 in
    let g = guard_ok (ltb (length n.1) n.0) Element (take n.0 n.1, drop n.0 n.1) x b.2 in
    let long : n.0 ≤ length n.1 = ltb-false _ _ g.0 in
    let len : length (take n.0 n.1) ≡ n.0 = omega (arith, length-take n.0 n.1) in
    let second : Takes n.1 (take n.0 n.1) (drop n.0 n.1) = record { parts = sym (take-append-drop n.0 n.1); fits = AreOctets-drop n.0 n.1 t.fits } in
    let both = Takes-then rest (length_octets n.0) n.1 (take n.0 n.1) (drop n.0 n.1) t second in
    let sized : Takes rest (length_octets (length (take n.0 n.1)) ++ take n.0 n.1) (drop n.0 n.1) = subst (λ (k : ℕ). Takes rest (length_octets k ++ take n.0 n.1) (drop n.0 n.1)) (sym len) both in
    let same : first ≡ tag = eqb-true _ _ u.0 in
    let here : Takes (first ∷ rest) (der_element tag (take n.0 n.1)) (drop n.0 n.1) = record { parts = ap (λ (a : ℕ). a ∷ rest) same ∙ ap (λ (r : List ℕ). tag ∷ r) sized.parts; fits = sized.fits } in
    subst (λ (y : List ℕ × List ℕ). Takes (first ∷ rest) (der_element tag y.0) y.1 × AreOctets y.0) g.1 (here, AreOctets-take n.0 n.1 t.fits)

pub element_again : (tag : ℕ) (c rest : List ℕ) → length c < 65536 → element_at tag (der_element tag c ++ rest) ≡ Ok (c, rest)
unfolding element_at
element_again tag c rest lt =
    let regrouped : (length_octets (length c) ++ c) ++ rest ≡ length_octets (length c) ++ (c ++ rest) = append_assoc (length_octets (length c)) c rest in
    let long : ltb (length (c ++ rest)) (length c) ≡ false = le-ltb _ _ (omega (arith, length-append c rest)) in
    let read : length_at ((length_octets (length c) ++ c) ++ rest) ≡ Ok (length c, c ++ rest) = ap length_at regrouped ∙ length_again (length c) (c ++ rest) lt in
    rw (eq-eqb tag tag refl, read, long, take_at c rest (length c) refl, drop_at c rest (length c) refl) refl

pub whole_takes : (tag : ℕ) (bytes c : List ℕ) → AreOctets bytes → only_element tag bytes ≡ Ok c → (bytes ≡ der_element tag c) × AreOctets c
unfolding only_element
whole_takes tag bytes c fits e =
    let b = bind_ok (element_at tag bytes) (λ x. cond (eqb (length x.1) 0) (Ok x.0) (Err Trailing)) c e in
    let x = b.0 in
    let t = element_takes tag bytes x fits b.1 in
    let u = under_ok (eqb (length x.1) 0) Trailing (Ok x.0) c b.2 in
    let nothing : x.1 ≡ [] = nil_from_length x.1 (eqb-true _ _ u.0) in
    let whole : bytes ≡ der_element tag x.0 = t.0.parts ∙ ap (λ (r : List ℕ). der_element tag x.0 ++ r) nothing ∙ append-nil (der_element tag x.0) in
    subst (λ (y : List ℕ). (bytes ≡ der_element tag y) × AreOctets y) (ok_is x.0 c u.1) (whole, t.1)

pub whole_again : (tag : ℕ) (c : List ℕ) → length c < 65536 → only_element tag (der_element tag c) ≡ Ok c
unfolding only_element
whole_again tag c lt =
    let read : element_at tag (der_element tag c) ≡ Ok (c, []) = ap (element_at tag) (sym (append-nil (der_element tag c))) ∙ element_again tag c [] lt in
    rw read refl

pub bits_take : (bytes octets : List ℕ) → AreOctets bytes → bits_of bytes ≡ Ok octets → (bytes ≡ 0 ∷ octets) × AreOctets octets
unfolding bits_of
bits_take [] octets fits e = absurd cc
bits_take (unused ∷ rest) octets fits e =
    let u = under_ok (eqb unused 0) Bits (Ok rest) octets e in
    let none : unused ≡ 0 = eqb-true _ _ u.0 in
    subst (λ (y : List ℕ). (unused ∷ rest ≡ 0 ∷ y) × AreOctets y) (ok_is rest octets u.1) (ap (λ (a : ℕ). a ∷ rest) none, AreOctets-rest unused rest fits)

-- ---- how long they are

pub length-length_octets : (n : ℕ) → length (length_octets n) ≤ 3
length-length_octets n =
    elim (cases_lt n 128) [
      | inl short ↦ rw (length_short n short) (omega arith)
      | inr long ↦
          elim (cases_lt n 256) [
            | inl one ↦ rw (length_one n long one) (omega arith)
            | inr two ↦ rw (length_two n two) (omega arith)
          ]
    ]

pub length-element : (tag : ℕ) (c : List ℕ) → length (der_element tag c) ≤ length c + 4
length-element tag c = omega (arith, length-append (length_octets (length c)) c, length-length_octets (length c))

-- ---- SubjectPublicKeyInfo without regard to what is in it

pub parts_take : (bytes : List ℕ) (p : List ℕ × List ℕ) → AreOctets bytes → algorithm_and_key bytes ≡ Ok p → (bytes ≡ sequence (sequence p.0 ++ bit_string p.1)) × AreOctets p.1
unfolding algorithm_and_key
parts_take bytes p fits e =
    let a = bind_ok (only_element 48 bytes) (λ info. element_at 48 info >>= λ a. only_element 3 a.1 >>= λ b. bits_of b >>= λ key. Ok (a.0, key)) p e in
    let b = bind_ok (element_at 48 a.0) (λ a. only_element 3 a.1 >>= λ b. bits_of b >>= λ key. Ok (a.0, key)) p a.2 in
    let c = bind_ok (only_element 3 b.0.1) (λ bits. bits_of bits >>= λ key. Ok (b.0.0, key)) p b.2 in
    let d = bind_ok (bits_of c.0) (λ key. Ok (b.0.0, key)) p c.2 in
    let t0 = whole_takes 48 bytes a.0 fits a.1 in
    let t1 = element_takes 48 a.0 b.0 t0.1 b.1 in
    let t2 = whole_takes 3 b.0.1 c.0 t1.0.fits c.1 in
    let t3 = bits_take c.0 d.0 t2.1 d.1 in
    let inner : a.0 ≡ sequence b.0.0 ++ bit_string d.0 = t1.0.parts ∙ ap (λ (r : List ℕ). sequence b.0.0 ++ r) (t2.0 ∙ ap (der_element 3) t3.0) in
    let outer : bytes ≡ sequence (sequence b.0.0 ++ bit_string d.0) = t0.0 ∙ ap (der_element 48) inner in
    subst (λ (y : List ℕ × List ℕ). (bytes ≡ sequence (sequence y.0 ++ bit_string y.1)) × AreOctets y.1) (ok_is (b.0.0, d.0) p d.2) (outer, t3.1)

pub parts_again : (a key : List ℕ) → length a < 1000 → length key < 60000 → algorithm_and_key (sequence (sequence a ++ bit_string key)) ≡ Ok (a, key)
unfolding algorithm_and_key bits_of
parts_again a key short less =
    let inner : length (sequence a ++ bit_string key) < 65536 = omega (arith, length-append (sequence a) (bit_string key), length-element 48 a, length-element 3 (0 ∷ key)) in
    rw (whole_again 48 (sequence a ++ bit_string key) inner, element_again 48 a (bit_string key) (omega arith), whole_again 3 (0 ∷ key) (omega arith)) refl
