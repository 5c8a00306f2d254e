-- What is decoded is settled: decoding leaves it as it is.
use Rattle.std.proofs.Common.{◌≡◌, ◌⊎◌, ◌<◌, ◌≤◌, ℕ, ◌+◌, ◌*◌, ◌/◌, ◌%◌, ◌==◌, Bool, true, false, cond, List, [], ◌∷◌, ◌++◌, map, Option, Some, None, option_map, option_and_then, refl, sym, ap, ap₂, subst, ◌∙◌, inl, inr, arith, true≢false, eqb-true}
use Rattle.std.proofs.lemmas.Option.{same_Some, none-some}
use Rattle.std.specs.Char.{to_ascii_lowercase}
use Rattle.jwt_possession.specs.Uris.{is_unreserved, value_of, digit_of, normal_octet, normal_triplet, decoded}
use Rattle.jwt_possession.proofs.Decoding.{plain}

-- ---- options

pub map_some : {A B : Type 0} (f : A → B) (o : Option A) (y : B) → option_map f o ≡ Some y → (x : A) × (o ≡ Some x) × (f x ≡ y)
map_some f (Some x) y h = (x, refl, same_Some (f x) y h)
map_some f None y h = absurd (none-some y h)

pub then_some : {A B : Type 0} (f : A → Option B) (o : Option A) (y : B) → option_and_then f o ≡ Some y → (x : A) × (o ≡ Some x) × (f x ≡ Some y)
then_some f (Some x) y h = (x, refl, h)
then_some f None y h = absurd (none-some y h)

-- ---- digits

pub value_cases : (c h : ℕ) → value_of c ≡ Some h → ((48 ≤ c) × (c ≤ 57) × (h + 48 ≡ c)) ⊎ ((65 ≤ c) × (c ≤ 70) × (h + 55 ≡ c)) ⊎ ((97 ≤ c) × (c ≤ 102) × (h + 87 ≡ c))
value_cases c h e = grind arith

pub value_is : (n : ℕ) → n < 16 → value_of (digit_of n) ≡ Some n
value_is n less = grind arith

pub digit_unreserved : (n : ℕ) → n < 16 → is_unreserved (digit_of n) ≡ true
digit_unreserved n less = grind arith

pub value_lower : (c : ℕ) → value_of (to_ascii_lowercase c) ≡ value_of c
value_lower c = grind arith

-- ---- an octet that stands in percent-encoding

-- what is reserved differs from what isn't
pub differs : (o c : ℕ) → is_unreserved o ≡ true → is_unreserved c ≡ false → (o == c) ≡ false
differs o c is not = by (o == c) refl
  where
    by : (b : Bool) → (o == c) ≡ b → (o == c) ≡ false
    by true e = absurd (true≢false (sym is ∙ ap is_unreserved (eqb-true o c e) ∙ not))
    by false e = e

-- it is itself, or stands in percent-encoding of which each digit is unreserved
pub data Written (front : List ℕ) : Type 0 where
  itself : (o : ℕ) → is_unreserved o ≡ true → front ≡ o ∷ [] → Written front
  encoded : (b c : ℕ) → is_unreserved b ≡ true → is_unreserved c ≡ true → normal_triplet b c ≡ Some (37 ∷ b ∷ c ∷ []) → front ≡ 37 ∷ b ∷ c ∷ [] → Written front

octet_is : (h l : ℕ) → l < 16 → is_unreserved (h * 16 + l) ≡ false → normal_octet (h * 16 + l) ≡ 37 ∷ digit_of h ∷ digit_of l ∷ []
octet_is h l low not =
    let quotient : (h * 16 + l) / 16 ≡ h = omega (arith, low) in
    let rest : (h * 16 + l) % 16 ≡ l = omega (arith, low) in
    rw not (ap₂ (λ x y. 37 ∷ digit_of x ∷ digit_of y ∷ []) quotient rest)

triplet_is : (h l : ℕ) → h < 16 → l < 16 → is_unreserved (h * 16 + l) ≡ false → normal_triplet (digit_of h) (digit_of l) ≡ Some (37 ∷ digit_of h ∷ digit_of l ∷ [])
triplet_is h l high low not =
    ap₂ (λ (x y : Option ℕ). option_and_then (λ v. option_map (λ w. normal_octet (v * 16 + w)) y) x) (value_is h high) (value_is l low) ∙ ap Some (octet_is h l low not)

octet_written : (h l : ℕ) → h < 16 → l < 16 → Written (normal_octet (h * 16 + l))
octet_written h l high low = by (is_unreserved (h * 16 + l)) refl
  where
    by : (b : Bool) → is_unreserved (h * 16 + l) ≡ b → Written (normal_octet (h * 16 + l))
    by true is = itself (h * 16 + l) is (rw is refl)
    by false is = encoded (digit_of h) (digit_of l) (digit_unreserved h high) (digit_unreserved l low) (triplet_is h l high low is) (octet_is h l low is)

value_small : (c h : ℕ) → value_of c ≡ Some h → h < 16
value_small c h e = elim (value_cases c h e) [ inl x ↦ omega (arith, x.0, x.1, x.2) | inr (inl x) ↦ omega (arith, x.0, x.1, x.2) | inr (inr x) ↦ omega (arith, x.0, x.1, x.2) ]

pub triplet_written : (b c : ℕ) (front : List ℕ) → normal_triplet b c ≡ Some front → Written front
triplet_written b c front e =
    let high = then_some (λ h. option_map (λ l. normal_octet (h * 16 + l)) (value_of c)) (value_of b) front e in
    let low = map_some (λ l. normal_octet (high.0 * 16 + l)) (value_of c) front high.2 in
    subst Written low.2 (octet_written high.0 low.0 (value_small b high.0 high.1) (value_small c low.0 low.1))

value_unreserved : (c h : ℕ) → value_of c ≡ Some h → is_unreserved c ≡ true
value_unreserved c h e = grind arith

pub triplet_digits : (b c : ℕ) (front : List ℕ) → normal_triplet b c ≡ Some front → (is_unreserved b ≡ true) × (is_unreserved c ≡ true)
triplet_digits b c front e =
    let high = then_some (λ h. option_map (λ l. normal_octet (h * 16 + l)) (value_of c)) (value_of b) front e in
    let low = map_some (λ l. normal_octet (high.0 * 16 + l)) (value_of c) front high.2 in
    (value_unreserved b high.0 high.1, value_unreserved c low.0 low.1)

-- ---- one more

pub one_decoded : (a : ℕ) (xs ys : List ℕ) → (a == 37) ≡ false → decoded xs ≡ Some ys → decoded (a ∷ xs) ≡ Some (a ∷ ys)
one_decoded a xs ys other is = plain a xs other ∙ ap (option_map (λ more. a ∷ more)) is

pub three_decoded : (b c : ℕ) (front xs ys : List ℕ) → normal_triplet b c ≡ Some front → decoded xs ≡ Some ys → decoded (37 ∷ b ∷ c ∷ xs) ≡ Some (front ++ ys)
three_decoded b c front xs ys has is = ap (option_and_then (λ front. option_map (λ more. front ++ more) (decoded xs))) has ∙ ap (option_map (λ more. front ++ more)) is

-- ---- inductions

module _ (R : List ℕ → List ℕ → Type 0)
    (none : R [] [])
    (one : (a : ℕ) (xs ys : List ℕ) → (a == 37) ≡ false → R xs ys → R (a ∷ xs) (a ∷ ys))
    (three : (b c : ℕ) (front xs ys : List ℕ) → normal_triplet b c ≡ Some front → R xs ys → R (37 ∷ b ∷ c ∷ xs) (front ++ ys)) where
  last : (a : ℕ) (ys : List ℕ) → decoded (a ∷ []) ≡ Some ys → R (a ∷ []) ys
  last a ys h = by (a == 37) refl h
    where
      by : (q : Bool) → (a == 37) ≡ q → cond q None (Some (a ∷ [])) ≡ Some ys → R (a ∷ []) ys
      by true is e = absurd (none-some ys e)
      by false is e = subst (R (a ∷ [])) (same_Some (a ∷ []) ys e) (one a [] [] is none)

  two : (a b : ℕ) (ys : List ℕ) → decoded (a ∷ b ∷ []) ≡ Some ys → R (a ∷ b ∷ []) ys
  two a b ys h = by (a == 37) (b == 37) refl refl h
    where
      by : (q r : Bool) → (a == 37) ≡ q → (b == 37) ≡ r → cond q None (cond r None (Some (a ∷ b ∷ []))) ≡ Some ys → R (a ∷ b ∷ []) ys
      by true r is other e = absurd (none-some ys e)
      by false true is other e = absurd (none-some ys e)
      by false false is other e = subst (R (a ∷ b ∷ [])) (same_Some (a ∷ b ∷ []) ys e) (one a (b ∷ []) (b ∷ []) is (one b [] [] other none))

  more : (a b c : ℕ) (rest ys : List ℕ) → ((zs : List ℕ) → decoded rest ≡ Some zs → R rest zs) → ((zs : List ℕ) → decoded (b ∷ c ∷ rest) ≡ Some zs → R (b ∷ c ∷ rest) zs)
      → decoded (a ∷ b ∷ c ∷ rest) ≡ Some ys → R (a ∷ b ∷ c ∷ rest) ys
  more a b c rest ys behind next h = by (a == 37) refl h
    where
      by : (q : Bool) → (a == 37) ≡ q
          → cond q (option_and_then (λ front. option_map (λ more. front ++ more) (decoded rest)) (normal_triplet b c)) (option_map (λ more. a ∷ more) (decoded (b ∷ c ∷ rest))) ≡ Some ys
          → R (a ∷ b ∷ c ∷ rest) ys
      by true is e =
          let front = then_some (λ front. option_map (λ more. front ++ more) (decoded rest)) (normal_triplet b c) ys e in
          let tail = map_some (λ more. front.0 ++ more) (decoded rest) ys front.2 in
          subst (λ x. R (x ∷ b ∷ c ∷ rest) ys) (sym (eqb-true a 37 is)) (subst (R (37 ∷ b ∷ c ∷ rest)) tail.2 (three b c front.0 rest tail.0 front.1 (behind tail.0 tail.1)))
      by false is e =
          let tail = map_some (λ more. a ∷ more) (decoded (b ∷ c ∷ rest)) ys e in
          subst (R (a ∷ b ∷ c ∷ rest)) tail.2 (one a (b ∷ c ∷ rest) tail.0 is (next tail.0 tail.1))

  pub along : (xs ys : List ℕ) → decoded xs ≡ Some ys → R xs ys
  along [] ys h = subst (R []) (same_Some [] ys h) none
  along (a ∷ []) ys h = last a ys h
  along (a ∷ b ∷ []) ys h = two a b ys h
  along (a ∷ b ∷ c ∷ rest) ys h = more a b c rest ys (along rest) (along (b ∷ c ∷ rest)) h

module _ (S : List ℕ → Type 0)
    (none : S [])
    (one : (a : ℕ) (xs : List ℕ) → (a == 37) ≡ false → S xs → S (a ∷ xs))
    (three : (b c : ℕ) (xs : List ℕ) → is_unreserved b ≡ true → is_unreserved c ≡ true → normal_triplet b c ≡ Some (37 ∷ b ∷ c ∷ []) → S xs → S (37 ∷ b ∷ c ∷ xs)) where
  front_on : (front xs : List ℕ) → Written front → S xs → S (front ++ xs)
  front_on front xs (itself o is e) so = subst (λ f. S (f ++ xs)) (sym e) (one o xs (differs o 37 is refl) so)
  front_on front xs (encoded b c high low is e) so = subst (λ f. S (f ++ xs)) (sym e) (three b c xs high low is so)

  -- what is decoded has what no octet but a percent sign, and each octet in percent-encoding, keeps
  pub of_decoded : (xs ys : List ℕ) → decoded xs ≡ Some ys → S ys
  of_decoded = along (λ xs ys. S ys) none (λ a xs ys not so. one a ys not so) (λ b c front xs ys is so. front_on front ys (triplet_written b c front is) so)

-- ---- what is decoded is settled

abbrev pub Settled : List ℕ → Type 0
Settled xs = decoded xs ≡ Some xs

pub settled_three : (b c : ℕ) (xs : List ℕ) → normal_triplet b c ≡ Some (37 ∷ b ∷ c ∷ []) → Settled xs → Settled (37 ∷ b ∷ c ∷ xs)
settled_three b c xs is so = three_decoded b c (37 ∷ b ∷ c ∷ []) xs xs is so

pub decoded_settled : (xs ys : List ℕ) → decoded xs ≡ Some ys → Settled ys
decoded_settled = of_decoded Settled refl (λ a xs other so. one_decoded a xs xs other so) (λ b c xs high low is so. settled_three b c xs is so)

pub settled_append : (xs ys : List ℕ) → Settled xs → Settled ys → Settled (xs ++ ys)
settled_append xs ys is so = of_decoded (λ xs. Settled (xs ++ ys)) so (λ a xs other so. one_decoded a (xs ++ ys) (xs ++ ys) other so) (λ b c xs high low is so. settled_three b c (xs ++ ys) is so) xs xs is

lower_sign : (a : ℕ) → (a == 37) ≡ false → (to_ascii_lowercase a == 37) ≡ false
lower_sign a other = grind arith

lower_again : (a : ℕ) → to_ascii_lowercase (to_ascii_lowercase a) ≡ to_ascii_lowercase a
lower_again a = grind arith

-- in small letters it is decoded to what has the same small letters
pub lower_decoded : (xs ys : List ℕ) → decoded xs ≡ Some ys
    → (zs : List ℕ) × (decoded (map to_ascii_lowercase ys) ≡ Some zs) × (map to_ascii_lowercase zs ≡ map to_ascii_lowercase ys)
lower_decoded = of_decoded (λ ys. (zs : List ℕ) × (decoded (map to_ascii_lowercase ys) ≡ Some zs) × (map to_ascii_lowercase zs ≡ map to_ascii_lowercase ys)) ([], refl, refl)
    (λ a ys other so. (
      to_ascii_lowercase a ∷ so.0,
      one_decoded (to_ascii_lowercase a) (map to_ascii_lowercase ys) so.0 (lower_sign a other) so.1,
      ap₂ (λ x xs. x ∷ xs) (lower_again a) so.2,
    ))
    (λ b c ys high low is so. (
      37 ∷ b ∷ c ∷ so.0,
      three_decoded (to_ascii_lowercase b) (to_ascii_lowercase c) (37 ∷ b ∷ c ∷ []) (map to_ascii_lowercase ys) so.0
          (ap₂ (λ (x y : Option ℕ). option_and_then (λ v. option_map (λ w. normal_octet (v * 16 + w)) y) x) (value_lower b) (value_lower c) ∙ is) so.1,
      ap (λ xs. 37 ∷ to_ascii_lowercase b ∷ to_ascii_lowercase c ∷ xs) so.2,
    ))
