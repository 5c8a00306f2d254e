-- Octets, and the tests of lengths.
use Rattle.std.proofs.Common.{◌≡◌, ◌≢◌, ℕ, suc, ◌+◌, ◌-◌, List, [], ◌∷◌, length, get_or, take, drop, Fits, w8, false, refl, arith}
use Rattle.std.proofs.lemmas.Bool.{eq-eqb, ne_eqb}
use Rattle.std.proofs.lemmas.List.{take_all, length-drop}
use Rattle.std.specs.Int.Digits.{number_from_digits, AllBelowBase}
use Rattle.ecdsa.specs.Curve.{Domain, holds}
use Rattle.ecdsa.specs.Ecdsa.{ecdsa}

pub all_below : (xs : List ℕ) → ((k : ℕ) → Fits w8 (get_or xs k 0)) → AllBelowBase 256 xs
all_below [] fits = tt
all_below (x ∷ xs) fits = (omega (arith, fits 0), all_below xs (λ k. fits (suc k)))

pub last_part : (xs : List ℕ) (n m : ℕ) → length xs ≡ n + m → take (length xs - n) (drop n xs) ≡ drop n xs
last_part xs n m long = take_all (length xs - n) (drop n xs) (simp length-drop (omega arith))

module _ (E : Domain) (octets : ℕ) (digest x y signature : List ℕ) where
  pub other_x : length x ≢ octets → false ≡ ecdsa E octets digest x y signature
  unfolding ecdsa
  other_x other = let test = ne_eqb (length x) octets other in rw test refl

  pub other_y : length x ≡ octets → length y ≢ octets → false ≡ ecdsa E octets digest x y signature
  unfolding ecdsa
  other_y long other = let test = eq-eqb (length x) octets long in let test_too = ne_eqb (length y) octets other in rw (test, test_too) refl

  pub other_signature : length x ≡ octets → length y ≡ octets → length signature ≢ octets + octets → false ≡ ecdsa E octets digest x y signature
  unfolding ecdsa
  other_signature long long_too other =
      let test = eq-eqb (length x) octets long in
      let test_too = eq-eqb (length y) octets long_too in
      let last = ne_eqb (length signature) (octets + octets) other in
      rw (test, test_too, last) refl

  pub tested : (kx ky e r s : ℕ) → length x ≡ octets → length y ≡ octets → length signature ≡ octets + octets → kx ≡ number_from_digits 256 x → ky ≡ number_from_digits 256 y →
      e ≡ number_from_digits 256 digest → r ≡ number_from_digits 256 (take octets signature) → s ≡ number_from_digits 256 (drop octets signature) →
      holds E kx ky e r s ≡ ecdsa E octets digest x y signature
  unfolding ecdsa
  tested kx ky e r s long long_too long_three kx_is ky_is e_is r_is s_is =
      let test = eq-eqb (length x) octets long in
      let test_too = eq-eqb (length y) octets long_too in
      let last = eq-eqb (length signature) (octets + octets) long_three in
      rw (test, test_too, last, kx_is, ky_is, e_is, r_is, s_is) refl
