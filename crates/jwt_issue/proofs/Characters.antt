-- What characters base64url texts have, and that UTF-8 is octets.
use Rattle.std.proofs.Common.{◌≡◌, ℕ, zero, suc, ◌+◌, ◌*◌, ◌/◌, ◌%◌, ◌<◌, Bool, true, false, nat_lt, List, [], ◌∷◌, ◌++◌, IsUtf8, refl, subst, ◌∙◌, arith, cond, ltb, ltb-true, inl, inr}
use Rattle.std.specs.Prelude.{slice_index}
use Rattle.std.specs.List.{list_all}
use Rattle.std.proofs.lemmas.Bool.{and_parts, and_from}
use Rattle.std.proofs.lemmas.Bool.Decides.{nat_tests}
use Rattle.std.proofs.lemmas.List.Folds.{list_all-append}
use Rattle.std.proofs.lemmas.List.Sums.{AllPass-from_list_all}
use Rattle.std.proofs.lemmas.Str.{IsUtf8-from_ascii}
use lib.Utf8.{scalar, scalars, next, encode, encodes, scalar_cases}
use Rattle.json.specs.Run.{is_plain}
use Rattle.json.specs.Print.{escape}
use Rattle.json.proofs.Printed.Plain.{escape_on_plain}
use Rattle.jwt_text.specs.Base64url.{AreOctets, alphabet, digits, spelling}

module _ (test : ℕ → Bool) (alphabet_passes : list_all test alphabet ≡ true) where
  joined_pass : (xs ys : List ℕ) → list_all test xs ≡ true → list_all test ys ≡ true → list_all test (xs ++ ys) ≡ true
  joined_pass xs ys p q = list_all-append test xs ys ∙ and_from _ _ p q

  digits_pass : (k n : ℕ) → list_all test (digits k n) ≡ true
  unfolding digits
  digits_pass zero n = refl
  digits_pass (suc k) n =
      joined_pass (digits k (n / 64)) (slice_index alphabet (n % 64) ∷ []) (digits_pass k (n / 64))
      (and_from _ _ (AllPass-from_list_all test alphabet alphabet_passes (n % 64) 0 (omega arith)) refl)

  -- a test that each character of the alphabet passes, each character of a base64url text passes
  pub spelling_passes : (v : List ℕ) → list_all test (spelling v) ≡ true
  unfolding spelling
  spelling_passes [] = refl
  spelling_passes (a ∷ []) = digits_pass 2 (16 * a)
  spelling_passes (a ∷ b ∷ []) = digits_pass 3 (4 * (256 * a + b))
  spelling_passes (a ∷ b ∷ c ∷ rest) = joined_pass (digits 4 (65536 * a + 256 * b + c)) (spelling rest) (digits_pass 4 (65536 * a + 256 * b + c)) (spelling_passes rest)

-- JSON escapes none of them
pub escape_spelling : (v : List ℕ) → escape (spelling v) ≡ spelling v
escape_spelling v = escape_on_plain true (spelling v) (λ k low high. AllPass-from_list_all is_plain (spelling v) (spelling_passes is_plain refl v) k 0 high)

-- they are ASCII
is_ascii : ℕ → Bool
is_ascii c = nat_lt c 128

alphabet_ascii : list_all is_ascii alphabet ≡ true
unfolding is_ascii
alphabet_ascii = refl

below_128 : (xs : List ℕ) → list_all is_ascii xs ≡ true → (i : ℕ) → slice_index xs i < 128
unfolding is_ascii
below_128 [] all i = omega arith
below_128 (x ∷ xs) all zero = let p = and_parts (is_ascii x) (list_all is_ascii xs) all in grind (arith, nat_tests, p.0)
below_128 (x ∷ xs) all (suc i) = below_128 xs (and_parts (is_ascii x) (list_all is_ascii xs) all).1 i

pub utf8_spelling : (v : List ℕ) → IsUtf8 (spelling v)
utf8_spelling v = IsUtf8-from_ascii (spelling v) (below_128 (spelling v) (spelling_passes is_ascii alphabet_ascii v))

-- ---- UTF-8 is octets

none_are : AreOctets []
none_are i = omega arith

one_more : (x : ℕ) (xs : List ℕ) → x < 256 → AreOctets xs → AreOctets (x ∷ xs)
one_more x xs small rest zero = small
one_more x xs small rest (suc i) = rest i

joined_are : (xs ys : List ℕ) → AreOctets xs → AreOctets ys → AreOctets (xs ++ ys)
joined_are [] ys p q = q
joined_are (x ∷ xs) ys p q = one_more x (xs ++ ys) (p 0) (joined_are xs ys (λ i. p (suc i)) q)

by_size : (c : ℕ) (a b d : Bool) → c < 1114112 → ltb c 128 ≡ a → ltb c 2048 ≡ b → ltb c 65536 ≡ d
    → AreOctets (cond a (c ∷ []) (cond b ((192 + c / 64) ∷ next c ∷ []) (cond d ((224 + c / 4096) ∷ next (c / 64) ∷ next c ∷ []) ((240 + c / 262144) ∷ next (c / 4096) ∷ next (c / 64) ∷ next c ∷ []))))
by_size c true b d most p q r = one_more c [] (omega (arith, ltb-true c 128 p)) none_are
by_size c false true d most p q r = one_more (192 + c / 64) (next c ∷ []) (omega (arith, ltb-true c 2048 q)) (one_more (next c) [] (omega arith) none_are)
by_size c false false true most p q r =
    one_more (224 + c / 4096) (next (c / 64) ∷ next c ∷ []) (omega (arith, ltb-true c 65536 r))
    (one_more (next (c / 64)) (next c ∷ []) (omega arith) (one_more (next c) [] (omega arith) none_are))
by_size c false false false most p q r =
    one_more (240 + c / 262144) (next (c / 4096) ∷ next (c / 64) ∷ next c ∷ []) (omega arith)
    (one_more (next (c / 4096)) (next (c / 64) ∷ next c ∷ []) (omega arith)
    (one_more (next (c / 64)) (next c ∷ []) (omega arith) (one_more (next c) [] (omega arith) none_are)))

char_octets : (c : ℕ) → scalar c ≡ true → AreOctets (encode c)
unfolding encode
char_octets c ok =
    let most : c < 1114112 = elim (scalar_cases c ok) [ inl low ↦ omega (arith, low) | inr high ↦ high.1 ] in
    by_size c (ltb c 128) (ltb c 2048) (ltb c 65536) most refl refl refl

chars_octets : (cs : List ℕ) → scalars cs ≡ true → AreOctets (encodes cs)
chars_octets [] ok = none_are
chars_octets (c ∷ cs) ok = let p = and_parts _ _ ok in joined_are (encode c) (encodes cs) (char_octets c p.0) (chars_octets cs p.1)

pub utf8_octets : (text : List ℕ) → IsUtf8 text → AreOctets text
utf8_octets text u = subst AreOctets u.1.1 (chars_octets u.0 u.1.0)
