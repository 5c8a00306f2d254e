-- What characters a text has that spells octets.
use Rattle.std.proofs.Common.{◌≡◌, ℕ, zero, suc, ◌+◌, ◌*◌, ◌/◌, ◌%◌, Bool, true, List, [], ◌∷◌, ◌++◌, refl, ◌∙◌, ap, arith}
use Rattle.std.specs.Prelude.{slice_index}
use Rattle.std.specs.List.{list_all}
use Rattle.std.proofs.lemmas.Bool.{and_from}
use Rattle.std.proofs.lemmas.List.Folds.{list_all-append}
use Rattle.std.proofs.lemmas.List.Sums.{AllPass-from_list_all}
use Rattle.json.specs.Run.{is_plain}
use Rattle.json.specs.Print.{escape}
use Rattle.json.proofs.Printed.Plain.{escape_on_plain}
use Rattle.serde_json.specs.Data.{string}
use Rattle.serde_json.specs.Written.{compact_text}
use Rattle.jwt_text.specs.Base64url.{alphabet, digits, spelling}

module _ (test : ℕ → Bool) (alphabet_passes : list_all test alphabet ≡ true) where
  joined_pass : (xs ys : List ℕ) → list_all test xs ≡ true → list_all test ys ≡ true → list_all test (xs ++ ys) ≡ true
  joined_pass xs ys p q = list_all-append test xs ys ∙ and_from _ _ p q

  digits_pass : (k n : ℕ) → list_all test (digits k n) ≡ true
  unfolding digits
  digits_pass zero n = refl
  digits_pass (suc k) n =
      joined_pass (digits k (n / 64)) (slice_index alphabet (n % 64) ∷ []) (digits_pass k (n / 64))
      (and_from _ _ (AllPass-from_list_all test alphabet alphabet_passes (n % 64) 0 (omega arith)) refl)

  -- a test that each character of the alphabet passes, each character of a base64url text passes
  spelling_passes : (v : List ℕ) → list_all test (spelling v) ≡ true
  unfolding spelling
  spelling_passes [] = refl
  spelling_passes (a ∷ []) = digits_pass 2 (16 * a)
  spelling_passes (a ∷ b ∷ []) = digits_pass 3 (4 * (256 * a + b))
  spelling_passes (a ∷ b ∷ c ∷ rest) = joined_pass (digits 4 (65536 * a + 256 * b + c)) (spelling rest) (digits_pass 4 (65536 * a + 256 * b + c)) (spelling_passes rest)

-- JSON escapes none of them
escape_spelling : (v : List ℕ) → escape (spelling v) ≡ spelling v
escape_spelling v = escape_on_plain true (spelling v) (λ k low high. AllPass-from_list_all is_plain (spelling v) (spelling_passes is_plain refl v) k 0 high)

pub spelling_quoted : (v : List ℕ) → compact_text (string (spelling v)) ≡ 34 ∷ (spelling v ++ 34 ∷ [])
spelling_quoted v = ap (λ (t : List ℕ). 34 ∷ (t ++ 34 ∷ [])) (escape_spelling v)
