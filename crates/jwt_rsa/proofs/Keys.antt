-- What is asked of a key and a signature.
use Rattle.std.proofs.Common.{◌≡◌, ℕ, suc, zero, ◌^◌, ◌%◌, ◌<◌, ◌↔◌, Bool, true, false, List, [], ◌∷◌, length, refl, sym, ap, ◌∙◌, ⊎_elim, arith}
use Rattle.std.proofs.lemmas.Bool.{and_left, and_right, and_from, le-ltb, lt-ltb, ne_eqb, eq-eqb, cases_eq, cases_lt, iff_false, false_from_ne_true, false≢true}
use Rattle.jwt_rsa.specs.powers.Octets.{os2ip, without_zeros}
use Rattle.jwt_rsa.specs.PublicKey.{is_key, rsavp1, is_asked}

pub os2ip-without_zeros : (xs : List ℕ) → os2ip (without_zeros xs) ≡ os2ip xs
os2ip-without_zeros [] = refl
os2ip-without_zeros (zero ∷ xs) = os2ip-without_zeros xs
os2ip-without_zeros (suc x ∷ xs) = refl

module _ (n e s : List ℕ) where
  pub not_key : is_key (os2ip n) (os2ip e) ≡ false → is_asked n e s ≡ false
  unfolding is_asked
  not_key h = and_left _ _ (and_left _ _ h)

  pub not_asked : ((length s ≡ length (without_zeros n)) × (os2ip s < os2ip n) → ⊥) → is_asked n e s ≡ false
  unfolding is_asked
  not_asked refused =
      ⊎_elim
      (λ same. ⊎_elim
      (λ less. absurd (refused (same, less)))
      (λ above. and_right _ _ (le-ltb (os2ip s) (os2ip n) above))
      (cases_lt (os2ip s) (os2ip n)))
      (λ other. and_left _ _ (and_right _ _ (ne_eqb (length s) (length (without_zeros n)) other)))
      (cases_eq (length s) (length (without_zeros n)))

  pub asked : is_key (os2ip n) (os2ip e) ≡ true → length s ≡ length (without_zeros n) → os2ip s < os2ip n → is_asked n e s ≡ true
  unfolding is_asked
  asked key same less = and_from _ _ (and_from _ _ key (eq-eqb (length s) (length (without_zeros n)) same)) (lt-ltb (os2ip s) (os2ip n) less)

-- the same of a key as it is kept, whose modulus has no leading zeros
module _ (n e s kept : List ℕ) (exponent : ℕ) (trimmed : kept ≡ without_zeros n) (same : exponent ≡ os2ip e) where
  pub number_is : os2ip kept ≡ os2ip n
  number_is = ap os2ip trimmed ∙ os2ip-without_zeros n

  pub by_answer : (answer : Bool) → ((answer ≡ true) ↔ ((length s ≡ length kept) × (os2ip s < os2ip kept))) → answer ≡ false → is_asked n e s ≡ false
  by_answer answer is refused =
      not_asked n e s (λ both. iff_false is refused (both.0 ∙ ap length (sym trimmed), omega (arith, both.1, number_is)))

  pub all_asked : is_key (os2ip n) (os2ip e) ≡ true → (length s ≡ length kept) × (os2ip s < os2ip kept) → is_asked n e s ≡ true
  all_asked key both = asked n e s key (both.0 ∙ ap length trimmed) (omega (arith, both.1, number_is))

  pub representative : rsavp1 (os2ip kept) exponent (os2ip s) ≡ rsavp1 (os2ip n) (os2ip e) (os2ip s)
  representative = ap (λ m. os2ip s ^ exponent % m) number_is ∙ ap (λ k. os2ip s ^ k % os2ip n) same

-- two tests of one fact
pub same_tests : (a b : Bool) (P : Type 0) → ((a ≡ true) ↔ P) → ((b ≡ true) ↔ P) → a ≡ b
same_tests true b P p q = sym (q.1 (p.0 refl))
same_tests false b P p q = sym (false_from_ne_true b (λ t. false≢true (p.1 (q.0 t))))
