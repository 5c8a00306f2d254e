-- The colons outside string literals are the colons among the lexemes, where each lexeme is good.
use Rattle.std.proofs.Common.{◌≡◌, ℕ, suc, Bool, true, false, ◌==◌, cond, List, [], ◌∷◌, ⊎_elim, refl, sym, ap, ◌∙◌, subst}
use Rattle.std.proofs.lemmas.Bool.{false≢true, eqb-true, or_cases, or_parts}
use Rattle.std.specs.Prelude.{⊤}
use Rattle.json.specs.Word.{is_operator, is_space, word}
use Rattle.json.specs.Lex.{Lexeme, token, comma, colon, Mode, between, in_word, in_string, in_escape, class, operator_lexeme, lex_byte, lex}
use Rattle.json.specs.Align.{is_good}
use Rattle.jwt_text.specs.ObjectText.{colons, colons_after}
use Rattle.jwt_text.proofs.WordLemmas.{by_class, clean_byte, clean, clean-word}

abbrev pub good_lexeme : Lexeme → Bool
good_lexeme (token t) = is_good t
good_lexeme comma = true
good_lexeme colon = true

abbrev pub all_good : List Lexeme → Bool
all_good [] = true
all_good (l ∷ ls) = cond (good_lexeme l) (all_good ls) false

abbrev mark : Lexeme → ℕ → ℕ
mark (token t) n = n
mark comma n = n
mark colon n = suc n

abbrev pub marks : List Lexeme → ℕ
marks [] = 0
marks (l ∷ ls) = mark l (marks ls)

-- the colons of what is left in a mode
abbrev left : Mode → List ℕ → ℕ
left between t = colons t
left in_word t = colons t
left in_string t = colons_after false t
left in_escape t = colons_after true t

-- a good word is being passed over
abbrev Passes : Mode → Bool → Type 0
Passes between b = ⊤
Passes in_word b = b ≡ true
Passes in_string b = ⊤
Passes in_escape b = ⊤

abbrev Counted : Mode → List Lexeme → ℕ → Type 0
Counted m ls n = all_good ls ≡ true → marks ls ≡ n

is : (x c : ℕ) (P : ℕ → Type 0) → P c → (x == c) ≡ true → P x
is x c P p e = subst P (sym (eqb-true x c e)) p

six : (x : ℕ) (P : ℕ → Type 0) → is_operator x ≡ true → P 123 → P 125 → P 91 → P 93 → P 58 → P 44 → P x
six x P h a b c d e f =
    ⊎_elim (λ h5. ⊎_elim (λ h4. ⊎_elim (λ h3. ⊎_elim (λ h2. ⊎_elim (is x 123 P a) (is x 125 P b) (or_cases _ _ h2)) (is x 91 P c) (or_cases _ _ h3)) (is x 93 P d) (or_cases _ _ h4)) (is x 58 P e) (or_cases _ _ h5)) (is x 44 P f) (or_cases _ _ h)

four : (x : ℕ) (P : ℕ → Type 0) → is_space x ≡ true → P 32 → P 9 → P 10 → P 13 → P x
four x P h a b c d = ⊎_elim (λ h3. ⊎_elim (λ h2. ⊎_elim (is x 32 P a) (is x 9 P b) (or_cases _ _ h2)) (is x 10 P c) (or_cases _ _ h3)) (is x 13 P d) (or_cases _ _ h)

-- an octet that is no operator is no colon
no_colon : (x : ℕ) → is_operator x ≡ false → (x == 58) ≡ false
no_colon x h = (or_parts _ _ (or_parts _ _ h).0).1

both : (b c : Bool) → cond b c false ≡ true → (b ≡ true) × (c ≡ true)
both true c h = (refl, h)
both false c h = absurd (false≢true h)

-- what stands for itself outside and inside literals
module _ (x : ℕ) (xs : List ℕ) where
  other_outside : (x == 34) ≡ false → is_operator x ≡ false → colons xs ≡ colons (x ∷ xs)
  other_outside q o = rw (q, no_colon x o) refl

  other_inside : (x == 34) ≡ false → (x == 92) ≡ false → colons_after false xs ≡ colons_after false (x ∷ xs)
  other_inside q b = rw (q, b) refl

module _ (x : ℕ) (xs : List ℕ) (k : Mode → List Lexeme) (ih : (n : Mode) → Passes n (clean xs) → Counted n (k n) (left n xs)) where
  at_operator : is_operator x ≡ true → Counted between (operator_lexeme x ∷ k between) (colons (x ∷ xs))
  at_operator h =
      six x (λ y. Counted between (operator_lexeme y ∷ k between) (colons (y ∷ xs))) h (λ g. ih between tt g) (λ g. ih between tt g) (λ g. ih between tt g) (λ g. ih between tt g) (λ g. ap suc (ih between tt g)) (λ g. ih between tt g)

  at_space : is_space x ≡ true → Counted between (k between) (colons (x ∷ xs))
  at_space h = four x (λ y. Counted between (k between) (colons (y ∷ xs))) h (λ g. ih between tt g) (λ g. ih between tt g) (λ g. ih between tt g) (λ g. ih between tt g)

  in_between : (is_good (word (x ∷ xs)) ≡ true → clean (x ∷ xs) ≡ true) → Counted between (lex_byte between (class x) x xs k) (colons (x ∷ xs))
  in_between =
      by_class x (λ c. (is_good (word (x ∷ xs)) ≡ true → clean_byte c (clean xs) ≡ true) → Counted between (lex_byte between c x xs k) (colons (x ∷ xs)))
      (λ e w g. ih in_string tt (both _ _ g).1 ∙ ap (λ y. colons (y ∷ xs)) (sym e))
      (λ e w g. absurd (false≢true g))
      (λ h w. at_operator h)
      (λ h w. at_space h)
      (λ q b o s w g. ih in_word (w (both _ _ g).0) (both _ _ g).1 ∙ other_outside x xs q o)

  within_word : clean (x ∷ xs) ≡ true → Counted in_word (lex_byte in_word (class x) x xs k) (colons (x ∷ xs))
  within_word =
      by_class x (λ c. clean_byte c (clean xs) ≡ true → Counted in_word (lex_byte in_word c x xs k) (colons (x ∷ xs)))
      (λ e ok. absurd (false≢true ok))
      (λ e ok. absurd (false≢true ok))
      (λ h ok. at_operator h)
      (λ h ok. at_space h)
      (λ q b o s ok g. ih in_word ok g ∙ other_outside x xs q o)

  within_string : Counted in_string (lex_byte in_string (class x) x xs k) (colons_after false (x ∷ xs))
  within_string =
      by_class x (λ c. Counted in_string (lex_byte in_string c x xs k) (colons_after false (x ∷ xs)))
      (λ e g. ih between tt g ∙ ap (λ y. colons_after false (y ∷ xs)) (sym e))
      (λ e g. ih in_escape tt g ∙ ap (λ y. colons_after false (y ∷ xs)) (sym e))
      (λ h. six x (λ y. Counted in_string (k in_string) (colons_after false (y ∷ xs))) h (λ g. ih in_string tt g) (λ g. ih in_string tt g) (λ g. ih in_string tt g) (λ g. ih in_string tt g) (λ g. ih in_string tt g) (λ g. ih in_string tt g))
      (λ h. four x (λ y. Counted in_string (k in_string) (colons_after false (y ∷ xs))) h (λ g. ih in_string tt g) (λ g. ih in_string tt g) (λ g. ih in_string tt g) (λ g. ih in_string tt g))
      (λ q b o s g. ih in_string tt g ∙ other_inside x xs q b)

  step : (m : Mode) → Passes m (clean (x ∷ xs)) → Counted m (lex_byte m (class x) x xs k) (left m (x ∷ xs))
  step between ok = in_between (clean-word (x ∷ xs))
  step in_word ok = within_word ok
  step in_string ok = within_string
  step in_escape ok = λ g. ih in_string tt g

nothing : (m : Mode) → left m [] ≡ 0
nothing between = refl
nothing in_word = refl
nothing in_string = refl
nothing in_escape = refl

pub lexed : (t : List ℕ) (m : Mode) → Passes m (clean t) → Counted m (lex m t) (left m t)
unfolding lex
lexed [] m ok = λ g. sym (nothing m)
lexed (x ∷ xs) m ok = step x xs (λ n. lex n xs) (λ n h. lexed xs n h) m ok

-- the colons of a text whose lexemes are good
pub colons-marks : (t : List ℕ) → all_good (lex between t) ≡ true → colons t ≡ marks (lex between t)
colons-marks t g = sym (lexed t between tt g)
