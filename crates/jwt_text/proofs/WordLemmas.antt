-- A number or a literal (RFC 8259, sections 3 and 6) reaches to an operator, a space or the end of the text, and no quotation
-- mark and no backslash stands in it.
use Rattle.std.proofs.Common.{◌≡◌, ◌⊎◌, inl, inr, ℕ, suc, ◌+◌, ◌-◌, Bool, true, false, ◌==◌, ◌||◌, cond, List, [], ◌∷◌, ◌++◌, length, take, drop, Option, Some, None, option_and_then, refl, sym, ap, ◌∙◌, arith}
use Rattle.std.proofs.lemmas.Bool.{false≢true, true≢false, eqb-true, and_parts, or_cases}
use Rattle.std.proofs.lemmas.List.{take-append-drop}
use Rattle.std.proofs.lemmas.Slice.Eq.{bytes_eq-Decides}
use Rattle.std.specs.Prelude.{⊤}
use Rattle.std.specs.List.{prefix_len}
use Rattle.std.specs.Char.{is_ascii_digit}
use Rattle.json.specs.Ascii as ascii
use Rattle.json.specs.Token.{Token}
use Rattle.json.specs.Word.{is_operator, is_space, head, ends_word, after_digits, after_minus, after_sign, after_whole, after_fraction, after_exponent, after_number, number_before, literal, word}
use Rattle.json.specs.Lex.{Class, quote, backslash, operator, space, other, class}
use Rattle.json.specs.Align.{is_good}

-- ---- what an octet is

class_of : (q b o s : Bool) (P : Class → Type 0) → (q ≡ true → P quote) → (b ≡ true → P backslash) → (o ≡ true → P operator) → (s ≡ true → P space)
    → (q ≡ false → b ≡ false → o ≡ false → s ≡ false → P other) → P (cond q quote (cond b backslash (cond o operator (cond s space other))))
class_of true b o s P at_q at_b at_o at_s rest = at_q refl
class_of false true o s P at_q at_b at_o at_s rest = at_b refl
class_of false false true s P at_q at_b at_o at_s rest = at_o refl
class_of false false false true P at_q at_b at_o at_s rest = at_s refl
class_of false false false false P at_q at_b at_o at_s rest = rest refl refl refl refl

-- an octet is a quotation mark, a backslash, an operator, a space, or none of these
pub by_class : (x : ℕ) (P : Class → Type 0) → (x ≡ 34 → P quote) → (x ≡ 92 → P backslash) → (is_operator x ≡ true → P operator) → (is_space x ≡ true → P space)
    → ((x == 34) ≡ false → (x == 92) ≡ false → is_operator x ≡ false → is_space x ≡ false → P other) → P (class x)
by_class x P at_q at_b at_o at_s rest =
    class_of (x == 34) (x == 92) (is_operator x) (is_space x) P (λ h. at_q (eqb-true x 34 h)) (λ h. at_b (eqb-true x 92 h)) at_o at_s rest

abbrev pub clean_byte : Class → Bool → Bool
clean_byte quote rest = false
clean_byte backslash rest = false
clean_byte operator rest = true
clean_byte space rest = true
clean_byte other rest = rest

-- up to the first operator, the first space or the end there is no quotation mark and no backslash
abbrev pub clean : List ℕ → Bool
clean [] = true
clean (x ∷ xs) = clean_byte (class x) (clean xs)

-- ---- from one place of a text to a later one

-- the text t is clean where what is left of it is
abbrev Leads : List ℕ → List ℕ → Type 0
Leads t rest = clean rest ≡ true → clean t ≡ true

abbrev LeadsOn : List ℕ → Option (List ℕ) → Type 0
LeadsOn t None = ⊤
LeadsOn t (Some rest) = Leads t rest

then : (t : List ℕ) (o : Option (List ℕ)) (f : List ℕ → Option (List ℕ)) → LeadsOn t o → ((u : List ℕ) → LeadsOn u (f u)) → LeadsOn t (option_and_then f o)
then t None f first more = tt
then t (Some u) f first more = further (f u) (more u)
  where
    further : (o : Option (List ℕ)) → LeadsOn u o → LeadsOn t o
    further None h = tt
    further (Some rest) h = λ g. first (h g)

-- after a step that leads on
after : (t u : List ℕ) (o : Option (List ℕ)) → Leads t u → LeadsOn u o → LeadsOn t o
after t u None first more = tt
after t u (Some rest) first more = λ g. first (more g)

here : (t : List ℕ) → Leads t t
here t h = h

branch : (b : Bool) (t : List ℕ) (o p : Option (List ℕ)) → (b ≡ true → LeadsOn t o) → (b ≡ false → LeadsOn t p) → LeadsOn t (cond b o p)
branch true t o p f g = f refl
branch false t o p f g = g refl

-- ---- one octet

-- an octet of class `other` is passed over
pass : (c : ℕ) (t : List ℕ) → class c ≡ other → (head t == c) ≡ true → Leads t (drop 1 t)
pass c [] is h g = refl
pass c (x ∷ xs) is h g = ap (λ y. clean_byte (class y) (clean xs)) (eqb-true x c h) ∙ ap (λ k. clean_byte k (clean xs)) is ∙ g

pass_either : (a b : ℕ) (t : List ℕ) → class a ≡ other → class b ≡ other → ((head t == a) || (head t == b)) ≡ true → Leads t (drop 1 t)
pass_either a b t is_a is_b h = which (or_cases (head t == a) (head t == b) h)
  where
    which : (((head t == a) ≡ true) ⊎ ((head t == b) ≡ true)) → Leads t (drop 1 t)
    which (inl e) = pass a t is_a e
    which (inr e) = pass b t is_b e

pass_if : (b : Bool) (t : List ℕ) → (b ≡ true → Leads t (drop 1 t)) → Leads t (cond b (drop 1 t) t)
pass_if true t h = h refl
pass_if false t h = here t

-- ---- digits

-- a digit is neither a quotation mark nor a backslash
digit_class : (x : ℕ) → is_ascii_digit x ≡ true → (rest : Bool) → rest ≡ true → clean_byte (class x) rest ≡ true
digit_class x h rest r =
    by_class x (λ k. clean_byte k rest ≡ true)
    (λ e. absurd (false≢true (ap is_ascii_digit (sym e) ∙ h)))
    (λ e. absurd (false≢true (ap is_ascii_digit (sym e) ∙ h)))
    (λ o. refl) (λ s. refl) (λ q b o s. r)

digits_at : (d : Bool) (x : ℕ) (xs : List ℕ) (n : ℕ) → (is_ascii_digit x ≡ d) → Leads xs (drop n xs) → Leads (x ∷ xs) (drop (cond d (1 + n) 0) (x ∷ xs))
digits_at false x xs n is more = here (x ∷ xs)
digits_at true x xs n is more =
    let same : 1 + n ≡ suc n = omega arith in
    λ g. digit_class x is (clean xs) (more (ap (λ k. clean (drop k (x ∷ xs))) (sym same) ∙ g))

digits : (t : List ℕ) → Leads t (drop (prefix_len is_ascii_digit t) t)
digits [] = here []
digits (x ∷ xs) = digits_at (is_ascii_digit x) x xs (prefix_len is_ascii_digit xs) refl (digits xs)

-- ---- the parts of a number, in order

over_digits : (t : List ℕ) → LeadsOn t (after_digits t)
over_digits t = branch (prefix_len is_ascii_digit t == 0) t None (Some (drop (prefix_len is_ascii_digit t) t)) (λ h. tt) (λ h. digits t)

over_minus : (t : List ℕ) → Leads t (after_minus t)
over_minus t = pass_if (head t == 45) t (pass 45 t refl)

over_sign : (t : List ℕ) → Leads t (after_sign t)
over_sign t = pass_if ((head t == 45) || (head t == 43)) t (pass_either 45 43 t refl refl)

over_whole : (t : List ℕ) → LeadsOn t (after_whole t)
over_whole t = branch (head t == 48) t (Some (drop 1 t)) (after_digits t) (pass 48 t refl) (λ h. over_digits t)

over_fraction : (t : List ℕ) → LeadsOn t (after_fraction t)
over_fraction t = branch (head t == 46) t (after_digits (drop 1 t)) (Some t) (λ h. after t (drop 1 t) (after_digits (drop 1 t)) (pass 46 t refl h) (over_digits (drop 1 t))) (λ h. here t)

over_exponent : (t : List ℕ) → LeadsOn t (after_exponent t)
over_exponent t =
    let u = drop 1 t in
    let signed : Leads u (after_sign u) = over_sign u in
    branch ((head t == 101) || (head t == 69)) t (after_digits (after_sign u)) (Some t)
    (λ h. after t (after_sign u) (after_digits (after_sign u)) (λ g. pass_either 101 69 t refl refl h (signed g)) (over_digits (after_sign u)))
    (λ h. here t)

over_number : (t : List ℕ) → LeadsOn t (after_number t)
unfolding after_number
over_number t =
    let u = after_minus t in
    let whole = then t (after_whole u) after_fraction (after t u (after_whole u) (over_minus t) (over_whole u)) over_fraction in
    then t (option_and_then after_fraction (after_whole u)) after_exponent whole over_exponent

-- ---- the end of a word

-- where a word may end, nothing is to be passed over
ended : (t : List ℕ) → ends_word t ≡ true → clean t ≡ true
ended [] h = refl
ended (x ∷ xs) h =
    by_class x (λ k. clean_byte k (clean xs) ≡ true)
    (λ e. absurd (false≢true (ap (λ y. is_operator y || is_space y) (sym e) ∙ h)))
    (λ e. absurd (false≢true (ap (λ y. is_operator y || is_space y) (sym e) ∙ h)))
    (λ o. refl) (λ s. refl) (λ q b o s. absurd (neither (is_operator x) (is_space x) o s h))
  where
    neither : (b c : Bool) → b ≡ false → c ≡ false → (b || c) ≡ true → ⊥
    neither true c o s e = true≢false o
    neither false c o s e = true≢false (sym e ∙ s)

-- a token that is chosen by a test, and `bad` where the test fails
tested : (b : Bool) (k : Token) → is_good (cond b k Token.bad) ≡ true → b ≡ true
tested true k h = refl
tested false k h = absurd (false≢true h)

number_clean : (t : List ℕ) (o : Option (List ℕ)) → LeadsOn t o → is_good (number_before t o) ≡ true → clean t ≡ true
number_clean t None way h = absurd (false≢true h)
number_clean t (Some rest) way h = way (ended rest (tested (ends_word rest) (Token.number (take (length t - length rest) t)) h))

-- a literal whose letters are passed over
literal_clean : (name : List ℕ) (k : Token) (t : List ℕ) → ((rest : List ℕ) → clean (name ++ rest) ≡ clean rest) → is_good (literal name k t) ≡ true → clean t ≡ true
literal_clean name k t letters h =
    let rest = drop (length name) t in
    let found = and_parts _ _ (tested _ k h) in
    let front : name ≡ take (length name) t = (bytes_eq-Decides name (take (length name) t)).0 found.0 in
    let whole : name ++ rest ≡ t = ap (λ l. l ++ rest) front ∙ take-append-drop (length name) t in
    sym (ap clean whole) ∙ letters rest ∙ ended rest found.1

one_of : (b : Bool) (j k : Token) (P : Type 0) → (is_good j ≡ true → P) → (is_good k ≡ true → P) → is_good (cond b j k) ≡ true → P
one_of true j k P f g h = f h
one_of false j k P f g h = g h

-- a good word is clean up to its end
pub clean-word : (t : List ℕ) → is_good (word t) ≡ true → clean t ≡ true
unfolding word
clean-word t =
    one_of (head t == 116) _ _ _ (literal_clean ascii.true_text (Token.boolean true) t (λ rest. refl))
    (one_of (head t == 102) _ _ _ (literal_clean ascii.false_text (Token.boolean false) t (λ rest. refl))
    (one_of (head t == 110) _ _ _ (literal_clean ascii.null_text Token.null t (λ rest. refl)) (number_clean t (after_number t) (over_number t))))
