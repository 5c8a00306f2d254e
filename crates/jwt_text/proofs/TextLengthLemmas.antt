-- The names and texts in a value are together no longer than the text that it is read of.
use Rattle.std.proofs.Common.{◌≡◌, ◌≢◌, ℕ, suc, ◌+◌, ◌-◌, ◌≤◌, Bool, true, false, ◌==◌, ◌&&◌, cond, List, [], ◌∷◌, ◌++◌, length, take, drop, Option, Some, None, option_map, option_and_then, Ordering, Less, Equal, Greater, nat_cmp, if◌then◌else◌, nat_eq, refl, sym, ap, ◌∙◌, subst, arith, append-nil}
use Rattle.std.specs.Prelude.{⊤}
use Rattle.std.specs.List.{starts_with}
use Rattle.std.specs.Str.{is_utf8}
use Rattle.std.specs.Cmp.Lexicographic.{slice_cmp}
use Rattle.std.specs.Ordering.{match_ordering}
use Rattle.json.specs.Ascii as ascii
use Rattle.json.specs.Token.{Token, begin_object, end_object, begin_array, end_array, key, string, number, boolean, null, bad}
use Rattle.json.specs.Text.{content, plain}
use Rattle.json.specs.Word.{head, ends_word, after_number, number_before, literal, word}
use Rattle.json.specs.Lex.{Lexeme, token, comma, colon, Class, quote, backslash, operator, space, other, class, Mode, between, in_word, in_string, in_escape, operator_lexeme, string_token, lex_byte, lex, Place, fresh, after_value, after_comma, after_key, begins_colon, if_allowed, place_token, punctuate, tokens}
use Rattle.json.specs.Align.{span_byte, span}
use Rattle.json.specs.Json as json
use Rattle.json.specs.Tree.{json_tokens, items_tokens, members_tokens}
use Rattle.json.proofs.Unique.Spelling.{value-json_tokens_back}
use Rattle.serde_json.specs.Data as value
use Rattle.serde_json.specs.Find.{get_member}
use Rattle.serde_json.specs.Read.{max_depth, number_of, of_json, of_items, of_members, read}
use Rattle.jwt_text.specs.ObjectText.{reading}
use Rattle.jwt_text.proofs.SortedLemmas.{same_name}
use Rattle.jwt_text.proofs.ContentLemmas.{AtMost, content-span}
use Rattle.jwt_text.specs.TextLengths.{text_octets, items_text_octets, members_text_octets}

-- ---- lexemes

abbrev weigh : Token → ℕ
weigh begin_object = 0
weigh end_object = 0
weigh begin_array = 0
weigh end_array = 0
weigh (key s) = length s
weigh (string s) = length s
weigh (number s) = 0
weigh (boolean b) = 0
weigh null = 0
weigh bad = 0

abbrev weigh_lexeme : Lexeme → ℕ
weigh_lexeme (token t) = weigh t
weigh_lexeme comma = 0
weigh_lexeme colon = 0

abbrev weight : List Lexeme → ℕ
weight [] = 0
weight (l ∷ ls) = weigh_lexeme l + weight ls

either : (b : Bool) (t u : Token) → weigh t ≡ 0 → weigh u ≡ 0 → weigh (cond b t u) ≡ 0
either true t u p q = p
either false t u p q = q

number_weighs : (t : List ℕ) (o : Option (List ℕ)) → weigh (number_before t o) ≡ 0
number_weighs t None = refl
number_weighs t (Some rest) = either (ends_word rest) (number (take (length t - length rest) t)) bad refl refl

literal_weighs : (name : List ℕ) (u : Token) (t : List ℕ) → weigh u ≡ 0 → weigh (literal name u t) ≡ 0
literal_weighs name u t p = either (starts_with nat_eq t name && ends_word (drop (length name) t)) u bad p refl

word_weighs : (t : List ℕ) → weigh (word t) ≡ 0
unfolding word
word_weighs t =
    either (head t == ascii.lower_t) (literal ascii.true_text (boolean true) t) _ (literal_weighs ascii.true_text (boolean true) t refl)
    (either (head t == ascii.lower_f) (literal ascii.false_text (boolean false) t) _ (literal_weighs ascii.false_text (boolean false) t refl)
    (either (head t == ascii.lower_n) (literal ascii.null_text null t) _ (literal_weighs ascii.null_text null t refl) (number_weighs t (after_number t))))

choose : (b : Bool) (l m : Lexeme) → weigh_lexeme l ≡ 0 → weigh_lexeme m ≡ 0 → weigh_lexeme (cond b l m) ≡ 0
choose true l m p q = p
choose false l m p q = q

operator_weighs : (x : ℕ) → weigh_lexeme (operator_lexeme x) ≡ 0
operator_weighs x =
    choose (x == ascii.open_brace) (token begin_object) _ refl (choose (x == ascii.close_brace) (token end_object) _ refl
    (choose (x == ascii.open_bracket) (token begin_array) _ refl (choose (x == ascii.close_bracket) (token end_array) _ refl (choose (x == ascii.comma) comma colon refl refl))))

string_weighs : (n : ℕ) (o : Option (List ℕ)) → AtMost n o → weigh (string_token o) ≤ n
string_weighs n None h = omega arith
string_weighs n (Some s) h = h

-- in each mode the lexemes to come, with what is passed over first, are no longer than what is left
abbrev Fits : Mode → List ℕ → Type 0
Fits m t = weight (lex m t) + span m t ≤ length t

step : (m : Mode) (c : Class) (x : ℕ) (xs : List ℕ) (k : Mode → List Lexeme) (s : Mode → ℕ) (n : ℕ) → ((next : Mode) → weight (k next) + s next ≤ n)
    → s between ≡ 0 → s in_word ≡ 0 → weigh (string_token (content plain xs)) ≤ s in_string
    → weight (lex_byte m c x xs k) + span_byte m c s ≤ suc n
step between quote x xs k s n h b w q = omega (arith, h in_string, q)
step between backslash x xs k s n h b w q = omega (arith, h in_word)
step between operator x xs k s n h b w q = omega (arith, h between, operator_weighs x)
step between space x xs k s n h b w q = omega (arith, h between)
step between other x xs k s n h b w q = omega (arith, h in_word, word_weighs (x ∷ xs))
step in_word quote x xs k s n h b w q = omega (arith, h in_word)
step in_word backslash x xs k s n h b w q = omega (arith, h in_word)
step in_word operator x xs k s n h b w q = omega (arith, h between, operator_weighs x)
step in_word space x xs k s n h b w q = omega (arith, h between)
step in_word other x xs k s n h b w q = omega (arith, h in_word)
step in_string quote x xs k s n h b w q = omega (arith, h between)
step in_string backslash x xs k s n h b w q = omega (arith, h in_escape)
step in_string operator x xs k s n h b w q = omega (arith, h in_string)
step in_string space x xs k s n h b w q = omega (arith, h in_string)
step in_string other x xs k s n h b w q = omega (arith, h in_string)
step in_escape c x xs k s n h b w q = omega (arith, h in_string)

between_spans : (t : List ℕ) → span between t ≡ 0
unfolding span
between_spans [] = refl
between_spans (x ∷ xs) = refl

word_spans : (t : List ℕ) → span in_word t ≡ 0
unfolding span
word_spans [] = refl
word_spans (x ∷ xs) = refl

lexed : (t : List ℕ) (m : Mode) → Fits m t
unfolding lex span
lexed [] m = omega arith
lexed (x ∷ xs) m =
    step m (class x) x xs (λ n. lex n xs) (λ n. span n xs) (length xs) (λ n. lexed xs n) (between_spans xs) (word_spans xs) (string_weighs (span in_string xs) (content plain xs) (content-span plain xs))

-- ---- tokens

abbrev weights : List Token → ℕ
weights [] = 0
weights (t ∷ ts) = weigh t + weights ts

if_placed : (b : Bool) (t : Token) (k : Place → List Token) (next : Place) (n : ℕ) → weights (k next) ≤ n → weights (if_allowed b t k next) ≤ weigh t + n
if_placed true t k next n h = omega arith
if_placed false t k next n h = omega arith

placed : (p : Place) (t : Token) (c : Bool) (k : Place → List Token) (n : ℕ) → ((next : Place) → weights (k next) ≤ n) → weights (place_token p t c k) ≤ weigh t + n
placed p begin_object c k n h = if_placed _ begin_object k fresh n (h fresh)
placed p end_object c k n h = if_placed _ end_object k after_value n (h after_value)
placed p begin_array c k n h = if_placed _ begin_array k fresh n (h fresh)
placed p end_array c k n h = if_placed _ end_array k after_value n (h after_value)
placed p (key s) c k n h = omega arith
placed p (string s) true k n h = if_placed _ (key s) k after_key n (h after_key)
placed p (string s) false k n h = if_placed _ (string s) k after_value n (h after_value)
placed p (number s) c k n h = if_placed _ (number s) k after_value n (h after_value)
placed p (boolean b) c k n h = if_placed _ (boolean b) k after_value n (h after_value)
placed p null c k n h = if_placed _ null k after_value n (h after_value)
placed p bad c k n h = omega arith

punctuated : (ls : List Lexeme) (p : Place) → weights (punctuate p ls) ≤ weight ls
unfolding punctuate
punctuated [] fresh = omega arith
punctuated [] after_value = omega arith
punctuated [] after_comma = omega arith
punctuated [] after_key = omega arith
punctuated (token t ∷ ls) p = placed p t (begins_colon ls) (λ n. punctuate n ls) (weight ls) (λ n. punctuated ls n)
punctuated (comma ∷ ls) fresh = omega arith
punctuated (comma ∷ ls) after_value = omega (arith, punctuated ls after_comma)
punctuated (comma ∷ ls) after_comma = omega arith
punctuated (comma ∷ ls) after_key = omega arith
punctuated (colon ∷ ls) fresh = omega arith
punctuated (colon ∷ ls) after_value = omega arith
punctuated (colon ∷ ls) after_comma = omega arith
punctuated (colon ∷ ls) after_key = omega (arith, punctuated ls fresh)

tokens_fit : (t : List ℕ) → weights (tokens t) ≤ length t
tokens_fit t = omega (arith, punctuated (lex between t) fresh, lexed t between, between_spans t)

-- ---- the value that is written

weights-append : (ts us : List Token) → weights (ts ++ us) ≡ weights ts + weights us
weights-append [] us = omega arith
weights-append (t ∷ ts) us = omega (arith, weights-append ts us)

abbrev mutual
  json_octets : json.Json → ℕ
  json_octets json.null = 0
  json_octets (json.boolean b) = 0
  json_octets (json.number s) = 0
  json_octets (json.string s) = length s
  json_octets (json.array js) = json_items_octets js
  json_octets (json.object ms) = json_members_octets ms

  json_items_octets : json.Items → ℕ
  json_items_octets json.no_items = 0
  json_items_octets (json.item j js) = json_octets j + json_items_octets js

  json_members_octets : json.Members → ℕ
  json_members_octets json.no_members = 0
  json_members_octets (json.member k j ms) = length k + json_octets j + json_members_octets ms

mutual
  weighs-json : (j : json.Json) → weights (json_tokens j) ≡ json_octets j
  weighs-json json.null = refl
  weighs-json (json.boolean b) = refl
  weighs-json (json.number s) = refl
  weighs-json (json.string s) = omega arith
  weighs-json (json.array js) = omega (arith, weighs-items js)
  weighs-json (json.object ms) = omega (arith, weighs-members ms)

  weighs-items : (js : json.Items) → weights (items_tokens js) ≡ json_items_octets js
  weighs-items json.no_items = refl
  weighs-items (json.item j js) = omega (arith, weights-append (json_tokens j) (items_tokens js), weighs-json j, weighs-items js)

  weighs-members : (ms : json.Members) → weights (members_tokens ms) ≡ json_members_octets ms
  weighs-members json.no_members = refl
  weighs-members (json.member k j ms) = omega (arith, weights-append (json_tokens j) (members_tokens ms), weighs-json j, weighs-members ms)

-- ---- what is read of it: of a name that stands twice one member is kept

put_at : (o : Ordering) (k l : List ℕ) (d e : value.Data) (ms : value.Members) → members_text_octets (value.put k d ms) ≤ length k + text_octets d + members_text_octets ms
    → members_text_octets (match_ordering o (value.member k d (value.member l e ms)) (value.member l d ms) (value.member l e (value.put k d ms)))
    ≤ length k + text_octets d + (length l + text_octets e + members_text_octets ms)
put_at Less k l d e ms h = omega arith
put_at Equal k l d e ms h = omega arith
put_at Greater k l d e ms h = omega arith

put_fits : (k : List ℕ) (d : value.Data) (ms : value.Members) → members_text_octets (value.put k d ms) ≤ length k + text_octets d + members_text_octets ms
put_fits k d value.no_members = omega arith
put_fits k d (value.member l e ms) = put_at (slice_cmp nat_cmp k l) k l d e ms (put_fits k d ms)

abbrev Within : {A : Type 0} → (A → ℕ) → Option A → ℕ → Type 0
Within size None n = ⊤
Within size (Some x) n = size x ≤ n

mapped : {A B : Type 0} (size : A → ℕ) (measure : B → ℕ) (f : A → B) (o : Option A) (n m : ℕ) → ((x : A) → measure (f x) ≡ size x + m) → Within size o n → Within measure (option_map f o) (n + m)
mapped size measure f None n m same h = tt
mapped size measure f (Some x) n m same h = omega (arith, same x)

followed : {A B : Type 0} (size : A → ℕ) (measure : B → ℕ) (f : A → Option B) (o : Option A) (n m : ℕ) → Within size o n → ((x : A) → size x ≤ n → Within measure (f x) m) → Within measure (option_and_then f o) m
followed size measure f None n m h more = tt
followed size measure f (Some x) n m h more = more x h

wider : {A : Type 0} (size : A → ℕ) (o : Option A) (n m : ℕ) → Within size o n → n ≤ m → Within size o m
wider size None n m h le = tt
wider size (Some x) n m h le = omega arith

number_fits : (o : Option value.Num) → Within text_octets (option_map value.number o) 0
number_fits None = tt
number_fits (Some n) = omega arith

mutual
  kept : (j : json.Json) → Within text_octets (of_json j) (json_octets j)
  kept json.null = omega arith
  kept (json.boolean b) = omega arith
  kept (json.number s) = number_fits (number_of s)
  kept (json.string s) = omega arith
  kept (json.array js) = wider text_octets _ _ _ (mapped items_text_octets text_octets value.array (of_items js) (json_items_octets js) 0 (λ x. omega arith) (kept_items js)) (omega arith)
  kept (json.object ms) =
      wider text_octets _ _ _ (mapped members_text_octets text_octets value.object (of_members ms value.no_members) (json_members_octets ms + 0) 0 (λ x. omega arith) (kept_members ms value.no_members)) (omega arith)

  kept_items : (js : json.Items) → Within items_text_octets (of_items js) (json_items_octets js)
  kept_items json.no_items = omega arith
  kept_items (json.item j js) =
      followed text_octets items_text_octets (λ d. option_map (value.item d) (of_items js)) (of_json j) (json_octets j) _ (kept j)
      (λ d h. wider items_text_octets _ _ _ (mapped items_text_octets items_text_octets (value.item d) (of_items js) (json_items_octets js) (text_octets d) (λ x. omega arith) (kept_items js)) (omega arith))

  kept_members : (ms : json.Members) (found : value.Members) → Within members_text_octets (of_members ms found) (json_members_octets ms + members_text_octets found)
  kept_members json.no_members found = omega arith
  kept_members (json.member k j ms) found =
      followed text_octets members_text_octets (λ d. of_members ms (value.put k d found)) (of_json j) (json_octets j) _ (kept j)
      (λ d h. wider members_text_octets _ _ _ (kept_members ms (value.put k d found)) (omega (arith, put_fits k d found)))

-- ---- the whole

last : (o : Option (json.Json × List Token)) (d : value.Data) → option_and_then of_json (option_and_then (λ p. json.if_last p.0 p.1) o) ≡ Some d → (j : json.Json) × (o ≡ Some (j, [])) × (of_json j ≡ Some d)
last None d e = absurd cc
last (Some (j, [])) d e = (j, refl, e)
last (Some (j, t ∷ ts)) d e = absurd cc

is_within : (o : Option value.Data) (d : value.Data) (n : ℕ) → Within text_octets o n → o ≡ Some d → text_octets d ≤ n
is_within o d n h e = subst (λ p. Within text_octets p n) e h

read_fits : (t : List ℕ) (d : value.Data) → read t ≡ Some d → text_octets d ≤ length t
read_fits t d e =
    let v = last (json.value max_depth (tokens t)) d e in
    let spelled : tokens t ≡ json_tokens v.0 = value-json_tokens_back max_depth (tokens t) [] v.0 v.1 ∙ append-nil (json_tokens v.0) in
    omega (arith, is_within (of_json v.0) d (json_octets v.0) (kept v.0) v.2, weighs-json v.0, ap weights spelled, tokens_fit t)

reading_at : (b : Bool) (t : List ℕ) (d : value.Data) → (if b then read t else None) ≡ Some d → read t ≡ Some d
reading_at true t d e = e
reading_at false t d e = absurd cc

pub texts_fit : (t : List ℕ) (d : value.Data) → reading t ≡ Some d → text_octets d ≤ length t
texts_fit t d e = read_fits t d (reading_at (is_utf8 t) t d e)

-- ---- members

one_at : (o : Ordering) (k l : List ℕ) (x d : value.Data) (ms : value.Members) → (o ≡ Equal → k ≡ l) → (get_member k ms ≡ Some d → length k + text_octets d ≤ members_text_octets ms)
    → match_ordering o (get_member k ms) (Some x) (get_member k ms) ≡ Some d → length k + text_octets d ≤ length l + text_octets x + members_text_octets ms
one_at Less k l x d ms same more e = omega (arith, more e)
one_at Equal k l x d ms same more e = let here : x ≡ d = cc in omega (arith, ap length (same refl), ap text_octets here)
one_at Greater k l x d ms same more e = omega (arith, more e)

pub member_fits : (k : List ℕ) (ms : value.Members) (d : value.Data) → get_member k ms ≡ Some d → length k + text_octets d ≤ members_text_octets ms
member_fits k value.no_members d e = absurd cc
member_fits k (value.member l x ms) d e = one_at (slice_cmp nat_cmp k l) k l x d ms (same_name k l) (member_fits k ms d) e

module _ (a b l : List ℕ) (x d f : value.Data) (ms : value.Members) (apart : a ≢ b) where
  abbrev Fit : ℕ → Type 0
  Fit n = length a + text_octets d + (length b + text_octets f) ≤ n

  here : x ≡ d → a ≡ l → get_member b ms ≡ Some f → Fit (length l + text_octets x + members_text_octets ms)
  here e same g = omega (arith, ap length same, ap text_octets e, member_fits b ms f g)

  there : x ≡ f → b ≡ l → get_member a ms ≡ Some d → Fit (length l + text_octets x + members_text_octets ms)
  there e same g = omega (arith, ap length same, ap text_octets e, member_fits a ms d g)

  two_at : (o p : Ordering) → (o ≡ Equal → a ≡ l) → (p ≡ Equal → b ≡ l) → (get_member a ms ≡ Some d → get_member b ms ≡ Some f → Fit (members_text_octets ms))
      → match_ordering o (get_member a ms) (Some x) (get_member a ms) ≡ Some d → match_ordering p (get_member b ms) (Some x) (get_member b ms) ≡ Some f
      → Fit (length l + text_octets x + members_text_octets ms)
  two_at Less Less at_a at_b more e g = omega (arith, more e g)
  two_at Less Equal at_a at_b more e g = there (cc) (at_b refl) e
  two_at Less Greater at_a at_b more e g = omega (arith, more e g)
  two_at Equal Less at_a at_b more e g = here (cc) (at_a refl) g
  two_at Equal Equal at_a at_b more e g = absurd (apart (at_a refl ∙ sym (at_b refl)))
  two_at Equal Greater at_a at_b more e g = here (cc) (at_a refl) g
  two_at Greater Less at_a at_b more e g = omega (arith, more e g)
  two_at Greater Equal at_a at_b more e g = there (cc) (at_b refl) e
  two_at Greater Greater at_a at_b more e g = omega (arith, more e g)

pub members_fit : (a b : List ℕ) (ms : value.Members) (d f : value.Data) → a ≢ b → get_member a ms ≡ Some d → get_member b ms ≡ Some f
    → length a + text_octets d + (length b + text_octets f) ≤ members_text_octets ms
members_fit a b value.no_members d f apart e g = absurd cc
members_fit a b (value.member l x ms) d f apart e g =
    two_at a b l x d f ms apart (slice_cmp nat_cmp a l) (slice_cmp nat_cmp b l) (same_name a l) (same_name b l) (members_fit a b ms d f apart) e g
