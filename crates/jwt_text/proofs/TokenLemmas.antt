-- The colons among the lexemes are the keys among the tokens, where no token is bad.
use Rattle.std.proofs.Common.{◌≡◌, ℕ, suc, ◌+◌, Bool, true, false, cond, List, [], ◌∷◌, ◌++◌, refl, ap, ◌∙◌, arith}
use Rattle.std.proofs.lemmas.Bool.{false≢true}
use Rattle.json.specs.Token.{Token, begin_object, end_object, begin_array, end_array, key, string, number, boolean, null, bad}
use Rattle.json.specs.Lex.{Lexeme, token, comma, colon, Place, fresh, after_value, after_comma, after_key, begins_colon, place_token, punctuate}
use Rattle.json.specs.Align.{is_good}
use Rattle.json.specs.Json.{Json, array, object, Items, no_items, item, Members, no_members, member}
use Rattle.json.specs.Json as json
use Rattle.json.specs.Tree.{json_tokens, items_tokens, members_tokens}
use Rattle.jwt_text.specs.NamesWritten.{names_written, items_names_written, members_names_written}
use Rattle.jwt_text.proofs.LexemeLemmas.{all_good, marks}

abbrev pub none_bad : List Token → Bool
none_bad [] = true
none_bad (t ∷ ts) = cond (is_good t) (none_bad ts) false

abbrev count_key : Token → ℕ → ℕ
count_key begin_object n = n
count_key end_object n = n
count_key begin_array n = n
count_key end_array n = n
count_key (key s) n = suc n
count_key (string s) n = n
count_key (number s) n = n
count_key (boolean b) n = n
count_key null n = n
count_key bad n = n

abbrev pub keys_in : List Token → ℕ
keys_in [] = 0
keys_in (t ∷ ts) = count_key t (keys_in ts)

-- after a key its colon is still to come
abbrev with_colon : Place → ℕ → ℕ
with_colon fresh n = n
with_colon after_value n = n
with_colon after_comma n = n
with_colon after_key n = suc n

abbrev Agrees : Place → List Lexeme → List Token → Type 0
Agrees p ls ts = none_bad ts ≡ true → (all_good ls ≡ true) × (marks ls ≡ with_colon p (keys_in ts))

placed : (p : Place) (t : Token) (c : Bool) (ls : List Lexeme) (k : Place → List Token) → ((n : Place) → Agrees n ls (k n)) → Agrees p (token t ∷ ls) (place_token p t c k)
placed fresh begin_object c ls k ih h = ih fresh h
placed fresh end_object c ls k ih h = ih after_value h
placed fresh begin_array c ls k ih h = ih fresh h
placed fresh end_array c ls k ih h = ih after_value h
placed fresh (key s) c ls k ih h = absurd (false≢true h)
placed fresh (string s) true ls k ih h = ih after_key h
placed fresh (string s) false ls k ih h = ih after_value h
placed fresh (number s) c ls k ih h = ih after_value h
placed fresh (boolean b) c ls k ih h = ih after_value h
placed fresh null c ls k ih h = ih after_value h
placed fresh bad c ls k ih h = absurd (false≢true h)
placed after_value begin_object c ls k ih h = absurd (false≢true h)
placed after_value end_object c ls k ih h = ih after_value h
placed after_value begin_array c ls k ih h = absurd (false≢true h)
placed after_value end_array c ls k ih h = ih after_value h
placed after_value (key s) c ls k ih h = absurd (false≢true h)
placed after_value (string s) true ls k ih h = absurd (false≢true h)
placed after_value (string s) false ls k ih h = absurd (false≢true h)
placed after_value (number s) c ls k ih h = absurd (false≢true h)
placed after_value (boolean b) c ls k ih h = absurd (false≢true h)
placed after_value null c ls k ih h = absurd (false≢true h)
placed after_value bad c ls k ih h = absurd (false≢true h)
placed after_comma begin_object c ls k ih h = ih fresh h
placed after_comma end_object c ls k ih h = absurd (false≢true h)
placed after_comma begin_array c ls k ih h = ih fresh h
placed after_comma end_array c ls k ih h = absurd (false≢true h)
placed after_comma (key s) c ls k ih h = absurd (false≢true h)
placed after_comma (string s) true ls k ih h = ih after_key h
placed after_comma (string s) false ls k ih h = ih after_value h
placed after_comma (number s) c ls k ih h = ih after_value h
placed after_comma (boolean b) c ls k ih h = ih after_value h
placed after_comma null c ls k ih h = ih after_value h
placed after_comma bad c ls k ih h = absurd (false≢true h)
placed after_key begin_object c ls k ih h = absurd (false≢true h)
placed after_key end_object c ls k ih h = absurd (false≢true h)
placed after_key begin_array c ls k ih h = absurd (false≢true h)
placed after_key end_array c ls k ih h = absurd (false≢true h)
placed after_key (key s) c ls k ih h = absurd (false≢true h)
placed after_key (string s) true ls k ih h = absurd (false≢true h)
placed after_key (string s) false ls k ih h = absurd (false≢true h)
placed after_key (number s) c ls k ih h = absurd (false≢true h)
placed after_key (boolean b) c ls k ih h = absurd (false≢true h)
placed after_key null c ls k ih h = absurd (false≢true h)
placed after_key bad c ls k ih h = absurd (false≢true h)

pub punctuated : (ls : List Lexeme) (p : Place) → Agrees p ls (punctuate p ls)
unfolding punctuate
punctuated [] fresh h = (refl, refl)
punctuated [] after_value h = (refl, refl)
punctuated [] after_comma h = absurd (false≢true h)
punctuated [] after_key h = absurd (false≢true h)
punctuated (token t ∷ ls) p h = placed p t (begins_colon ls) ls (λ n. punctuate n ls) (λ n g. punctuated ls n g) h
punctuated (comma ∷ ls) fresh h = absurd (false≢true h)
punctuated (comma ∷ ls) after_value h = punctuated ls after_comma h
punctuated (comma ∷ ls) after_comma h = absurd (false≢true h)
punctuated (comma ∷ ls) after_key h = absurd (false≢true h)
punctuated (colon ∷ ls) fresh h = absurd (false≢true h)
punctuated (colon ∷ ls) after_value h = absurd (false≢true h)
punctuated (colon ∷ ls) after_comma h = absurd (false≢true h)
punctuated (colon ∷ ls) after_key h = let r = punctuated ls fresh h in (r.0, ap suc r.1)

-- ---- the tokens of a value

pub none_bad-append : (xs ys : List Token) → none_bad xs ≡ true → none_bad (xs ++ ys) ≡ none_bad ys
none_bad-append [] ys h = refl
none_bad-append (t ∷ xs) ys h = by_good (is_good t) xs ys h (λ g. none_bad-append xs ys g)
  where
    by_good : (b : Bool) (xs ys : List Token) → cond b (none_bad xs) false ≡ true → (none_bad xs ≡ true → none_bad (xs ++ ys) ≡ none_bad ys) → cond b (none_bad (xs ++ ys)) false ≡ none_bad ys
    by_good true xs ys h f = f h
    by_good false xs ys h f = absurd (false≢true h)

one_more : (t : Token) (m n : ℕ) → count_key t (m + n) ≡ count_key t m + n
one_more begin_object m n = refl
one_more end_object m n = refl
one_more begin_array m n = refl
one_more end_array m n = refl
one_more (key s) m n = omega arith
one_more (string s) m n = refl
one_more (number s) m n = refl
one_more (boolean b) m n = refl
one_more null m n = refl
one_more bad m n = refl

keys_in-append : (xs ys : List Token) → keys_in (xs ++ ys) ≡ keys_in xs + keys_in ys
keys_in-append [] ys = omega arith
keys_in-append (t ∷ xs) ys = ap (count_key t) (keys_in-append xs ys) ∙ one_more t (keys_in xs) (keys_in ys)

mutual
  pub none_bad-json : (j : Json) → none_bad (json_tokens j) ≡ true
  none_bad-json json.null = refl
  none_bad-json (json.boolean b) = refl
  none_bad-json (json.number s) = refl
  none_bad-json (json.string s) = refl
  none_bad-json (array js) = none_bad-items js
  none_bad-json (object ms) = none_bad-members ms

  pub none_bad-items : (js : Items) → none_bad (items_tokens js) ≡ true
  none_bad-items no_items = refl
  none_bad-items (item j js) = none_bad-append (json_tokens j) (items_tokens js) (none_bad-json j) ∙ none_bad-items js

  pub none_bad-members : (ms : Members) → none_bad (members_tokens ms) ≡ true
  none_bad-members no_members = refl
  none_bad-members (member k j ms) = none_bad-append (json_tokens j) (members_tokens ms) (none_bad-json j) ∙ none_bad-members ms

mutual
  pub keys_in-json : (j : Json) → keys_in (json_tokens j) ≡ names_written j
  keys_in-json json.null = refl
  keys_in-json (json.boolean b) = refl
  keys_in-json (json.number s) = refl
  keys_in-json (json.string s) = refl
  keys_in-json (array js) = keys_in-items js
  keys_in-json (object ms) = keys_in-members ms

  pub keys_in-items : (js : Items) → keys_in (items_tokens js) ≡ items_names_written js
  keys_in-items no_items = refl
  keys_in-items (item j js) = keys_in-append (json_tokens j) (items_tokens js) ∙ (λ i. keys_in-json j i + keys_in-items js i)

  pub keys_in-members : (ms : Members) → keys_in (members_tokens ms) ≡ members_names_written ms
  keys_in-members no_members = refl
  keys_in-members (member k j ms) = ap suc (keys_in-append (json_tokens j) (members_tokens ms) ∙ (λ i. keys_in-json j i + keys_in-members ms i))
