-- The key set that is written of keys is read as those keys.
use Rattle.std.proofs.Common.{◌≡◌, ℕ, suc, ◌+◌, ◌≤◌, Bool, true, false, cond, List, [], ◌∷◌, ◌++◌, length, Option, Some, None, Ok, refl, sym, ap, ap₂, subst, ◌∙◌, append_assoc, append-nil, arith, codes, IsUtf8, zero-add}
use Rattle.std.proofs.lemmas.Bool.{le-ltb}
use Rattle.std.proofs.lemmas.Str.{IsUtf8-append, IsUtf8-from_is_utf8, is_utf8-from_IsUtf8}
use Rattle.std.specs.Prelude.{nat_lt, option_and_then}
use Rattle.std.specs.Str.{is_utf8}
use Rattle.json.specs.Token as token
use Rattle.json.specs.Token.{Token}
use Rattle.json.specs.Lex.{lex, between, fresh, punctuate, string_token, tokens}
use Rattle.json.specs.Lex as lexed
use Rattle.json.specs.Json as json
use Rattle.json.specs.Tree as tree
use Rattle.json.specs.Print.{ends, escape, escape_byte, print_from, quoted, separator, token_text}
use Rattle.json.proofs.Printed.Strings.{content-escape, lex-escape}
use Rattle.json.proofs.Printed.Tokens.{tokens-print}
use Rattle.json.proofs.Printed.Trees.{ArePrintable-json_tokens, value-json_tokens}
use Rattle.json.proofs.Printed.Utf8.{IsUtf8-are_ascii}
use Rattle.serde_json.specs.Data.{Data, string, object, Members, no_members, member}
use Rattle.serde_json.specs.Read.{max_depth, of_items, of_json, read}
use Rattle.serde_json.specs.Written.{comma_if, compact_text, items_outline, items_text, members_outline, members_text, outline}
use Rattle.serde_json.proofs.Texts.{print-outline}
use Rattle.jwt_text.specs.Members.{elements}
use Rattle.jwt_text.specs.ObjectText.{colons, items_entries, members_entries, object_of, reading}
use Rattle.jwt_mac.specs.Verifying.{KeyOctets}
use Rattle.jwt_keys.specs.KeySets.{key_set_of, keys_from, skips_from}
use Rattle.jwt_jwk.specs.Jwk.{ReadsAsKey, jwk, jwk_text}
use Rattle.jwt_jwk.specs.Sets.{AreRead, IsJwkSet, ReadsAsKeys, jwk_set, jwk_set_text, jwk_texts, jwks, read_keys, set_text}
use Rattle.jwt_jwk.proofs.ReadBack.{AreTexts, ObjectTexts, QuotedTexts, colons_members, is_flat}

abbrev Kid : Type 0
Kid = KeyOctets → Option (List ℕ)

-- ---- its text

items_are : (later : Bool) (kid : Kid) (alg : Option (List ℕ)) (keys : List KeyOctets) → items_text later (jwks kid alg keys) ≡ jwk_texts later kid alg keys ++ 93 ∷ []
items_are later kid alg [] = refl
items_are later kid alg (key ∷ keys) =
    let one = jwk_text (kid key) alg key in
    let others = jwk_texts true kid alg keys in
    ap (λ (u : List ℕ). comma_if later ++ (one ++ u)) (items_are true kid alg keys)
    ∙ sym (append_assoc (comma_if later) (one ++ others) (93 ∷ []) ∙ ap (λ (u : List ℕ). comma_if later ++ u) (append_assoc one others (93 ∷ [])))

-- the texts of JWKs between the brackets are the text of the set
pub set_is : (kid : Kid) (alg : Option (List ℕ)) (keys : List KeyOctets) → set_text (jwk_texts false kid alg keys) ≡ jwk_set_text kid alg keys
unfolding escape_byte
set_is kid alg keys =
    let texts = jwk_texts false kid alg keys in
    ap (λ (u : List ℕ). codes "{\"keys\":[" ++ u) (sym (ap (λ (u : List ℕ). u ++ 125 ∷ []) (items_are false kid alg keys) ∙ append_assoc texts (93 ∷ []) (125 ∷ [])))

-- ---- the value that is read

record IsReadBack (d : Data) : Type 0 where
  numbers : tree.HasNumbers (outline d)
  shallow : tree.depth (outline d) ≤ max_depth
  same : of_json (outline d) ≡ Some d

texts_numbers : (ms : Members) → AreTexts ms → tree.MembersHaveNumbers (members_outline ms)
texts_numbers no_members are = tt
texts_numbers (member k (string s) ms) are = (tt, texts_numbers ms are)
texts_numbers (member k _ ms) are = absurd are

texts_depth : (ms : Members) → AreTexts ms → tree.members_depth (members_outline ms) ≤ 0
texts_depth no_members are = omega arith
texts_depth (member k (string s) ms) are = omega (arith, texts_depth ms are)
texts_depth (member k _ ms) are = absurd are

jwks_numbers : (kid : Kid) (alg : Option (List ℕ)) (keys : List KeyOctets) → tree.ItemsHaveNumbers (items_outline (jwks kid alg keys))
jwks_numbers kid alg [] = tt
jwks_numbers kid alg (key ∷ keys) = (texts_numbers (jwk (kid key) alg key) (is_flat (kid key) alg key).texts, jwks_numbers kid alg keys)

jwks_depth : (kid : Kid) (alg : Option (List ℕ)) (keys : List KeyOctets) → tree.items_depth (items_outline (jwks kid alg keys)) ≤ 1
jwks_depth kid alg [] = omega arith
jwks_depth kid alg (key ∷ keys) =
    omega (arith, texts_depth (jwk (kid key) alg key) (is_flat (kid key) alg key).texts, jwks_depth kid alg keys)

jwks_same : (kid : Kid) (alg : Option (List ℕ)) (keys : List KeyOctets) → of_items (items_outline (jwks kid alg keys)) ≡ Some (jwks kid alg keys)
jwks_same kid alg [] = refl
jwks_same kid alg (key ∷ keys) = rw ((is_flat (kid key) alg key).ordered, jwks_same kid alg keys) refl

set_read_back : (kid : Kid) (alg : Option (List ℕ)) (keys : List KeyOctets) → IsReadBack (object (jwk_set kid alg keys))
set_read_back kid alg keys = record {
  numbers = (jwks_numbers kid alg keys, tt);
  shallow = omega (arith, jwks_depth kid alg keys);
  same = rw (jwks_same kid alg keys) refl;
}

abbrev whole : Option (json.Json × List Token) → Option Data
whole r = option_and_then of_json (option_and_then (λ p. json.if_last p.0 p.1) r)

-- a text with the tokens of a value is read as that value
read_tokens : (d : Data) → IsReadBack d → (text : List ℕ) → tokens text ≡ tree.json_tokens (outline d) → read text ≡ Some d
read_tokens d back text are =
    ap whole (ap (json.value max_depth) (are ∙ sym (append-nil (tree.json_tokens (outline d)))) ∙ value-json_tokens (outline d) max_depth [] back.shallow) ∙ back.same

tokens_of : (d : Data) → IsReadBack d → tokens (compact_text d) ≡ tree.json_tokens (outline d)
tokens_of d back = ap tokens (sym (print-outline d)) ∙ tokens-print (tree.json_tokens (outline d)) (ArePrintable-json_tokens (outline d) back.numbers)

-- ---- a line feed behind it adds no token

abbrev IsText : Token → Type 0
IsText token.begin_object = Unit {0}
IsText token.end_object = Unit {0}
IsText token.begin_array = Unit {0}
IsText token.end_array = Unit {0}
IsText (token.key s) = Unit {0}
IsText (token.string s) = Unit {0}
IsText _ = ⊥

abbrev AreTextTokens : List Token → Type 0
AreTextTokens [] = Unit {0}
AreTextTokens (t ∷ ts) = IsText t × AreTextTokens ts

tokens_append : (ts us : List Token) → AreTextTokens ts → AreTextTokens us → AreTextTokens (ts ++ us)
tokens_append [] us h k = k
tokens_append (t ∷ ts) us h k = (h.0, tokens_append ts us h.1 k)

members_tokens : (ms : Members) → AreTexts ms → AreTextTokens (tree.members_tokens (members_outline ms))
members_tokens no_members are = (tt, tt)
members_tokens (member k (string s) ms) are = (tt, (tt, members_tokens ms are))
members_tokens (member k _ ms) are = absurd are

jwks_tokens : (kid : Kid) (alg : Option (List ℕ)) (keys : List KeyOctets) → AreTextTokens (tree.items_tokens (items_outline (jwks kid alg keys)))
jwks_tokens kid alg [] = (tt, tt)
jwks_tokens kid alg (key ∷ keys) =
    (tt, tokens_append _ _ (members_tokens (jwk (kid key) alg key) (is_flat (kid key) alg key).texts) (jwks_tokens kid alg keys))

set_tokens : (kid : Kid) (alg : Option (List ℕ)) (keys : List KeyOctets) → AreTextTokens (tree.json_tokens (outline (object (jwk_set kid alg keys))))
set_tokens kid alg keys = (tt, (tt, (tt, tokens_append _ _ (jwks_tokens kid alg keys) (tt, tt))))

quoted_then : (s rest : List ℕ) → lex between (quoted s ++ rest) ≡ lexed.token (token.string s) ∷ lex between rest
unfolding lex
quoted_then s rest =
    ap (λ (l : List ℕ). lex between (34 ∷ l)) (append_assoc (escape s) (34 ∷ []) rest)
    ∙ ap₂ (λ o l. lexed.token (string_token o) ∷ l) (content-escape s rest) (lex-escape s rest)

behind_token : (t : Token) → IsText t → (a b : List ℕ) → lex between a ≡ lex between b → lex between (token_text t ++ a) ≡ lex between (token_text t ++ b)
unfolding lex
behind_token token.begin_object is a b h = ap (λ l. lexed.token token.begin_object ∷ l) h
behind_token token.end_object is a b h = ap (λ l. lexed.token token.end_object ∷ l) h
behind_token token.begin_array is a b h = ap (λ l. lexed.token token.begin_array ∷ l) h
behind_token token.end_array is a b h = ap (λ l. lexed.token token.end_array ∷ l) h
behind_token (token.key s) is a b h =
    ap (lex between) (append_assoc (quoted s) (58 ∷ []) a) ∙ quoted_then s (58 ∷ a) ∙ ap (λ l. lexed.token (token.string s) ∷ lexed.colon ∷ l) h
    ∙ sym (ap (lex between) (append_assoc (quoted s) (58 ∷ []) b) ∙ quoted_then s (58 ∷ b))
behind_token (token.string s) is a b h = quoted_then s a ∙ ap (λ l. lexed.token (token.string s) ∷ l) h ∙ sym (quoted_then s b)
behind_token _ is a b h = absurd is

behind_comma : (c : Bool) (a b : List ℕ) → lex between a ≡ lex between b → lex between (cond c (44 ∷ []) [] ++ a) ≡ lex between (cond c (44 ∷ []) [] ++ b)
unfolding lex
behind_comma true a b h = ap (λ l. lexed.comma ∷ l) h
behind_comma false a b h = h

regroup : (a b c d : List ℕ) → (a ++ (b ++ c)) ++ d ≡ a ++ (b ++ (c ++ d))
regroup a b c d = append_assoc a (b ++ c) d ∙ ap (λ (u : List ℕ). a ++ u) (append_assoc b c d)

line_feed : (c : Bool) (ts : List Token) → AreTextTokens ts → lex between (print_from c ts ++ 10 ∷ []) ≡ lex between (print_from c ts)
unfolding lex print_from
line_feed c [] are = refl
line_feed c (t ∷ ts) are =
    let more = print_from (ends t) ts in
    ap (lex between) (regroup (separator c t) (token_text t) more (10 ∷ []))
    ∙ behind_comma _ (token_text t ++ (more ++ 10 ∷ [])) (token_text t ++ more) (behind_token t are.0 (more ++ 10 ∷ []) more (line_feed (ends t) ts are.1))

tokens_of_line : (kid : Kid) (alg : Option (List ℕ)) (keys : List KeyOctets) → tokens (jwk_set_text kid alg keys ++ 10 ∷ []) ≡ tokens (jwk_set_text kid alg keys)
tokens_of_line kid alg keys =
    let d = object (jwk_set kid alg keys) in
    let ts = tree.json_tokens (outline d) in
    ap (λ (u : List ℕ). tokens (u ++ 10 ∷ [])) (sym (print-outline d)) ∙ ap (punctuate fresh) (line_feed false ts (set_tokens kid alg keys)) ∙ ap tokens (print-outline d)

-- ---- UTF-8

read_if : {A : Type 0} (b : Bool) (r : Option A) (x : A) → cond b r None ≡ Some x → b ≡ true
read_if true r x h = refl
read_if false r x h = cc

one_utf8 : ObjectTexts → (kid alg : Option (List ℕ)) (key : KeyOctets) (text : List ℕ) → ReadsAsKey kid alg key text → IsUtf8 text
one_utf8 objects kid alg key text reads = IsUtf8-from_is_utf8 text (read_if (is_utf8 text) (read text) _ ((objects text (jwk kid alg key)).0 reads.0).0)

comma_utf8 : (later : Bool) → IsUtf8 (comma_if later)
comma_utf8 true = IsUtf8-are_ascii (44 ∷ []) refl
comma_utf8 false = IsUtf8-are_ascii [] refl

texts_utf8 : ObjectTexts → (later : Bool) (kid : Kid) (alg : Option (List ℕ)) (keys : List KeyOctets) → AreRead kid alg keys → IsUtf8 (jwk_texts later kid alg keys)
texts_utf8 objects later kid alg [] each = IsUtf8-are_ascii [] refl
texts_utf8 objects later kid alg (key ∷ keys) each =
    let one = jwk_text (kid key) alg key in
    let others = jwk_texts true kid alg keys in
    IsUtf8-append (comma_if later) (one ++ others) (comma_utf8 later)
    (IsUtf8-append one others (one_utf8 objects (kid key) alg key one each.0) (texts_utf8 objects true kid alg keys each.1))

set_utf8 : ObjectTexts → (kid : Kid) (alg : Option (List ℕ)) (keys : List KeyOctets) → AreRead kid alg keys → IsUtf8 (jwk_set_text kid alg keys)
set_utf8 objects kid alg keys each =
    let texts = jwk_texts false kid alg keys in
    subst IsUtf8 (set_is kid alg keys) (IsUtf8-append (codes "{\"keys\":[") (texts ++ codes "]}") (IsUtf8-are_ascii _ refl)
    (IsUtf8-append texts (codes "]}") (texts_utf8 objects false kid alg keys each) (IsUtf8-are_ascii _ refl)))

reading_is : (text : List ℕ) (d : Data) → IsUtf8 text → read text ≡ Some d → reading text ≡ Some d
reading_is text d utf8 is = rw (is_utf8-from_IsUtf8 text utf8) is

-- ---- its colons

one_more_item : (all more a b rest : ℕ) → all ≡ a + more → more ≡ b + rest → all ≡ a + b + rest
one_more_item all more a b rest e h = omega (arith, e, h)

jwks_colons : QuotedTexts → (later : Bool) (kid : Kid) (alg : Option (List ℕ)) (keys : List KeyOctets) (rest : List ℕ)
    → colons (items_text later (jwks kid alg keys) ++ rest) ≡ items_entries (jwks kid alg keys) + colons rest
jwks_colons law later kid alg [] rest = sym (zero-add (colons rest))
jwks_colons law false kid alg (key ∷ keys) rest =
    let ms = jwk (kid key) alg key in
    let others = items_text true (jwks kid alg keys) in
    one_more_item _ _ _ _ _ (ap colons (append_assoc (members_text false ms) others rest) ∙ colons_members law false ms (is_flat (kid key) alg key).texts (others ++ rest)) (jwks_colons law true kid alg keys rest)
jwks_colons law true kid alg (key ∷ keys) rest =
    let ms = jwk (kid key) alg key in
    let others = items_text true (jwks kid alg keys) in
    one_more_item _ _ _ _ _ (ap colons (append_assoc (members_text false ms) others rest) ∙ colons_members law false ms (is_flat (kid key) alg key).texts (others ++ rest)) (jwks_colons law true kid alg keys rest)

set_colons : QuotedTexts → (kid : Kid) (alg : Option (List ℕ)) (keys : List KeyOctets) (rest : List ℕ) → colons rest ≡ 0
    → colons (jwk_set_text kid alg keys ++ rest) ≡ members_entries (jwk_set kid alg keys)
set_colons law kid alg keys rest none =
    let inner = items_text false (jwks kid alg keys) in
    ap colons (append_assoc (quoted (codes "keys")) (58 ∷ (91 ∷ inner ++ 125 ∷ [])) rest) ∙ law (codes "keys") (58 ∷ ((91 ∷ inner ++ 125 ∷ []) ++ rest))
    ∙ ap suc (ap colons (append_assoc inner (125 ∷ []) rest) ∙ jwks_colons law false kid alg keys (125 ∷ rest) ∙ ap (λ (n : ℕ). items_entries (jwks kid alg keys) + n) none)

-- ---- its keys

count_is : (kid : Kid) (alg : Option (List ℕ)) (keys : List KeyOctets) → length (elements (jwks kid alg keys)) ≡ length keys
count_is kid alg [] = refl
count_is kid alg (key ∷ keys) = ap suc (count_is kid alg keys)

keys_are : (kid : Kid) (alg : Option (List ℕ)) (keys : List KeyOctets) (place : ℕ) → AreRead kid alg keys → keys_from place (elements (jwks kid alg keys)) ≡ read_keys kid alg place keys
keys_are kid alg [] place each = refl
keys_are kid alg (key ∷ keys) place each = rw (each.0.1 place, keys_are kid alg keys (suc place) each.1) refl

none_skipped : (kid : Kid) (alg : Option (List ℕ)) (keys : List KeyOctets) (place : ℕ) → AreRead kid alg keys → skips_from place (elements (jwks kid alg keys)) ≡ []
none_skipped kid alg [] place each = refl
none_skipped kid alg (key ∷ keys) place each = rw (each.0.1 place, none_skipped kid alg keys (suc place) each.1) refl

-- ---- all of it

not_above : (n most : ℕ) → n ≤ most → nat_lt most n ≡ false
not_above n most few = le-ltb most n few

read_as : (kid : Kid) (alg : Option (List ℕ)) (keys : List KeyOctets) (text : List ℕ) → length keys ≤ 1024 → AreRead kid alg keys → object_of text ≡ Ok (jwk_set kid alg keys) → ReadsAsKeys kid alg keys text
unfolding key_set_of
read_as kid alg keys text few each is short =
    rw (not_above _ _ short, is, count_is kid alg keys, not_above _ _ few, keys_are kid alg keys 0 each, none_skipped kid alg keys 0 each) refl

pub set_of_keys : QuotedTexts → ObjectTexts → (kid : Kid) (alg : Option (List ℕ)) (keys : List KeyOctets) (text : List ℕ) → length keys ≤ 1024 → AreRead kid alg keys
    → text ≡ jwk_set_text kid alg keys → IsJwkSet kid alg keys text
set_of_keys quotes objects kid alg keys text few each is =
    let ms = jwk_set kid alg keys in
    let back = set_read_back kid alg keys in
    let utf8 = set_utf8 objects kid alg keys each in
    let alone = jwk_set_text kid alg keys in
    let line = alone ++ 10 ∷ [] in
    let read_alone = reading_is alone (object ms) utf8 (read_tokens (object ms) back alone (tokens_of (object ms) back)) in
    let read_line = reading_is line (object ms) (IsUtf8-append alone (10 ∷ []) utf8 (IsUtf8-are_ascii _ refl)) (read_tokens (object ms) back line (tokens_of_line kid alg keys ∙ tokens_of (object ms) back)) in
    let counted = ap colons (sym (append-nil alone)) ∙ set_colons quotes kid alg keys [] refl in
    let whole = (objects alone ms).1 (read_alone, counted) in
    let with_feed = (objects line ms).1 (read_line, set_colons quotes kid alg keys (10 ∷ []) refl) in
    record {
      is = is;
      each = each;
      read = subst (λ (t : List ℕ). ReadsAsKeys kid alg keys t) (sym is) (read_as kid alg keys alone few each whole);
      line = subst (λ (t : List ℕ). ReadsAsKeys kid alg keys (t ++ codes "\n")) (sym is) (read_as kid alg keys line few each with_feed);
    }
