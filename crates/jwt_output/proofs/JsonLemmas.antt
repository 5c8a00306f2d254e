-- The tokens of objects and lists that are written piece by piece.
use Rattle.std.proofs.Common.{rules, ◌≡◌, ◌∙◌, ap, sym, subst, refl, ℕ, zero, suc, Bool, true, false, Option, Some, None, IfSome, option_map, List, [], ◌∷◌, ◌++◌, length, drop, ◌≤◌, map, ◌+◌, append_assoc, append-nil}
use Rattle.std.proofs.lemmas.List.{drop_all}
use Rattle.std.proofs.lemmas.Str.{IsUtf8-from_is_utf8, is_utf8-from_IsUtf8}
use Rattle.std.specs.Prelude.{cond}
use Rattle.std.specs.List.{flat_map}
use Rattle.std.specs.Str.{IsUtf8, bytes_eq, is_utf8}
use Rattle.json.specs.Json.{Json, document, null, boolean, number, string, array, object, Items, no_items, item, Members, no_members, member}
use Rattle.json.specs.Find.{at, get, get_item, get_member, later_or}
use Rattle.json.specs.Print.{print}
use Rattle.json.specs.Token.{Token}
use Rattle.json.specs.Value.{value_view}
use Rattle.json.specs.declared.value.Value.{Null, the_lemmas}
use Rattle.std.specs.Global.{Global}
use Rattle.json.specs.Tree.{HasNumbers, ItemsHaveNumbers, MembersHaveNumbers, items_tokens, json_tokens, members_tokens}
use Rattle.jwt_output.specs.Json.{Named, items_in, json_line, members_in, object_of_members, json_value}
use Rattle.jwt_output.specs.JsonTokens.{named_tokens}

pub members_written : (ms : List Named) → members_tokens (members_in ms) ≡ named_tokens ms ++ Token.end_object ∷ []
members_written [] = refl
members_written (m ∷ ms) =
    ap (λ ts. Token.key m.0 ∷ (json_tokens m.1 ++ ts)) (members_written ms)
    ∙ ap (λ ts. Token.key m.0 ∷ ts) (sym (append_assoc (json_tokens m.1) (named_tokens ms) (Token.end_object ∷ [])))

pub named_append : (xs ys : List Named) → named_tokens (xs ++ ys) ≡ named_tokens xs ++ named_tokens ys
named_append [] ys = refl
named_append (x ∷ xs) ys =
    ap (λ ts. Token.key x.0 ∷ (json_tokens x.1 ++ ts)) (named_append xs ys)
    ∙ ap (λ ts. Token.key x.0 ∷ ts) (sym (append_assoc (json_tokens x.1) (named_tokens xs) (named_tokens ys)))

pub object_written : (ms : List Named) → json_tokens (object_of_members ms) ≡ (Token.begin_object ∷ [] ++ named_tokens ms) ++ Token.end_object ∷ []
object_written ms = ap (λ ts. Token.begin_object ∷ ts) (members_written ms)

pub items_written : {A : Type 0} (f : A → Json) (xs : List A) → items_tokens (items_in (map f xs)) ≡ flat_map (λ x. json_tokens (f x)) xs ++ Token.end_array ∷ []
items_written f [] = refl
items_written f (x ∷ xs) =
    ap (λ ts. json_tokens (f x) ++ ts) (items_written f xs)
    ∙ sym (append_assoc (json_tokens (f x)) (flat_map (λ y. json_tokens (f y)) xs) (Token.end_array ∷ []))

-- ---- written piece by piece

pub two_written : (xs ys : List Named) (old mid new : List Token) → mid ≡ old ++ named_tokens xs → new ≡ mid ++ named_tokens ys → new ≡ old ++ named_tokens (xs ++ ys)
two_written xs ys old mid new m n =
    n ∙ ap (λ ts. ts ++ named_tokens ys) m ∙ append_assoc old (named_tokens xs) (named_tokens ys) ∙ ap (λ ts. old ++ ts) (sym (named_append xs ys))

pub object_put : (ms : List Named) (old start done new : List Token) → start ≡ old ++ Token.begin_object ∷ [] → done ≡ start ++ named_tokens ms → new ≡ done ++ Token.end_object ∷ []
    → new ≡ old ++ json_tokens (object_of_members ms)
object_put ms old start done new s d n =
    n ∙ ap (λ ts. ts ++ Token.end_object ∷ []) (d ∙ ap (λ ts. ts ++ named_tokens ms) s)
    ∙ append_assoc (old ++ Token.begin_object ∷ []) (named_tokens ms) (Token.end_object ∷ [])
    ∙ append_assoc old (Token.begin_object ∷ []) (named_tokens ms ++ Token.end_object ∷ [])
    ∙ ap (λ ts. old ++ Token.begin_object ∷ ts) (sym (members_written ms))

-- the line of an object whose members were written
pub line_put : (ms : List Named) (start done : List Token) → start ≡ Token.begin_object ∷ [] → done ≡ start ++ named_tokens ms → (a : List ℕ)
    → a ≡ print (done ++ Token.end_object ∷ []) ++ 10 ∷ [] → a ≡ json_line ms
line_put ms start done s d a is =
    is ∙ ap (λ ts. print ts ++ 10 ∷ []) (ap (λ ts. ts ++ Token.end_object ∷ []) (d ∙ ap (λ ts. ts ++ named_tokens ms) s) ∙ sym (object_written ms))

-- ---- the value of a text

pub value_is : (t : List ℕ) (j : Json) → IsUtf8 t → document t ≡ Some j → json_value t ≡ j
value_is t j utf8 is = rw (is_utf8-from_IsUtf8 t utf8, is) refl

pub value_none : (t : List ℕ) → (IsUtf8 t → document t ≡ None) → json_value t ≡ null
value_none t none = go (is_utf8 t) refl
  where
    go : (b : Bool) → is_utf8 t ≡ b → json_value t ≡ null
    go true utf8 = rw (utf8, none (IsUtf8-from_is_utf8 t utf8)) refl
    go false utf8 = rw utf8 refl

pub tree_put : (name : List ℕ) (j : Json) (old mid new : List Token) → mid ≡ old ++ Token.key name ∷ [] → new ≡ mid ++ json_tokens j
    → new ≡ old ++ named_tokens ((name, j) ∷ [])
tree_put name j old mid new m n =
    n ∙ ap (λ ts. ts ++ json_tokens j) m ∙ append_assoc old (Token.key name ∷ []) (json_tokens j)
    ∙ ap (λ ts. old ++ Token.key name ∷ ts) (sym (append-nil (json_tokens j)))

-- each of a list was written
pub all_put : {A : Type 0} (f : A → List Token) (xs : List A) (i : ℕ) (start done : List Token) → length xs ≤ i → done ++ flat_map f (drop i xs) ≡ start ++ flat_map f xs → done ≡ start ++ flat_map f xs
all_put f xs i start done all is = sym (append-nil done) ∙ ap (λ l. done ++ flat_map f l) (sym (drop_all i xs all)) ∙ is

-- ---- what stands in a value

pub null_seen : value_view {A = Global} Null ≡ null
null_seen = search (rules, the_lemmas)

found_later : (later : Option Json) (earlier : Option Json) → IfSome later HasNumbers → IfSome earlier HasNumbers → IfSome (later_or later earlier) HasNumbers
found_later None earlier l e = e
found_later (Some j) earlier l e = l

found_here : (b : Bool) (j : Json) → HasNumbers j → IfSome (cond b (Some j) None) HasNumbers
found_here true j ok = ok
found_here false j ok = tt

member_writable : (name : List ℕ) (ms : Members) → MembersHaveNumbers ms → IfSome (get_member name ms) HasNumbers
member_writable name no_members ok = tt
member_writable name (member k j ms) ok = found_later (get_member name ms) (cond (bytes_eq k name) (Some j) None) (member_writable name ms ok.1) (found_here (bytes_eq k name) j ok.0)

pub get_writable : (name : List ℕ) (j : Json) → HasNumbers j → IfSome (get name j) HasNumbers
get_writable name null ok = tt
get_writable name (boolean b) ok = tt
get_writable name (number n) ok = tt
get_writable name (string t) ok = tt
get_writable name (array js) ok = tt
get_writable name (object ms) ok = member_writable name ms ok

item_writable : (i : ℕ) (js : Items) → ItemsHaveNumbers js → IfSome (get_item i js) HasNumbers
item_writable i no_items ok = tt
item_writable zero (item j js) ok = ok.0
item_writable (suc i) (item j js) ok = item_writable i js ok.1

pub at_writable : (i : ℕ) (j : Json) → HasNumbers j → IfSome (at i j) HasNumbers
at_writable i null ok = tt
at_writable i (boolean b) ok = tt
at_writable i (number n) ok = tt
at_writable i (string t) ok = tt
at_writable i (array js) ok = item_writable i js ok
at_writable i (object ms) ok = tt

-- what is seen of what was found
pub seen_writable : {A : Type 0} (f : A → Json) (r : Option A) (o : Option Json) → option_map f r ≡ o → IfSome o HasNumbers → IfSome r (λ a. HasNumbers (f a))
seen_writable f None o is ok = tt
seen_writable f (Some a) o is ok = subst (λ (q : Option Json). IfSome q HasNumbers) (sym is) ok
