-- What stands at a place of entries or of nodes, and what stands at none.
use Rattle.std.proofs.Common.{◌≡◌, ℕ, zero, suc, ◌+◌, ◌<◌, ◌≤◌, Bool, true, false, ◌&&◌, ◌||◌, List, [], ◌∷◌, ◌++◌, map, length, take, get_or, Option, Some, None, option_map, is_some, bytes_eq, is_eq, nat_cmp, nat_lt, Less, Equal, Greater, below_more, refl, sym, ap, ◌∙◌, subst, arith}
use Rattle.std.proofs.lemmas.Bool.{ltb-true, ltb-false}
use Rattle.std.proofs.lemmas.Cmp.{nat_list_cmp_total}
use Rattle.std.proofs.lemmas.List.{get_or_default, take_more, take_all}
use Rattle.std.proofs.lemmas.Map.Text.{is_eq-slice_cmp}
use Rattle.std.specs.Cmp.Lexicographic.{slice_cmp}
use Rattle.std.specs.List.{AllByRecursion, list_any}
use Rattle.std.specs.List.Sorted.{IsStrictlySortedBy}
use Rattle.serde_json.specs.Data.{Data, null, boolean, number, string, array, object, Items, no_items, item}
use Rattle.serde_json.specs.Written.{compact_text}
use Rattle.std.specs.Prelude.{Result, Ok, Err, IfOk, MatchOption, if◌then◌else◌}
use Rattle.serde_json.specs.Find.{as_str, as_array, get_member}
use Rattle.serde_json.specs.View.{view, items_of}
use Rattle.serde_json.specs.declared.value.Value.{Value}
use Rattle.jwt_text.specs.Members.{AreInOrder, elements, are_texts, compact_text_or_texts}
use Rattle.jwt_text.specs.declared.node.Entry.{Entry}
use Rattle.jwt_text.specs.declared.node.Node.{Node}
use Rattle.jwt_text.specs.declared.store.Store.{Store}
use Rattle.jwt_text.specs.Kinds.{as_text}
use Rattle.jwt_text.specs.Flat.{text_of, node_data, members_data, entry_names, Each}
use Rattle.jwt_text.specs.Reads.{pair}
use Rattle.jwt_text.proofs.KindLemmas.{text_is}
use Rattle.jwt_text.proofs.ReadTurns.{map_append}
use Rattle.jwt_text.proofs.Seen.{names-data, found_none, elements-items_of}
use Rattle.jwt_text.proofs.SortedLemmas.{same_name, flipped, each_found}

-- ---- names in order

above_at : (s : Store) (k : List ℕ) (es : List Entry) (j : ℕ) (d : Entry) → AllByRecursion (λ n. slice_cmp nat_cmp k n ≡ Less) (entry_names s es) → j < length es → slice_cmp nat_cmp k (text_of s (get_or es j d).name) ≡ Less
above_at s k [] j d h l = absurd (omega arith)
above_at s k (e ∷ es) zero d h l = h.0
above_at s k (e ∷ es) (suc j) d h l = above_at s k es j d h.1 (omega arith)

pub in_order_at : (s : Store) (es : List Entry) (i j : ℕ) (d : Entry) → AreInOrder (entry_names s es) → i < j → j < length es → slice_cmp nat_cmp (text_of s (get_or es i d).name) (text_of s (get_or es j d).name) ≡ Less
unfolding IsStrictlySortedBy
in_order_at s [] i j d h m l = absurd (omega arith)
in_order_at s (e ∷ es) i zero d h m l = absurd (omega arith)
in_order_at s (e ∷ es) zero (suc j) d h m l = above_at s (text_of s e.name) es j d h.0 (omega arith)
in_order_at s (e ∷ es) (suc i) (suc j) d h m l = in_order_at s es i j d h.1 (omega arith) (omega arith)

back : (k l : List ℕ) → slice_cmp nat_cmp l k ≡ Less → slice_cmp nat_cmp k l ≡ Greater
back k l e = rw (nat_list_cmp_total.antisymm k l, e) refl

-- names before low are below the name that is looked for, and those from high on are above it
pub record Between (name : List ℕ) (s : Store) (es : List Entry) (low high : ℕ) : Type 0 where
  pub within : high ≤ length es
  pub meet : low ≤ high
  pub lower : (i : ℕ) (d : Entry) → i < low → slice_cmp nat_cmp name (text_of s (get_or es i d).name) ≡ Greater
  pub upper : (i : ℕ) (d : Entry) → high ≤ i → i < length es → slice_cmp nat_cmp name (text_of s (get_or es i d).name) ≡ Less

pub between_all : (name : List ℕ) (s : Store) (es : List Entry) → Between name s es 0 (length es)
between_all name s es = record { within = omega arith; meet = omega arith; lower = λ i d l. absurd (omega arith); upper = λ i d l m. absurd (omega arith) }

module _ (name : List ℕ) (s : Store) (es : List Entry) (low high middle : ℕ) (d : Entry) (so : Between name s es low high) (order : AreInOrder (entry_names s es)) (from : low ≤ middle) (to : middle < high) where
  here : (e : Entry) → get_or es middle e ≡ get_or es middle d
  here e = get_or_default es middle e d (omega (arith, so.within, to))

  after_at : slice_cmp nat_cmp name (text_of s (get_or es middle d).name) ≡ Less → (e : Entry) → slice_cmp nat_cmp name (text_of s (get_or es middle e).name) ≡ Less
  after_at less e = ap (λ (x : Entry). slice_cmp nat_cmp name (text_of s x.name)) (here e) ∙ less

  pub before_middle : slice_cmp nat_cmp name (text_of s (get_or es middle d).name) ≡ Less → Between name s es low middle
  before_middle less = record {
    within = omega (arith, so.within);
    meet = from;
    lower = so.lower;
    upper = λ i e m l. higher i e m l (nat_lt middle i) refl;
  }
    where
      higher : (i : ℕ) (e : Entry) → middle ≤ i → i < length es → (b : Bool) → nat_lt middle i ≡ b → slice_cmp nat_cmp name (text_of s (get_or es i e).name) ≡ Less
      higher i e m l true q = nat_list_cmp_total.trans name (text_of s (get_or es middle e).name) (text_of s (get_or es i e).name) (after_at less e) (in_order_at s es middle i e order (ltb-true middle i q) l)
      higher i e m l false q = let same : i ≡ middle = omega (arith, m, ltb-false middle i q) in ap (λ k. slice_cmp nat_cmp name (text_of s (get_or es k e).name)) same ∙ after_at less e

  pub behind_middle : slice_cmp nat_cmp name (text_of s (get_or es middle d).name) ≡ Greater → Between name s es (middle + 1) high
  behind_middle greater = record {
    within = so.within;
    meet = omega (arith, to);
    lower = λ i e m. lesser i e m (nat_lt i middle) refl;
    upper = so.upper;
  }
    where
      lesser : (i : ℕ) (e : Entry) → i < middle + 1 → (b : Bool) → nat_lt i middle ≡ b → slice_cmp nat_cmp name (text_of s (get_or es i e).name) ≡ Greater
      lesser i e m true q =
          let under : slice_cmp nat_cmp (text_of s (get_or es middle e).name) name ≡ Less = flipped name (text_of s (get_or es middle e).name) (ap (λ (x : Entry). slice_cmp nat_cmp name (text_of s x.name)) (here e) ∙ greater) in
          back name (text_of s (get_or es i e).name)
          (nat_list_cmp_total.trans (text_of s (get_or es i e).name) (text_of s (get_or es middle e).name) name (in_order_at s es i middle e order (ltb-true i middle q) (omega (arith, so.within, to))) under)
      lesser i e m false q = let same : i ≡ middle = omega (arith, m, ltb-false i middle q) in ap (λ k. slice_cmp nat_cmp name (text_of s (get_or es k e).name)) same ∙ ap (λ (x : Entry). slice_cmp nat_cmp name (text_of s x.name)) (here e) ∙ greater

  pub at_middle : (k : ℕ) → slice_cmp nat_cmp name (text_of s (get_or es middle d).name) ≡ Equal → get_member name (members_data k s es) ≡ Some (node_data k s (get_or es middle d).node)
  at_middle k equal =
      let found = each_found (map (pair k s) es) (subst AreInOrder (sym (names-data k s es)) order) in
      ap (λ n. get_member n (members_data k s es)) (same_name name (text_of s (get_or es middle d).name) equal)
      ∙ each_map (pair k s) (λ q. get_member q.0 (members_data k s es) ≡ Some q.1) es middle d found (omega (arith, so.within, to))
    where
      each_map : {A B : Type 0} (f : A → B) (P : B → Type 0) (xs : List A) (n : ℕ) (x : A) → Each P (map f xs) → n < length xs → P (f (get_or xs n x))
      each_map f P [] n x h l = absurd (omega arith)
      each_map f P (y ∷ xs) zero x h l = h.0
      each_map f P (y ∷ xs) (suc n) x h l = each_map f P xs n x h.1 (omega arith)

other_than : (a b : List ℕ) → is_eq (slice_cmp nat_cmp a b) ≡ false → bytes_eq a b ≡ false
other_than a b h = sym (is_eq-slice_cmp a b) ∙ h

pub nowhere : (name : List ℕ) (s : Store) (es : List Entry) (low high k : ℕ) → Between name s es low high → high ≤ low → get_member name (members_data k s es) ≡ None
nowhere name s es low high k so met = found_none name k s es (length es) (omega arith) others
  where
    others : (i : ℕ) → i < length es → (d : Entry) → bytes_eq name (text_of s (get_or es i d).name) ≡ false
    others i l d = which (nat_lt i low) refl
      where
        which : (b : Bool) → nat_lt i low ≡ b → bytes_eq name (text_of s (get_or es i d).name) ≡ false
        which true q = other_than name (text_of s (get_or es i d).name) (ap is_eq (so.lower i d (ltb-true i low q)))
        which false q = other_than name (text_of s (get_or es i d).name) (ap is_eq (so.upper i d (omega (arith, met, ltb-false i low q)) l))

-- ---- a test of each name

and_false : (b : Bool) → (b && false) ≡ false
and_false true = refl
and_false false = refl

or_true : (b : Bool) → (b || true) ≡ true
or_true true = refl
or_true false = refl

pub some_name : (p : List ℕ → Bool) (s : Store) (es : List Entry) (i : ℕ) (d : Entry) → i < length es → p (text_of s (get_or es i d).name) ≡ true → list_any p (entry_names s es) ≡ true
some_name p s [] i d l h = absurd (omega arith)
some_name p s (e ∷ es) zero d l h = ap (λ b. b || list_any p (entry_names s es)) h
some_name p s (e ∷ es) (suc i) d l h = ap (λ b. p (text_of s e.name) || b) (some_name p s es i d (omega arith) h) ∙ or_true (p (text_of s e.name))

abbrev pub NoneOf : (List ℕ → Bool) → Store → List Entry → ℕ → Type 0
NoneOf p s es n = (i : ℕ) → i < n → (d : Entry) → p (text_of s (get_or es i d).name) ≡ false

pub no_name : (p : List ℕ → Bool) (s : Store) (es : List Entry) → NoneOf p s es (length es) → list_any p (entry_names s es) ≡ false
no_name p s [] h = refl
no_name p s (e ∷ es) h =
    let first : p (text_of s e.name) ≡ false = h 0 (omega arith) e in
    ap (λ b. b || list_any p (entry_names s es)) first ∙ no_name p s es (λ i l d. h (suc i) (omega arith) d)

pub none_more : (p : List ℕ → Bool) (s : Store) (es : List Entry) (n : ℕ) (d : Entry) → n < length es → NoneOf p s es n → p (text_of s (get_or es n d).name) ≡ false → NoneOf p s es (n + 1)
none_more p s es n d l before other =
    let P : ℕ → Type 0 = λ i. (e : Entry) → p (text_of s (get_or es i e).name) ≡ false in
    below_more P n before (λ e. ap (λ (x : Entry). p (text_of s x.name)) (get_or_default es n e d l) ∙ other)

-- ---- a test of each node

some_stays : {A B : Type 0} (f : A → B) (o : Option A) → is_some (option_map f o) ≡ is_some o
some_stays f None = refl
some_stays f (Some a) = refl

pub is_text : (k : ℕ) (s : Store) (n : Node) → is_some (as_str (node_data k s n)) ≡ is_some (as_text n)
is_text k s n = ap is_some (text_is k s n) ∙ some_stays (text_of s) (as_text n)

pub no_texts : (f : Node → Data) (ns : List Node) (i : ℕ) (d : Node) → i < length ns → is_some (as_str (f (get_or ns i d))) ≡ false → are_texts (map f ns) ≡ false
no_texts f [] i d l h = absurd (omega arith)
no_texts f (n ∷ ns) zero d l h = ap (λ b. b && are_texts (map f ns)) h
no_texts f (n ∷ ns) (suc i) d l h = ap (λ b. is_some (as_str (f n)) && b) (no_texts f ns i d (omega arith) h) ∙ and_false (is_some (as_str (f n)))

abbrev pub AreAll : List Node → ℕ → Type 0
AreAll ns n = (i : ℕ) → i < n → (d : Node) → is_some (as_text (get_or ns i d)) ≡ true

pub all_are_texts : (k : ℕ) (s : Store) (ns : List Node) → AreAll ns (length ns) → are_texts (map (node_data k s) ns) ≡ true
all_are_texts k s [] h = refl
all_are_texts k s (n ∷ ns) h =
    let first : is_some (as_str (node_data k s n)) ≡ true = is_text k s n ∙ h 0 (omega arith) n in
    ap (λ b. b && are_texts (map (node_data k s) ns)) first ∙ all_are_texts k s ns (λ i l d. h (suc i) (omega arith) d)

pub all_more : (ns : List Node) (n : ℕ) (d : Node) → n < length ns → AreAll ns n → is_some (as_text (get_or ns n d)) ≡ true → AreAll ns (n + 1)
all_more ns n d l before one =
    let P : ℕ → Type 0 = λ i. (e : Node) → is_some (as_text (get_or ns i e)) ≡ true in
    below_more P n before (λ e. ap (λ (x : Node). is_some (as_text x)) (get_or_default ns n e d l) ∙ one)

-- ---- a list of texts

pub as_str_is : (d : Data) (t : List ℕ) → Some t ≡ as_str d → string t ≡ d
as_str_is null t e = absurd cc
as_str_is (boolean b) t e = absurd cc
as_str_is (number n) t e = absurd cc
as_str_is (string s) t e = let same : t ≡ s = cc in ap string same
as_str_is (array ds) t e = absurd cc
as_str_is (object ms) t e = absurd cc

pub one_more_text : (f : Node → Data) (ns : List Node) (vs : List Value) (v : Value) (i : ℕ) (d : Node) → i < length ns → map view vs ≡ map f (take i ns) → view v ≡ f (get_or ns i d) → map view (vs ++ v ∷ []) ≡ map f (take (i + 1) ns)
one_more_text f ns vs v i d l so one =
    map_append view vs v ∙ (λ j. so j ++ one j ∷ []) ∙ sym (map_append f (take i ns) (get_or ns i d)) ∙ ap (map f) (sym (take_more ns i d l))

pub all_of_them : (f : Node → Data) (ns : List Node) (vs : List Value) (i : ℕ) → length ns ≤ i → map view vs ≡ map f (take i ns) → items_of (map view vs) ≡ items_of (map f ns)
all_of_them f ns vs i past so = ap items_of (so ∙ ap (map f) (take_all i ns past))

items_of-elements : (ds : Items) → items_of (elements ds) ≡ ds
items_of-elements no_items = refl
items_of-elements (item d ds) = ap (item d) (items_of-elements ds)

list_is : (d : Data) (ds : List Data) → Some ds ≡ option_map elements (as_array d) → array (items_of ds) ≡ d
list_is null ds e = absurd cc
list_is (boolean b) ds e = absurd cc
list_is (number n) ds e = absurd cc
list_is (string s) ds e = absurd cc
list_is (array js) ds e = let same : ds ≡ elements js = cc in ap array (ap items_of same ∙ items_of-elements js)
list_is (object ms) ds e = absurd cc

no_compact : (ds : List Data) → are_texts ds ≡ false → compact_text_or_texts (array (items_of ds)) ≡ None
no_compact ds h =
    let none : are_texts (elements (items_of ds)) ≡ false = ap are_texts (elements-items_of ds) ∙ h in
    ap (λ b. if b then Some (compact_text (array (items_of ds))) else None) none

-- what is written of a list: nothing where it has another element than a text
pub list_written : {E : Type 0} (r : Result (Option Value) E) (d : Data) (ds : List Data) → Some ds ≡ option_map elements (as_array d)
    → IfOk r (λ o. MatchOption o (are_texts ds ≡ false) (λ v. view v ≡ array (items_of ds))) → IfOk r (λ o. MatchOption o (compact_text_or_texts d ≡ None) (λ v. view v ≡ d))
list_written (Err e) d ds is h = tt
list_written (Ok None) d ds is h = subst (λ x. compact_text_or_texts x ≡ None) (list_is d ds is) (no_compact ds h)
list_written (Ok (Some v)) d ds is h = h ∙ list_is d ds is
