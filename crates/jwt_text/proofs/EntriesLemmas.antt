-- What is read of a value has as many entries as member_names are written in it exactly where no object in it has a name twice.
use Rattle.std.proofs.Common.{◌≡◌, ◌≢◌, ◌↔◌, ℕ, zero, suc, ◌+◌, ◌<◌, ◌≤◌, Bool, true, false, List, [], ◌∷◌, length, get_or, Option, Some, None, option_map, option_and_then, is_some, Ordering, Less, Equal, Greater, nat_cmp, refl, sym, ap, ◌∙◌, subst, arith}
use Rattle.std.proofs.lemmas.Bool.{true≢false, false≢true}
use Rattle.std.proofs.lemmas.Cmp.{nat_list_cmp_total}
use Rattle.std.specs.Prelude.{⊤}
use Rattle.std.specs.Cmp.Lexicographic.{slice_cmp}
use Rattle.std.specs.List.{AllByRecursion}
use Rattle.std.specs.List.Sorted.{IsStrictlySortedBy}
use Rattle.std.specs.Ordering.{match_ordering}
use Rattle.json.specs.Json as json
use Rattle.json.specs.Strict.{keys, AreDistinct, HasUniqueKeys, ItemsHaveUniqueKeys, MembersHaveUniqueKeys}
use Rattle.serde_json.specs.Data.{Num, Data, null, boolean, number, string, array, object, Items, no_items, item, Members, no_members, member, put}
use Rattle.serde_json.specs.Find.{get_member}
use Rattle.serde_json.specs.Read.{number_of, of_json, of_items, of_members}
use Rattle.serde_json.proofs.Views.{get_member-put, get_member-put_other}
use Rattle.jwt_text.specs.Members.{has, member_names, AreInOrder}
use Rattle.jwt_text.specs.ObjectText.{entries, items_entries, members_entries}
use Rattle.jwt_text.proofs.OrderLemmas.{put_in_order, none_in_order}
use Rattle.jwt_text.specs.NamesWritten.{names_written, items_names_written, members_names_written}

-- ---- one more member

new_at : (o : Ordering) (k l : List ℕ) (d e : Data) (ms : Members) → is_some (match_ordering o (get_member k ms) (Some e) (get_member k ms)) ≡ false
    → (has k ms ≡ false → members_entries (put k d ms) ≡ suc (entries d + members_entries ms))
    → members_entries (match_ordering o (member k d (member l e ms)) (member l d ms) (member l e (put k d ms))) ≡ suc (entries d + suc (entries e + members_entries ms))
new_at Less k l d e ms h ih = refl
new_at Equal k l d e ms h ih = absurd (true≢false h)
new_at Greater k l d e ms h ih = omega (arith, ih h)

pub put_new : (k : List ℕ) (d : Data) (ms : Members) → has k ms ≡ false → members_entries (put k d ms) ≡ suc (entries d + members_entries ms)
put_new k d no_members h = refl
put_new k d (member l e ms) h = new_at (slice_cmp nat_cmp k l) k l d e ms h (put_new k d ms)

absent_at : (o : Ordering) (k : List ℕ) (e : Data) (ms : Members) → o ≡ Less → has k ms ≡ false → is_some (match_ordering o (get_member k ms) (Some e) (get_member k ms)) ≡ false
absent_at Less k e ms is h = h
absent_at Equal k e ms is h = absurd cc
absent_at Greater k e ms is h = h

-- a name below all others is absent
absent : (k : List ℕ) (ms : Members) → AllByRecursion (λ n. slice_cmp nat_cmp k n ≡ Less) (member_names ms) → has k ms ≡ false
absent k no_members h = refl
absent k (member l e ms) h = absent_at (slice_cmp nat_cmp k l) k e ms h.0 (absent k ms h.1)

below : (k l : List ℕ) (ns : List (List ℕ)) → slice_cmp nat_cmp k l ≡ Less → AllByRecursion (λ n. slice_cmp nat_cmp l n ≡ Less) ns → AllByRecursion (λ n. slice_cmp nat_cmp k n ≡ Less) ns
below k l [] lower h = h
below k l (n ∷ ns) lower h = (nat_list_cmp_total.trans k l n lower h.0, below k l ns lower h.1)

old_at : (o : Ordering) (k l : List ℕ) (d e : Data) (ms : Members) → slice_cmp nat_cmp k l ≡ o → is_some (match_ordering o (get_member k ms) (Some e) (get_member k ms)) ≡ true
    → AllByRecursion (λ n. slice_cmp nat_cmp l n ≡ Less) (member_names ms) → (has k ms ≡ true → members_entries (put k d ms) ≤ entries d + members_entries ms)
    → members_entries (match_ordering o (member k d (member l e ms)) (member l d ms) (member l e (put k d ms))) ≤ entries d + suc (entries e + members_entries ms)
old_at Less k l d e ms is h above ih = absurd (true≢false (sym h ∙ absent k ms (below k l (member_names ms) is above)))
old_at Equal k l d e ms is h above ih = omega arith
old_at Greater k l d e ms is h above ih = omega (arith, ih h)

pub put_old : (k : List ℕ) (d : Data) (ms : Members) → AreInOrder (member_names ms) → has k ms ≡ true → members_entries (put k d ms) ≤ entries d + members_entries ms
unfolding IsStrictlySortedBy
put_old k d no_members order h = absurd (false≢true h)
put_old k d (member l e ms) order h = old_at (slice_cmp nat_cmp k l) k l d e ms refl h order.0 (put_old k d ms order.1)

-- ---- distinct member_names, one by one

abbrev Apart : List ℕ → List (List ℕ) → Type 0
Apart k [] = ⊤
Apart k (x ∷ xs) = (k ≢ x) × Apart k xs

apart_from : (k : List ℕ) (ks : List (List ℕ)) → ((n : ℕ) → n < length ks → k ≢ get_or ks n []) → Apart k ks
apart_from k [] h = tt
apart_from k (x ∷ xs) h = (h 0 (omega arith), apart_from k xs (λ n l. h (suc n) (omega arith)))

apart_at : (k : List ℕ) (ks : List (List ℕ)) (n : ℕ) (d : List ℕ) → Apart k ks → n < length ks → k ≢ get_or ks n d
apart_at k [] n d h l = absurd (omega arith)
apart_at k (x ∷ xs) zero d h l = h.0
apart_at k (x ∷ xs) (suc n) d h l = apart_at k xs n d h.1 (omega arith)

distinct_first : (k : List ℕ) (ks : List (List ℕ)) → AreDistinct (k ∷ ks) → Apart k ks
distinct_first k ks h = apart_from k ks (λ n l. h 0 (suc n) [] (omega arith) (omega arith))

distinct_rest : (k : List ℕ) (ks : List (List ℕ)) → AreDistinct (k ∷ ks) → AreDistinct ks
distinct_rest k ks h = λ i j d l m. h (suc i) (suc j) d (omega arith) (omega arith)

distinct_both : (k : List ℕ) (ks : List (List ℕ)) → Apart k ks → AreDistinct ks → AreDistinct (k ∷ ks)
distinct_both k ks a h zero zero d l m = absurd (omega arith)
distinct_both k ks a h zero (suc j) d l m = apart_at k ks j d a (omega arith)
distinct_both k ks a h (suc i) zero d l m = absurd (omega arith)
distinct_both k ks a h (suc i) (suc j) d l m = h i j d (omega arith) (omega arith)

distinct_none : AreDistinct []
distinct_none i j d l m = absurd (omega arith)

-- none of the member_names stands among the members
abbrev Fresh : List (List ℕ) → Members → Type 0
Fresh [] ms = ⊤
Fresh (k ∷ ks) ms = (has k ms ≡ false) × Fresh ks ms

fresh_in_none : (ks : List (List ℕ)) → Fresh ks no_members
fresh_in_none [] = tt
fresh_in_none (k ∷ ks) = (refl, fresh_in_none ks)

put_has : (k : List ℕ) (d : Data) (ms : Members) → has k (put k d ms) ≡ true
put_has k d ms = ap is_some (get_member-put k d ms)

other_has : (x k : List ℕ) (d : Data) (ms : Members) → x ≢ k → has x (put k d ms) ≡ has x ms
other_has x k d ms other = ap is_some (get_member-put_other x k d ms (λ e. other e))

fresh_put : (k : List ℕ) (d : Data) (ks : List (List ℕ)) (ms : Members) → Apart k ks → Fresh ks ms → Fresh ks (put k d ms)
fresh_put k d [] ms a f = tt
fresh_put k d (x ∷ xs) ms a f = (other_has x k d ms (λ e. a.0 (sym e)) ∙ f.0, fresh_put k d xs ms a.1 f.1)

put_apart : (k : List ℕ) (d : Data) (ks : List (List ℕ)) (ms : Members) → Fresh ks (put k d ms) → Apart k ks
put_apart k d [] ms f = tt
put_apart k d (x ∷ xs) ms f = (λ e. true≢false (sym (put_has k d ms) ∙ ap (λ y. has y (put k d ms)) e ∙ f.0), put_apart k d xs ms f.1)

put_fresh : (k : List ℕ) (d : Data) (ks : List (List ℕ)) (ms : Members) → Fresh ks (put k d ms) → Fresh ks ms
put_fresh k d [] ms f = tt
put_fresh k d (x ∷ xs) ms f =
    let other : x ≢ k = λ e. true≢false (sym (put_has k d ms) ∙ ap (λ y. has y (put k d ms)) (sym e) ∙ f.0) in
    (sym (other_has x k d ms other) ∙ f.0, put_fresh k d xs ms f.1)

-- ---- what is kept of a value

abbrev Keeps : ℕ → ℕ → Type 0 → Type 0
Keeps kept written P = (kept ≤ written) × ((kept ≡ written) ↔ P)

abbrev KeepsMembers : json.Members → Members → Members → Type 0
KeepsMembers ms found r = Keeps (members_entries r) (members_names_written ms + members_entries found) (AreDistinct (keys ms) × MembersHaveUniqueKeys ms × Fresh (keys ms) found)

some_same : {A : Type 0} (x y : A) → Some x ≡ Some y → x ≡ y
some_same x y e = cc

none : Keeps 0 0 ⊤
none = (omega arith, (λ e. tt, λ t. refl))

turn_new : (k : List ℕ) (ks : List (List ℕ)) (d : Data) (found : Members) (n m e f r : ℕ) (U V : Type 0) → entries d ≡ e → members_entries found ≡ f → has k found ≡ false
    → Keeps e n U → Keeps r (m + suc (e + f)) (AreDistinct ks × V × Fresh ks (put k d found))
    → Keeps r (suc (n + m) + f) (AreDistinct (k ∷ ks) × (U × V) × Fresh (k ∷ ks) found)
turn_new k ks d found n m e f r U V p q new one more = (
  omega (arith, one.0, more.0),
  (
    λ h.
        let first : e ≡ n = omega (arith, one.0, more.0) in
        let rest : r ≡ m + suc (e + f) = omega (arith, one.0, more.0) in
        let all = more.1.0 rest in
        (distinct_both k ks (put_apart k d ks found all.2) all.0, (one.1.0 first, all.1), (new, put_fresh k d ks found all.2)),
    λ h.
        let first : e ≡ n = one.1.1 h.1.0 in
        let rest : r ≡ m + suc (e + f) = more.1.1 (distinct_rest k ks h.0, h.1.1, fresh_put k d ks found (distinct_first k ks h.0) h.2.1) in
        omega arith,
  ),
)

turn_old : (k : List ℕ) (ks : List (List ℕ)) (d : Data) (found : Members) (n m e f g r : ℕ) (U V P : Type 0) → has k found ≡ true → g ≤ e + f
    → Keeps e n U → Keeps r (m + g) P
    → Keeps r (suc (n + m) + f) (AreDistinct (k ∷ ks) × (U × V) × Fresh (k ∷ ks) found)
turn_old k ks d found n m e f g r U V P old less one more = (
  omega (arith, one.0, more.0),
  (λ h. absurd (omega (arith, one.0, more.0)), λ h. absurd (true≢false (sym old ∙ h.2.0))),
)

turn : (b : Bool) (k : List ℕ) (d : Data) (j : json.Json) (ms : json.Members) (found r : Members) → has k found ≡ b → AreInOrder (member_names found)
    → Keeps (entries d) (names_written j) (HasUniqueKeys j) → KeepsMembers ms (put k d found) r → KeepsMembers (json.member k j ms) found r
turn false k d j ms found r is order one more =
    turn_new k (keys ms) d found (names_written j) (members_names_written ms) (entries d) (members_entries found) (members_entries r) (HasUniqueKeys j) (MembersHaveUniqueKeys ms) refl refl is one
    (subst (λ g. Keeps (members_entries r) (members_names_written ms + g) (AreDistinct (keys ms) × MembersHaveUniqueKeys ms × Fresh (keys ms) (put k d found))) (put_new k d found is) more)
turn true k d j ms found r is order one more =
    turn_old k (keys ms) d found (names_written j) (members_names_written ms) (entries d) (members_entries found) (members_entries (put k d found)) (members_entries r) (HasUniqueKeys j) (MembersHaveUniqueKeys ms) _ is (put_old k d found order is) one more

items_turn : (a b m n : ℕ) (U V : Type 0) → Keeps a m U → Keeps b n V → Keeps (a + b) (m + n) (U × V)
items_turn a b m n U V one more = (
  omega (arith, one.0, more.0),
  (
    λ h. (one.1.0 (omega (arith, one.0, more.0)), more.1.0 (omega (arith, one.0, more.0))),
    λ h. let first = one.1.1 h.0 in let rest = more.1.1 h.1 in omega arith,
  ),
)

is_number : (o : Option Num) (d : Data) → option_map number o ≡ Some d → entries d ≡ 0
is_number None d e = absurd cc
is_number (Some n) d e = ap entries (sym (some_same (number n) d e))

whole : (ms : json.Members) (r : Members) → KeepsMembers ms no_members r → Keeps (members_entries r) (members_names_written ms) (AreDistinct (keys ms) × MembersHaveUniqueKeys ms)
whole ms r h = (omega (arith, h.0), (λ e. let all = h.1.0 (omega arith) in (all.0, all.1), λ u. let all = h.1.1 (u.0, u.1, fresh_in_none (keys ms)) in omega arith))

-- what is kept of each part that is read
abbrev OfJson : json.Json → Type 0
OfJson j = (d : Data) → of_json j ≡ Some d → Keeps (entries d) (names_written j) (HasUniqueKeys j)

abbrev OfItems : json.Items → Type 0
OfItems js = (ds : Items) → of_items js ≡ Some ds → Keeps (items_entries ds) (items_names_written js) (ItemsHaveUniqueKeys js)

abbrev OfMembers : json.Members → Type 0
OfMembers ms = (found r : Members) → of_members ms found ≡ Some r → AreInOrder (member_names found) → KeepsMembers ms found r

in_array : (js : json.Items) (o : Option Items) → OfItems js → of_items js ≡ o → (d : Data) → option_map array o ≡ Some d → Keeps (entries d) (items_names_written js) (ItemsHaveUniqueKeys js)
in_array js None ih is d e = absurd cc
in_array js (Some ds) ih is d e = subst (λ x. Keeps (entries x) (items_names_written js) (ItemsHaveUniqueKeys js)) (some_same (array ds) d e) (ih ds is)

in_object : (ms : json.Members) (o : Option Members) → OfMembers ms → of_members ms no_members ≡ o → (d : Data) → option_map object o ≡ Some d
    → Keeps (entries d) (members_names_written ms) (AreDistinct (keys ms) × MembersHaveUniqueKeys ms)
in_object ms None ih is d e = absurd cc
in_object ms (Some r) ih is d e =
    subst (λ x. Keeps (entries x) (members_names_written ms) (AreDistinct (keys ms) × MembersHaveUniqueKeys ms)) (some_same (object r) d e) (whole ms r (ih no_members r is none_in_order))

after_item : (j : json.Json) (js : json.Items) (d : Data) (o : Option Items) → Keeps (entries d) (names_written j) (HasUniqueKeys j) → OfItems js → of_items js ≡ o → (ds : Items) → option_map (item d) o ≡ Some ds
    → Keeps (items_entries ds) (names_written j + items_names_written js) (HasUniqueKeys j × ItemsHaveUniqueKeys js)
after_item j js d None one ih is ds e = absurd cc
after_item j js d (Some rest) one ih is ds e =
    subst (λ x. Keeps (items_entries x) (names_written j + items_names_written js) (HasUniqueKeys j × ItemsHaveUniqueKeys js)) (some_same (item d rest) ds e)
    (items_turn (entries d) (items_entries rest) (names_written j) (items_names_written js) (HasUniqueKeys j) (ItemsHaveUniqueKeys js) one (ih rest is))

at_item : (j : json.Json) (js : json.Items) (o : Option Data) → OfJson j → OfItems js → of_json j ≡ o → (ds : Items) → option_and_then (λ d. option_map (item d) (of_items js)) o ≡ Some ds
    → Keeps (items_entries ds) (names_written j + items_names_written js) (HasUniqueKeys j × ItemsHaveUniqueKeys js)
at_item j js None first rest is ds e = absurd cc
at_item j js (Some d) first rest is ds e = after_item j js d (of_items js) (first d is) rest refl ds e

at_member : (k : List ℕ) (j : json.Json) (ms : json.Members) (o : Option Data) → OfJson j → OfMembers ms → of_json j ≡ o → (found r : Members) → option_and_then (λ d. of_members ms (put k d found)) o ≡ Some r → AreInOrder (member_names found)
    → KeepsMembers (json.member k j ms) found r
at_member k j ms None first rest is found r e order = absurd cc
at_member k j ms (Some d) first rest is found r e order = turn (has k found) k d j ms found r refl order (first d is) (rest (put k d found) r e (put_in_order k d found order))

mutual
  pub kept : (j : json.Json) → OfJson j
  kept json.null = λ d e. subst (λ x. Keeps (entries x) 0 ⊤) (some_same null d e) none
  kept (json.boolean b) = λ d e. subst (λ x. Keeps (entries x) 0 ⊤) (some_same (boolean b) d e) none
  kept (json.number s) = λ d e. subst (λ n. Keeps n 0 ⊤) (sym (is_number (number_of s) d e)) none
  kept (json.string s) = λ d e. subst (λ x. Keeps (entries x) 0 ⊤) (some_same (string s) d e) none
  kept (json.array js) = in_array js (of_items js) (kept_items js) refl
  kept (json.object ms) = in_object ms (of_members ms no_members) (kept_members ms) refl

  kept_items : (js : json.Items) → OfItems js
  kept_items json.no_items = λ ds e. subst (λ x. Keeps (items_entries x) 0 ⊤) (some_same no_items ds e) none
  kept_items (json.item j js) = at_item j js (of_json j) (kept j) (kept_items js) refl

  kept_members : (ms : json.Members) → OfMembers ms
  kept_members json.no_members = λ found r e order. subst (λ x. KeepsMembers json.no_members found x) (some_same found r e) (omega arith, (λ h. (distinct_none, tt, tt), λ h. omega arith))
  kept_members (json.member k j ms) = at_member k j ms (of_json j) (kept j) (kept_members ms) refl
