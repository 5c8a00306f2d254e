-- The members of an object are the same in whatever order they came, where no name stands twice.
use Rattle.std.proofs.Common.{◌≡◌, ℕ, zero, suc, Bool, true, false, List, [], ◌∷◌, Option, Some, None, is_some, bytes_eq, is_eq, nat_cmp, Ordering, Less, Equal, Greater, refl, sym, ap, ◌∙◌, subst, arith}
use Rattle.std.proofs.lemmas.Bool.{true≢false, false≢true}
use Rattle.std.proofs.lemmas.Cmp.{nat_list_cmp_total}
use Rattle.std.proofs.lemmas.List.Sorted.{All-permutation, IsPermutation-sym, sum_by-IsPermutation}
use Rattle.std.proofs.lemmas.List.Sums.{sum_by-cons}
use Rattle.std.proofs.lemmas.Map.Text.{is_eq-slice_cmp}
use Rattle.std.proofs.lemmas.Slice.Eq.{bytes_eq-Decides}
use Rattle.std.specs.Cmp.Lexicographic.{slice_cmp}
use Rattle.std.specs.List.{All, AllByRecursion, sum_by}
use Rattle.std.specs.List.Sorted.{IsStrictlySortedBy, IsPermutation}
use Rattle.std.specs.Ordering.{match_ordering}
use Rattle.serde_json.specs.Data.{Data, Members, no_members, member, put}
use Rattle.serde_json.specs.Find.{get_member}
use Rattle.serde_json.proofs.Views.{get_member-put, get_member-put_other}
use Rattle.jwt_text.specs.Members.{has, member_names, AreInOrder}
use Rattle.jwt_text.specs.ObjectText.{entries, members_entries}
use Rattle.jwt_text.proofs.OrderLemmas.{put_in_order, none_in_order}
use Rattle.jwt_text.specs.Flat.{members_from, Each}
use Rattle.jwt_text.proofs.ReadInvariants.{put_all, entries_of}

abbrev Pair : Type 0
Pair = List ℕ × Data

-- ---- the first member and the others

at_less : (o : Ordering) (a : Option Data) (e : Data) → o ≡ Less → match_ordering o a (Some e) a ≡ a
at_less Less a e h = refl
at_less Equal a e h = absurd cc
at_less Greater a e h = refl

at_greater : (o : Ordering) (a : Option Data) (e : Data) → o ≡ Greater → match_ordering o a (Some e) a ≡ a
at_greater Less a e h = refl
at_greater Equal a e h = absurd cc
at_greater Greater a e h = refl

at_equal : (o : Ordering) (a : Option Data) (e : Data) → o ≡ Equal → match_ordering o a (Some e) a ≡ Some e
at_equal Less a e h = absurd cc
at_equal Equal a e h = refl
at_equal Greater a e h = absurd cc

same_equal : (o : Ordering) → is_eq o ≡ true → o ≡ Equal
same_equal Less h = absurd (false≢true h)
same_equal Equal h = refl
same_equal Greater h = absurd (false≢true h)

equals_itself : (k : List ℕ) → slice_cmp nat_cmp k k ≡ Equal
equals_itself k = same_equal (slice_cmp nat_cmp k k) (is_eq-slice_cmp k k ∙ (bytes_eq-Decides k k).1 refl)

pub same_name : (k l : List ℕ) → slice_cmp nat_cmp k l ≡ Equal → k ≡ l
same_name k l e = (bytes_eq-Decides k l).0 (sym (is_eq-slice_cmp k l) ∙ ap is_eq e)

get_first : (k : List ℕ) (d : Data) (ms : Members) → get_member k (member k d ms) ≡ Some d
get_first k d ms = at_equal (slice_cmp nat_cmp k k) (get_member k ms) d (equals_itself k)

-- below all member_names: no member has it
get_absent : (k : List ℕ) (ms : Members) → AllByRecursion (λ n. slice_cmp nat_cmp k n ≡ Less) (member_names ms) → get_member k ms ≡ None
get_absent k no_members h = refl
get_absent k (member l e ms) h = at_less (slice_cmp nat_cmp k l) (get_member k ms) e h.0 ∙ get_absent k ms h.1

pub lower_names : (k l : List ℕ) (ns : List (List ℕ)) → slice_cmp nat_cmp k l ≡ Less → AllByRecursion (λ n. slice_cmp nat_cmp l n ≡ Less) ns → AllByRecursion (λ n. slice_cmp nat_cmp k n ≡ Less) ns
lower_names k l [] lower h = h
lower_names k l (n ∷ ns) lower h = (nat_list_cmp_total.trans k l n lower h.0, lower_names k l ns lower h.1)

get_below : (k l : List ℕ) (e : Data) (ms : Members) → slice_cmp nat_cmp k l ≡ Less → AllByRecursion (λ n. slice_cmp nat_cmp l n ≡ Less) (member_names ms) → get_member k (member l e ms) ≡ None
get_below k l e ms lower above = get_absent k (member l e ms) (lower, lower_names k l (member_names ms) lower above)

-- ---- the members of one are among those of the other

abbrev Within : Members → Members → Type 0
Within a b = (k : List ℕ) (d : Data) → get_member k a ≡ Some d → get_member k b ≡ Some d

none_some : {A P : Type 0} (o : Option A) (a : A) → o ≡ None → o ≡ Some a → P
none_some None a e f = absurd cc
none_some (Some b) a e f = absurd cc

some_same : {A : Type 0} (a b : A) → Some a ≡ Some b → a ≡ b
some_same a b e = cc

rest_within : (k : List ℕ) (d e : Data) (xs ys : Members) → AllByRecursion (λ n. slice_cmp nat_cmp k n ≡ Less) (member_names xs) → Within (member k d xs) (member k e ys) → Within xs ys
rest_within k d e xs ys above h x y g = by_order (slice_cmp nat_cmp x k) refl
  where
    -- a name among the others is another one
    apart : slice_cmp nat_cmp x k ≡ Equal → get_member x ys ≡ Some y
    apart same = let is : x ≡ k = same_name x k same in none_some (get_member x xs) y (ap (λ z. get_member z xs) is ∙ get_absent k xs above) g

    by_order : (o : Ordering) → slice_cmp nat_cmp x k ≡ o → get_member x ys ≡ Some y
    by_order Less is =
        sym (at_less (slice_cmp nat_cmp x k) (get_member x ys) e is) ∙ h x y (at_less (slice_cmp nat_cmp x k) (get_member x xs) d is ∙ g)
    by_order Equal is = apart is
    by_order Greater is =
        sym (at_greater (slice_cmp nat_cmp x k) (get_member x ys) e is) ∙ h x y (at_greater (slice_cmp nat_cmp x k) (get_member x xs) d is ∙ g)

pub flipped : (k l : List ℕ) → slice_cmp nat_cmp k l ≡ Greater → slice_cmp nat_cmp l k ≡ Less
flipped k l e = rw (nat_list_cmp_total.antisymm l k, e) refl

-- two objects in order that answer the same are the same
pub same_members : (a b : Members) → AreInOrder (member_names a) → AreInOrder (member_names b) → Within a b → Within b a → a ≡ b
unfolding IsStrictlySortedBy
same_members no_members no_members oa ob f g = refl
same_members (member k d xs) no_members oa ob f g = none_some (get_member k no_members) d refl (f k d (get_first k d xs))
same_members no_members (member l e ys) oa ob f g = none_some (get_member l no_members) e refl (g l e (get_first l e ys))
same_members (member k d xs) (member l e ys) oa ob f g = by_order (slice_cmp nat_cmp k l) refl (same_members xs ys oa.1 ob.1)
  where
    by_order : (o : Ordering) → slice_cmp nat_cmp k l ≡ o → (Within xs ys → Within ys xs → xs ≡ ys) → member k d xs ≡ member l e ys
    by_order Less is others = none_some (get_member k (member l e ys)) d (get_below k l e ys is ob.0) (f k d (get_first k d xs))
    by_order Greater is others = none_some (get_member l (member k d xs)) e (get_below l k d xs (flipped k l is) oa.0) (g l e (get_first l e ys))
    by_order Equal is others =
        let name : k ≡ l = same_name k l is in
        let first : Within (member l d xs) (member l e ys) = subst (λ x. Within (member x d xs) (member l e ys)) name f in
        let back : Within (member l e ys) (member l d xs) = subst (λ x. Within (member l e ys) (member x d xs)) name g in
        let above : AllByRecursion (λ n. slice_cmp nat_cmp l n ≡ Less) (member_names xs) = subst (λ x. AllByRecursion (λ n. slice_cmp nat_cmp x n ≡ Less) (member_names xs)) name oa.0 in
        let value : e ≡ d = some_same e d (sym (get_first l e ys) ∙ first l d (get_first l d xs)) in
        let rest : xs ≡ ys = others (rest_within l d e xs ys above first) (rest_within l e d ys xs ob.0 back) in
        λ i. member (name i) (sym value i) (rest i)

-- ---- what was put

each_of : {A : Type 0} (P : A → Type 0) (ps : List A) → All P ps → Each P ps
each_of P [] h = tt
each_of P (p ∷ ps) h = (h 0 p (omega arith), each_of P ps (λ i d l. h (suc i) d (omega arith)))

all_of : {A : Type 0} (P : A → Type 0) (ps : List A) → Each P ps → All P ps
all_of P [] h i d l = absurd (omega arith)
all_of P (p ∷ ps) h zero d l = h.0
all_of P (p ∷ ps) h (suc i) d l = all_of P ps h.1 i d (omega arith)

pub each_moved : {A : Type 0} (P : A → Type 0) (ps qs : List A) → IsPermutation ps qs → Each P ps → Each P qs
each_moved P ps qs moved h = each_of P qs (All-permutation P ps qs moved (all_of P ps h))

put_at : (x k : List ℕ) (d : Data) (ms : Members) (P : Type 0) → (x ≡ k → P) → ((x ≡ k → ⊥) → P) → P
put_at x k d ms P same other = by_test (bytes_eq x k) refl
  where
    by_test : (b : Bool) → bytes_eq x k ≡ b → P
    by_test true e = same ((bytes_eq-Decides x k).0 e)
    by_test false e = other (λ is. true≢false (sym ((bytes_eq-Decides x k).1 is) ∙ e))

put_within : (k : List ℕ) (d : Data) (a b : Members) → get_member k b ≡ Some d → Within a b → Within (put k d a) b
put_within k d a b here h x y g =
    put_at x k d a (get_member x b ≡ Some y)
    (λ is. ap (λ z. get_member z b) is ∙ here ∙ sym (get_member-put k d a) ∙ sym (ap (λ z. get_member z (put k d a)) is) ∙ g)
    (λ apart. h x y (sym (get_member-put_other x k d a apart) ∙ g))

all_within : (ps : List Pair) (a b : Members) → Each (λ p. get_member p.0 b ≡ Some p.1) ps → Within a b → Within (put_all ps a) b
all_within [] a b h f = f
all_within (p ∷ ps) a b h f = all_within ps (put p.0 p.1 a) b h.1 (put_within p.0 p.1 a b h.0 f)

put_keeps : (x k : List ℕ) (d : Data) (a : Members) → has x a ≡ true → has x (put k d a) ≡ true
put_keeps x k d a h =
    put_at x k d a (has x (put k d a) ≡ true)
    (λ is. ap (λ z. has z (put k d a)) is ∙ ap is_some (get_member-put k d a))
    (λ apart. ap is_some (get_member-put_other x k d a apart) ∙ h)

all_keep : (x : List ℕ) (ps : List Pair) (a : Members) → has x a ≡ true → has x (put_all ps a) ≡ true
all_keep x [] a h = h
all_keep x (p ∷ ps) a h = all_keep x ps (put p.0 p.1 a) (put_keeps x p.0 p.1 a h)

all_there : (ps : List Pair) (a : Members) → Each (λ p. has p.0 (put_all ps a) ≡ true) ps
all_there [] a = tt
all_there (p ∷ ps) a = (all_keep p.0 ps (put p.0 p.1 a) (ap is_some (get_member-put p.0 p.1 a)), all_there ps (put p.0 p.1 a))

all_in_order : (ps : List Pair) (a : Members) → AreInOrder (member_names a) → AreInOrder (member_names (put_all ps a))
all_in_order [] a h = h
all_in_order (p ∷ ps) a h = all_in_order ps (put p.0 p.1 a) (put_in_order p.0 p.1 a h)

-- ---- what stands in order

later_get : (x k : List ℕ) (d : Data) (y : Data) (ms : Members) → AllByRecursion (λ n. slice_cmp nat_cmp k n ≡ Less) (member_names ms) → get_member x ms ≡ Some y → get_member x (member k d ms) ≡ Some y
later_get x k d y ms above g = by_order (slice_cmp nat_cmp x k) refl
  where
    by_order : (o : Ordering) → slice_cmp nat_cmp x k ≡ o → get_member x (member k d ms) ≡ Some y
    by_order Less is = at_less (slice_cmp nat_cmp x k) (get_member x ms) d is ∙ g
    by_order Equal is = none_some (get_member x ms) y (ap (λ z. get_member z ms) (same_name x k is) ∙ get_absent k ms above) g
    by_order Greater is = at_greater (slice_cmp nat_cmp x k) (get_member x ms) d is ∙ g

each_later : (k : List ℕ) (d : Data) (ms : Members) (qs : List Pair) → AllByRecursion (λ n. slice_cmp nat_cmp k n ≡ Less) (member_names ms) → Each (λ q. get_member q.0 ms ≡ Some q.1) qs → Each (λ q. get_member q.0 (member k d ms) ≡ Some q.1) qs
each_later k d ms [] above h = tt
each_later k d ms (q ∷ qs) above h = (later_get q.0 k d q.1 ms above h.0, each_later k d ms qs above h.1)

pub each_found : (qs : List Pair) → AreInOrder (member_names (members_from qs)) → Each (λ q. get_member q.0 (members_from qs) ≡ Some q.1) qs
unfolding IsStrictlySortedBy
each_found [] h = tt
each_found (q ∷ qs) h = (get_first q.0 q.1 (members_from qs), each_later q.0 q.1 (members_from qs) qs h.0 (each_found qs h.1))

from_within : (qs : List Pair) (a : Members) → Each (λ q. get_member q.0 a ≡ Some q.1) qs → Within (members_from qs) a
from_within [] a h x y g = none_some None y refl g
from_within (q ∷ qs) a h x y g = by_order (slice_cmp nat_cmp x q.0) refl (from_within qs a h.1)
  where
    by_order : (o : Ordering) → slice_cmp nat_cmp x q.0 ≡ o → Within (members_from qs) a → get_member x a ≡ Some y
    by_order Less is others = others x y (sym (at_less (slice_cmp nat_cmp x q.0) (get_member x (members_from qs)) q.1 is) ∙ g)
    by_order Equal is others =
        let found : Some q.1 ≡ Some y = sym (at_equal (slice_cmp nat_cmp x q.0) (get_member x (members_from qs)) q.1 is) ∙ g in
        ap (λ z. get_member z a) (same_name x q.0 is) ∙ h.0 ∙ found
    by_order Greater is others = others x y (sym (at_greater (slice_cmp nat_cmp x q.0) (get_member x (members_from qs)) q.1 is) ∙ g)

there_and_within : (a b : Members) (qs : List Pair) → Within a b → Each (λ q. has q.0 a ≡ true) qs → Each (λ q. get_member q.0 b ≡ Some q.1) qs → Each (λ q. get_member q.0 a ≡ Some q.1) qs
there_and_within a b [] f h g = tt
there_and_within a b (q ∷ qs) f h g = (by_answer (get_member q.0 a) refl h.0, there_and_within a b qs f h.1 g.1)
  where
    by_answer : (o : Option Data) → get_member q.0 a ≡ o → is_some o ≡ true → get_member q.0 a ≡ Some q.1
    by_answer None is s = absurd (false≢true s)
    by_answer (Some y) is s = is ∙ sym (f q.0 y is) ∙ g.0

-- members that were put in one after another are those in order, where those in order ascend
pub put_in_any_order : (ps qs : List Pair) → IsPermutation ps qs → AreInOrder (member_names (members_from qs)) → put_all ps no_members ≡ members_from qs
put_in_any_order ps qs moved order =
    let b = members_from qs in
    let a = put_all ps no_members in
    let found : Each (λ q. get_member q.0 b ≡ Some q.1) qs = each_found qs order in
    let inside : Within a b = all_within ps no_members b (each_moved (λ q. get_member q.0 b ≡ Some q.1) qs ps (IsPermutation-sym ps qs moved) found) (λ x y g. none_some None y refl g) in
    let there : Each (λ q. has q.0 a ≡ true) qs = each_moved (λ q. has q.0 a ≡ true) ps qs moved (all_there ps no_members) in
    let outside : Within b a = from_within qs a (there_and_within a b qs inside there found) in
    same_members a b (all_in_order ps no_members none_in_order) order inside outside

-- ---- their entries

entries_sum : (ps : List Pair) → entries_of ps ≡ sum_by (λ p. suc (entries p.1)) ps
entries_sum [] = refl
entries_sum (p ∷ ps) = omega (arith, entries_sum ps, sum_by-cons (λ (q : Pair). suc (entries q.1)) p ps)

pub entries_moved : (ps qs : List Pair) → IsPermutation ps qs → entries_of qs ≡ entries_of ps
entries_moved ps qs moved = entries_sum qs ∙ sum_by-IsPermutation (λ (p : Pair). suc (entries p.1)) ps qs moved ∙ sym (entries_sum ps)

pub entries_from : (qs : List Pair) → members_entries (members_from qs) ≡ entries_of qs
entries_from [] = refl
entries_from (q ∷ qs) = omega (arith, entries_from qs)
