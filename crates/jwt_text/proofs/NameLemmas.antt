-- Names in ascending order.
use Rattle.std.proofs.lemmas.List.{get_or_default}
use Rattle.std.proofs.Common.{◌≡◌, ℕ, suc, ◌+◌, ◌-◌, ◌<◌, ◌≤◌, below_more, ap, ◌∙◌, List, [], ◌∷◌, length, get_or, nat_cmp, refl, arith}
use Rattle.std.proofs.lemmas.Cmp.{nat_list_cmp_total}
use Rattle.std.specs.Cmp.Lexicographic.{slice_cmp}
use Rattle.std.specs.List.{AllByRecursion}
use Rattle.std.specs.List.Sorted.{IsStrictlySortedBy}
use Rattle.std.specs.declared.cmp.Ordering.TheVariants.{Less}
use Rattle.jwt_text.specs.Members.{AreInOrder}
use Rattle.jwt_text.specs.declared.node.Entry.{Entry}
use Rattle.jwt_text.specs.declared.store.Store.{Store}
use Rattle.jwt_text.specs.Flat.{text_of, entry_names}

-- below a name, and so below all those above it
below : (k l : List ℕ) (ns : List (List ℕ)) → slice_cmp nat_cmp k l ≡ Less → AllByRecursion (λ n. slice_cmp nat_cmp l n ≡ Less) ns → AllByRecursion (λ n. slice_cmp nat_cmp k n ≡ Less) ns
below k l [] lower h = h
below k l (n ∷ ns) lower h = (nat_list_cmp_total.trans k l n lower h.0, below k l ns lower h.1)

-- each of the first n names is below the next
abbrev pub Ascends : Store → List Entry → ℕ → Type 0
Ascends s es n = (i : ℕ) (d : Entry) → suc i < n → slice_cmp nat_cmp (text_of s (get_or es i d).name) (text_of s (get_or es (suc i) d).name) ≡ Less

pub ascending : (s : Store) (es : List Entry) → Ascends s es (length es) → AreInOrder (entry_names s es)
unfolding IsStrictlySortedBy
ascending s [] h = tt
ascending s (e ∷ []) h = (tt, tt)
ascending s (e ∷ f ∷ es) h =
    let rest = ascending s (f ∷ es) (λ i d l. h (suc i) d (omega arith)) in
    let first : slice_cmp nat_cmp (text_of s e.name) (text_of s f.name) ≡ Less = h 0 e (omega arith) in
    ((first, below (text_of s e.name) (text_of s f.name) (entry_names s es) first rest.0), rest)

-- one more name is above the one before it
pub ascends_more : (s : Store) (es : List Entry) (n : ℕ) (d f : Entry) → 1 ≤ n → n < length es → Ascends s es n
    → slice_cmp nat_cmp (text_of s (get_or es (n - 1) d).name) (text_of s (get_or es n f).name) ≡ Less → Ascends s es (n + 1)
ascends_more s es n d f some within before lower =
    let Next : ℕ → Type 0 = λ j. (i : ℕ) (e : Entry) → suc i ≡ j → slice_cmp nat_cmp (text_of s (get_or es i e).name) (text_of s (get_or es (suc i) e).name) ≡ Less in
    let earlier : (j : ℕ) → j < n → Next j = λ j m i e q. before i e (omega (arith, m, q)) in
    let last : Next n = λ i e q.
    let at : i ≡ n - 1 = omega (arith, q) in
    let first : get_or es i e ≡ get_or es (n - 1) d = ap (λ k. get_or es k e) at ∙ get_or_default es (n - 1) e d (omega (arith, within, some)) in
    let second : get_or es (suc i) e ≡ get_or es n f = ap (λ k. get_or es k e) q ∙ get_or_default es n e f within in
    (λ k. slice_cmp nat_cmp (text_of s (first k).name) (text_of s (second k).name)) ∙ lower in
    λ i e l. below_more Next n earlier last (suc i) (omega (arith, l)) i e refl
