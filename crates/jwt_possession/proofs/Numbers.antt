-- How many an owner has, as things are taken and let go.
use Rattle.std.proofs.Common.{◌≡◌, ◌≤◌, ◌<◌, ◌+◌, ℕ, Bool, true, false, cond, List, Option, Some, None, unwrap_or, inl, inr, sym, ap, ◌∙◌, arith}
use Rattle.std.specs.Option.{option_map, option_map_or}
use Rattle.std.specs.Ordering.{is_eq}
use Rattle.std.specs.List.{sum_by}
use Rattle.std.specs.Map.{lookup, remove_entry, values_of}
use Rattle.std.specs.BTreeMap.{BTreeMap, is_at, insert_entry, IsOrdered}
use Rattle.std.proofs.lemmas.Bool.{cases_Bool, false≢true}
use Rattle.std.proofs.lemmas.Cmp.{nat_list_cmp_total}
use Rattle.std.proofs.lemmas.Map.Entries.{sum_by-remove_entry, sum_by-insert_entry}
use Rattle.jwt_possession.specs.declared.once.table.Holding.{Holding}
use Rattle.jwt_possession.specs.once.Tables.{by_mark, held_in, is_of, number_of, number_in}
use Rattle.jwt_possession.proofs.Queue.{Writes, at_mark, elsewhere, same_mark, mark_itself}

abbrev one_of : List ℕ → Holding → ℕ
one_of owner its = cond (is_of owner its) 1 0

pub less : (m n : BTreeMap (List ℕ) Holding) (mark : List ℕ) (it : Holding) → n.entries ≡ remove_entry (is_at (by_mark mark)) m.entries → held_in m mark ≡ Some it
    → (owner : List ℕ) → number_of owner n + cond (is_of owner it) 1 0 ≡ number_of owner m
less m n mark it entries is owner =
    ap (λ (es : List (List ℕ × Holding)). sum_by (one_of owner) (values_of es) + one_of owner it) entries
    ∙ ap (λ (o : Option Holding). sum_by (one_of owner) (values_of (remove_entry (is_at (by_mark mark)) m.entries)) + unwrap_or (option_map (one_of owner) o) 0) (sym is)
    ∙ sum_by-remove_entry (one_of owner) (is_at (by_mark mark)) m.entries

pub more : (m n : BTreeMap (List ℕ) Holding) (mark : List ℕ) (it : Holding) → IsOrdered by_mark m → n.entries ≡ insert_entry by_mark m.entries mark it → held_in m mark ≡ None
    → (owner : List ℕ) → number_of owner n ≡ number_of owner m + cond (is_of owner it) 1 0
more m n mark it ordered entries absent owner =
    let sums = sum_by-insert_entry (one_of owner) nat_list_cmp_total m.entries mark it ordered in
    let none = ap (λ (o : Option Holding). unwrap_or (option_map (one_of owner) o) 0) absent in
    let there = ap (λ (es : List (List ℕ × Holding)). sum_by (one_of owner) (values_of es)) entries in
    omega (arith, sums, none, there)

-- whose something is
pub of_one : (it : Holding) (owner whose : List ℕ) → it.owner ≡ Some owner → is_of whose it ≡ is_eq (by_mark owner whose)
of_one it owner whose of = ap (λ (o : Option (List ℕ)). option_map_or (λ p. is_eq (by_mark p whose)) o false) of

pub of_none : (it : Holding) (whose : List ℕ) → it.owner ≡ None → is_of whose it ≡ false
of_none it whose of = ap (λ (o : Option (List ℕ)). option_map_or (λ p. is_eq (by_mark p whose)) o false) of

module _ (m n : BTreeMap (List ℕ) ℕ) (owner : List ℕ) (put : Option ℕ) (up : Writes m n owner put) where
  number_here : (whose : List ℕ) → is_eq (by_mark owner whose) ≡ true → (number_in n whose ≡ unwrap_or put 0) × (number_in m whose ≡ number_in m owner)
  number_here whose e = (ap (λ (o : Option ℕ). unwrap_or o 0) (at_mark m n owner put up whose e), ap (number_in m) (sym (same_mark owner whose e)))

  number_there : (whose : List ℕ) → is_eq (by_mark owner whose) ≡ false → number_in n whose ≡ number_in m whose
  number_there whose e = ap (λ (o : Option ℕ). unwrap_or o 0) (elsewhere m n owner put up whose e)

  pub counts_more : unwrap_or put 0 ≡ number_in m owner + 1 → (whose : List ℕ) → number_in n whose ≡ number_in m whose + cond (is_eq (by_mark owner whose)) 1 0
  counts_more one whose = elim (cases_Bool (is_eq (by_mark owner whose))) [
    | inl e ↦ (let h = number_here whose e in let b = ap {B = ℕ} (λ (t : Bool). cond t 1 0) e in omega (arith, h.0, h.1, b, one))
    | inr e ↦ (let h = number_there whose e in let b = ap {B = ℕ} (λ (t : Bool). cond t 1 0) e in omega (arith, h, b))
  ]

  pub counts_less : unwrap_or put 0 + 1 ≡ number_in m owner → (whose : List ℕ) → number_in n whose + cond (is_eq (by_mark owner whose)) 1 0 ≡ number_in m whose
  counts_less one whose = elim (cases_Bool (is_eq (by_mark owner whose))) [
    | inl e ↦ (let h = number_here whose e in let b = ap {B = ℕ} (λ (t : Bool). cond t 1 0) e in omega (arith, h.0, h.1, b, one))
    | inr e ↦ (let h = number_there whose e in let b = ap {B = ℕ} (λ (t : Bool). cond t 1 0) e in omega (arith, h, b))
  ]

-- the numbers go with what is held
abbrev pub Counted : BTreeMap (List ℕ) Holding → BTreeMap (List ℕ) ℕ → Type 0
Counted held numbers = (owner : List ℕ) → number_in numbers owner ≡ number_of owner held

module _ (m n : BTreeMap (List ℕ) Holding) (k l : BTreeMap (List ℕ) ℕ) (it : Holding) (owner : List ℕ) (of : it.owner ≡ Some owner) where
  same_one : (whose : List ℕ) → ◌≡◌ {A = ℕ} (cond (is_of whose it) 1 0) (cond (is_eq (by_mark owner whose)) 1 0)
  same_one whose = ap (λ (b : Bool). cond b 1 0) (of_one it owner whose of)

  pub counted_less : ((whose : List ℕ) → number_of whose n + cond (is_of whose it) 1 0 ≡ number_of whose m)
      → ((whose : List ℕ) → number_in l whose + cond (is_eq (by_mark owner whose)) 1 0 ≡ number_in k whose) → Counted m k → Counted n l
  counted_less held numbers was whose = omega (arith, held whose, numbers whose, was whose, same_one whose)

  pub counted_more : ((whose : List ℕ) → number_of whose n ≡ number_of whose m + cond (is_of whose it) 1 0)
      → ((whose : List ℕ) → number_in l whose ≡ number_in k whose + cond (is_eq (by_mark owner whose)) 1 0) → Counted m k → Counted n l
  counted_more held numbers was whose = omega (arith, held whose, numbers whose, was whose, same_one whose)

pub owner_from : (o : Option (List ℕ)) (whose : List ℕ) → option_map_or (λ p. is_eq (by_mark p whose)) o false ≡ true → o ≡ Some whose
owner_from None whose h = absurd (false≢true h)
owner_from (Some p) whose h = ap Some (same_mark p whose h)

-- no owner has more than its share, where one that has less has one more
pub shared_more : (m n : BTreeMap (List ℕ) Holding) (it : Holding) (share : ℕ) → ((whose : List ℕ) → number_of whose n ≡ number_of whose m + cond (is_of whose it) 1 0)
    → ((whose : List ℕ) → it.owner ≡ Some whose → number_of whose m < share) → ((whose : List ℕ) → number_of whose m ≤ share) → (whose : List ℕ) → number_of whose n ≤ share
shared_more m n it share held below was whose = elim (cases_Bool (is_of whose it)) [
  | inl e ↦ (let b = ap {B = ℕ} (λ (t : Bool). cond t 1 0) e in omega (arith, held whose, b, below whose (owner_from it.owner whose e)))
  | inr e ↦ (let b = ap {B = ℕ} (λ (t : Bool). cond t 1 0) e in omega (arith, held whose, b, was whose))
]

-- what is nobody's counts with nobody
pub counted_less_none : (m n : BTreeMap (List ℕ) Holding) (k : BTreeMap (List ℕ) ℕ) (it : Holding) → it.owner ≡ None
    → ((whose : List ℕ) → number_of whose n + cond (is_of whose it) 1 0 ≡ number_of whose m) → Counted m k → Counted n k
counted_less_none m n k it of held was whose = let b = ap {B = ℕ} (λ (t : Bool). cond t 1 0) (of_none it whose of) in omega (arith, held whose, was whose, b)

pub counted_more_none : (m n : BTreeMap (List ℕ) Holding) (k : BTreeMap (List ℕ) ℕ) (it : Holding) → it.owner ≡ None
    → ((whose : List ℕ) → number_of whose n ≡ number_of whose m + cond (is_of whose it) 1 0) → Counted m k → Counted n k
counted_more_none m n k it of held was whose = let b = ap {B = ℕ} (λ (t : Bool). cond t 1 0) (of_none it whose of) in omega (arith, held whose, was whose, b)

-- the owner's own counts
pub of_itself : (it : Holding) (owner : List ℕ) → it.owner ≡ Some owner → ◌≡◌ {A = ℕ} (cond (is_of owner it) 1 0) 1
of_itself it owner of = ap (λ (b : Bool). let n : ℕ = cond b 1 0 in n) (of_one it owner owner of ∙ mark_itself owner)

-- the same entries
pub same_number : (m n : BTreeMap (List ℕ) Holding) → n.entries ≡ m.entries → (whose : List ℕ) → number_of whose n ≡ number_of whose m
same_number m n same whose = ap (λ (es : List (List ℕ × Holding)). sum_by (one_of whose) (values_of es)) same

pub same_held : (m n : BTreeMap (List ℕ) Holding) → n.entries ≡ m.entries → (mark : List ℕ) → held_in n mark ≡ held_in m mark
same_held m n same mark = ap (lookup (is_at (by_mark mark))) same
