-- What stands in a store stands in it still when it has grown.
use Rattle.std.proofs.Common.{◌≡◌, ℕ, zero, suc, ◌+◌, ◌<◌, ◌≤◌, Bool as IsShort, true, false, nat_le, Vec, List, [], ◌∷◌, ◌++◌, map, length, get_or, take, drop, refl, sym, ap, ◌∙◌, subst, arith}
use Rattle.std.proofs.lemmas.Bool.{le-leb, lt-leb}
use Rattle.std.proofs.lemmas.List.{append_assoc, append-nil, length-append}
use Rattle.std.specs.Global.{Global}
use Rattle.std.specs.Str.{IsUtf8}
use Rattle.serde_json.specs.Data.{Data, null, array, object}
use Rattle.serde_json.specs.View.{items_of}
use Rattle.jwt_text.specs.Members.{AreInOrder}
use Rattle.jwt_text.specs.declared.node.Node.{Node}
use Rattle.jwt_text.specs.declared.node.Node.TheVariants.{Null, Bool, Unsigned, Negative, Float, Text, List as ListOf, Object as ObjectOf}
use Rattle.jwt_text.specs.declared.node.Entry.{Entry}
use Rattle.jwt_text.specs.declared.node.Span.{Span}
use Rattle.jwt_text.specs.declared.store.Store.{Store}
use Rattle.jwt_text.specs.Flat.{piece, short, long_at, run_by, run_of, IsRunBy, IsRun, text_of, members_from, node_with, node_data, entry_names, IsText, Each, AreEntries, IsNodeWith, IsNode}
use Rattle.jwt_text.specs.Growth.{Extends, AddsText, AddsNodes, AddsEntries}
use Rattle.jwt_text.proofs.Levels.{each_same, each_from}

abbrev pair_by : (Node → Data) → Store → Entry → List ℕ × Data
pair_by f s e = (text_of s e.name, f e.node)

take_front : {A : Type 0} (n : ℕ) (xs ys : List A) → n ≤ length xs → take n (xs ++ ys) ≡ take n xs
take_front zero xs ys h = refl
take_front (suc n) [] ys h = absurd (omega arith)
take_front (suc n) (x ∷ xs) ys h = ap (λ l. x ∷ l) (take_front n xs ys (omega arith))

-- a run of a prefix of a list
pub piece_front : {A : Type 0} (start len : ℕ) (xs ys : List A) → start + len ≤ length xs → take len (drop start (xs ++ ys)) ≡ take len (drop start xs)
piece_front zero len xs ys h = take_front len xs ys (omega arith)
piece_front (suc start) len [] ys h = absurd (omega arith)
piece_front (suc start) len (x ∷ xs) ys h = piece_front start len xs ys (omega arith)

-- the run that was added at the end
pub piece_end : {A : Type 0} (xs ys : List A) → take (length ys) (drop (length xs) (xs ++ ys)) ≡ ys
piece_end [] [] = refl
piece_end [] (y ∷ ys) = ap (λ l. y ∷ l) (piece_end [] ys)
piece_end (x ∷ xs) ys = piece_end xs ys

pub extends_itself : (s : Store) → Extends s s
extends_itself s = record { octets = []; entries = []; octets_are = sym (append-nil s.text.items); entries_are = sym (append-nil s.entries.items); lists_are = λ p h. (h, refl) }

pub extends_further : (s t u : Store) → Extends s t → Extends t u → Extends s u
extends_further s t u e f = record {
  octets = e.octets ++ f.octets;
  entries = e.entries ++ f.entries;
  octets_are = f.octets_are ∙ ap (λ l. l ++ f.octets) e.octets_are ∙ append_assoc s.text.items e.octets f.octets;
  entries_are = f.entries_are ∙ ap (λ l. l ++ f.entries) e.entries_are ∙ append_assoc s.entries.items e.entries f.entries;
  lists_are = λ p h. let one = e.lists_are p h in let two = f.lists_are p one.0 in (two.0, two.1 ∙ one.1);
}

module _ (s t : Store) (e : Extends s t) where
  pub text_stays : (p : Span) → IsText s p → text_of t p ≡ text_of s p
  text_stays p h = ap (λ l. take p.len (drop p.start l)) e.octets_are ∙ piece_front p.start p.len s.text.items e.octets h.0

  nodes_stay : (p : Span) → IsRun s p → run_of t p ≡ run_of s p
  nodes_stay p h = (e.lists_are p h).1

  entries_stay : (p : Span) → p.start + p.len ≤ length s.entries.items → piece t.entries.items p ≡ piece s.entries.items p
  entries_stay p h = ap (λ l. take p.len (drop p.start l)) e.entries_are ∙ piece_front p.start p.len s.entries.items e.entries h

  pub IsText_stays : (p : Span) → IsText s p → IsText t p
  IsText_stays p h = (omega (arith, h.0, ap length e.octets_are, length-append s.text.items e.octets), subst IsUtf8 (sym (text_stays p h)) h.1)

  names_stay : (es : List Entry) → Each (λ d. IsText s d.name) es → entry_names t es ≡ entry_names s es
  names_stay es h = each_same (λ d. IsText s d.name) (λ d. text_of t d.name) (λ d. text_of s d.name) (λ d q. text_stays d.name q) es h

  module _ (P Q : Node → Type 0) (f g : Node → Data) (keeps : (n : Node) → P n → Q n) (same : (n : Node) → P n → g n ≡ f n) where
    pub entries_keep : (es : List Entry) → AreEntries P s es → AreEntries Q t es
    entries_keep es h = (
      each_from (λ d. IsText s d.name × P d.node) (λ d. IsText t d.name × Q d.node) (λ d q. (IsText_stays d.name q.0, keeps d.node q.1)) es h.0,
      subst AreInOrder (sym (names_stay es (each_from (λ d. IsText s d.name × P d.node) (λ d. IsText s d.name) (λ d q. q.0) es h.0))) h.1,
    )

    pub pairs_keep : (es : List Entry) → Each (λ d. IsText s d.name × P d.node) es → map (pair_by g t) es ≡ map (pair_by f s) es
    pairs_keep es h = each_same (λ d. IsText s d.name × P d.node) (pair_by g t) (pair_by f s) (λ d q i. (text_stays d.name q.0 i, same d.node q.1 i)) es h

    keeps_with : (n : Node) → IsNodeWith P s n → IsNodeWith Q t n
    keeps_with Null h = tt
    keeps_with (Bool b) h = tt
    keeps_with (Unsigned n) h = tt
    keeps_with (Negative z) h = tt
    keeps_with (Float x) h = tt
    keeps_with (Text p) h = IsText_stays p h
    keeps_with (ListOf p) h = ((e.lists_are p h.0).0, subst (Each Q) (sym (nodes_stay p h.0)) (each_from P Q keeps (run_of s p) h.1))
    keeps_with (ObjectOf p) h = (omega (arith, h.0, ap length e.entries_are, length-append s.entries.items e.entries), subst (AreEntries Q t) (sym (entries_stay p h.0)) (entries_keep (piece s.entries.items p) h.1))

    same_with : (n : Node) → IsNodeWith P s n → node_with g t n ≡ node_with f s n
    same_with Null h = refl
    same_with (Bool b) h = refl
    same_with (Unsigned n) h = refl
    same_with (Negative z) h = refl
    same_with (Float x) h = refl
    same_with (Text p) h = ap Data.string (text_stays p h)
    same_with (ListOf p) h = ap (λ ns. array (items_of (map g ns))) (nodes_stay p h.0) ∙ ap (λ ds. array (items_of ds)) (each_same P g f same (run_of s p) h.1)
    same_with (ObjectOf p) h = ap (λ es. object (members_from (map (pair_by g t) es))) (entries_stay p h.0) ∙ ap (λ l. object (members_from l)) (pairs_keep (piece s.entries.items p) h.1.0)

pub node_keeps : (k : ℕ) (s t : Store) → Extends s t → (n : Node) → IsNode k s n → IsNode k t n
unfolding IsNode
node_keeps zero s t e n h = keeps_with s t e (λ m. ⊥) (λ m. ⊥) (λ m. null) (λ m. null) (λ m q. q) (λ m q. refl) n h
node_keeps (suc k) s t e n h = keeps_with s t e (IsNode k s) (IsNode k t) (node_data k s) (node_data k s) (node_keeps k s t e) (λ m q. refl) n h

pub node_stays : (k : ℕ) (s t : Store) → Extends s t → (n : Node) → IsNode k s n → node_data k t n ≡ node_data k s n
unfolding IsNode node_data
node_stays zero s t e n h = same_with s t e (λ m. ⊥) (λ m. ⊥) (λ m. null) (λ m. null) (λ m q. q) (λ m q. refl) n h
node_stays (suc k) s t e n h = same_with s t e (IsNode k s) (IsNode k t) (node_data k s) (node_data k t) (node_keeps k s t e) (node_stays k s t e) n h

-- ---- one more run at the end

no_more : {A : Type 0} (xs ys : List A) → ys ≡ xs → ys ≡ xs ++ []
no_more xs ys e = e ∙ sym (append-nil xs)

piece_is : {A : Type 0} (xs ys zs : List A) (p : Span) → zs ≡ xs ++ ys → p.start ≡ length xs → p.len ≡ length ys → piece zs p ≡ ys
piece_is xs ys zs p e start len = (λ i. take (len i) (drop (start i) (e i))) ∙ piece_end xs ys

within : {A : Type 0} (xs ys zs : List A) (p : Span) → zs ≡ xs ++ ys → p.start ≡ length xs → p.len ≡ length ys → p.start + p.len ≤ length zs
within xs ys zs p e start len = omega (arith, ap length e, length-append xs ys, start, len)

-- ---- lists, of which none was added, or one, short or long

abbrev ListsAre : Store → Store → Type 0
ListsAre s t = (p : Span) → IsRun s p → IsRun t p × (run_of t p ≡ run_of s p)

abbrev ListIs : Store → Store → Span → IsShort → Type 0
ListIs s t p b = IsRunBy b s p → IsRunBy b t p × (run_by b t p ≡ run_by b s p)

long_front : (xs ys : List (Vec Node Global)) (i : ℕ) → i < length xs → long_at (xs ++ ys) i ≡ long_at xs i
long_front [] ys i h = absurd (omega arith)
long_front (x ∷ xs) ys zero h = refl
long_front (x ∷ xs) ys (suc i) h = long_front xs ys i (omega arith)

long_end : (xs : List (Vec Node Global)) (v : Vec Node Global) → long_at (xs ++ v ∷ []) (length xs) ≡ v.items
long_end [] v = refl
long_end (x ∷ xs) v = long_end xs v

pub long_is : (xs : List (Vec Node Global)) (i : ℕ) (d : Vec Node Global) → i < length xs → (get_or xs i d).items ≡ long_at xs i
long_is [] i d h = absurd (omega arith)
long_is (x ∷ xs) zero d h = refl
long_is (x ∷ xs) (suc i) d h = long_is xs i d (omega arith)

lists_kept : (s t : Store) (ns : List Node) (vs : List (Vec Node Global)) → t.nodes.items ≡ s.nodes.items ++ ns → t.long.items ≡ s.long.items ++ vs → ListsAre s t
lists_kept s t ns vs nodes long p = by_size (nat_le p.len short)
  where
    by_size : (b : IsShort) → ListIs s t p b
    by_size true h = (omega (arith, h, ap length nodes, length-append s.nodes.items ns), ap (λ l. piece l p) nodes ∙ piece_front p.start p.len s.nodes.items ns h)
    by_size false h = (omega (arith, h, ap length long, length-append s.long.items vs), ap (λ l. long_at l p.start) long ∙ long_front s.long.items vs p.start h)

same_lists : (s t : Store) → t.nodes.items ≡ s.nodes.items → t.long.items ≡ s.long.items → ListsAre s t
same_lists s t nodes long = lists_kept s t [] [] (no_more s.nodes.items t.nodes.items nodes) (no_more s.long.items t.long.items long)

-- ---- what was added

pub adds_text : (s t : Store) (xs : List ℕ) (p : Span) → IsUtf8 xs → t.text.items ≡ s.text.items ++ xs → t.nodes.items ≡ s.nodes.items → t.long.items ≡ s.long.items → t.entries.items ≡ s.entries.items → p.start ≡ length s.text.items → p.len ≡ length xs → AddsText s t xs p
adds_text s t xs p utf8 octets nodes long entries start len =
    let is : text_of t p ≡ xs = piece_is s.text.items xs t.text.items p octets start len in
    record {
      grows = record { octets = xs; entries = []; octets_are = octets; entries_are = no_more s.entries.items t.entries.items entries; lists_are = same_lists s t nodes long };
      holds = (within s.text.items xs t.text.items p octets start len, subst IsUtf8 (sym is) utf8);
      is = is;
    }

pub adds_short : (s t : Store) (ns : List Node) (p : Span) → t.text.items ≡ s.text.items → t.nodes.items ≡ s.nodes.items ++ ns → t.long.items ≡ s.long.items → t.entries.items ≡ s.entries.items → p.start ≡ length s.nodes.items → p.len ≡ length ns → p.len ≤ short → AddsNodes s t ns p
adds_short s t ns p octets nodes long entries start len few =
    let size : nat_le p.len short ≡ true = le-leb p.len short few in
    record {
      grows = record { octets = []; entries = []; octets_are = no_more s.text.items t.text.items octets; entries_are = no_more s.entries.items t.entries.items entries; lists_are = lists_kept s t ns [] nodes (no_more s.long.items t.long.items long) };
      within = subst (λ b. IsRunBy b t p) (sym size) (within s.nodes.items ns t.nodes.items p nodes start len);
      is = ap (λ b. run_by b t p) size ∙ piece_is s.nodes.items ns t.nodes.items p nodes start len;
    }

pub adds_long : (s t : Store) (v : Vec Node Global) (ns : List Node) (p : Span) → v.items ≡ ns → t.text.items ≡ s.text.items → t.nodes.items ≡ s.nodes.items → t.long.items ≡ s.long.items ++ v ∷ [] → t.entries.items ≡ s.entries.items → p.start ≡ length s.long.items → short < p.len → AddsNodes s t ns p
adds_long s t v ns p same octets nodes long entries start many =
    let size : nat_le p.len short ≡ false = lt-leb p.len short many in
    record {
      grows = record { octets = []; entries = []; octets_are = no_more s.text.items t.text.items octets; entries_are = no_more s.entries.items t.entries.items entries; lists_are = lists_kept s t [] (v ∷ []) (no_more s.nodes.items t.nodes.items nodes) long };
      within = subst (λ b. IsRunBy b t p) (sym size) (omega (arith, ap length long, length-append s.long.items (v ∷ []), start));
      is = ap (λ b. run_by b t p) size ∙ (λ i. long_at (long i) (start i)) ∙ long_end s.long.items v ∙ same;
    }

pub adds_entries : (s t : Store) (es : List Entry) (p : Span) → t.text.items ≡ s.text.items → t.nodes.items ≡ s.nodes.items → t.long.items ≡ s.long.items → t.entries.items ≡ s.entries.items ++ es → p.start ≡ length s.entries.items → p.len ≡ length es → AddsEntries s t es p
adds_entries s t es p octets nodes long entries start len = record {
  grows = record { octets = []; entries = es; octets_are = no_more s.text.items t.text.items octets; entries_are = entries; lists_are = same_lists s t nodes long };
  within = within s.entries.items es t.entries.items p entries start len;
  is = piece_is s.entries.items es t.entries.items p entries start len;
}
