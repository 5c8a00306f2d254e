-- What stands in one store, copied into another.
use Rattle.std.proofs.Common.{◌≡◌, ℕ, suc, ◌+◌, ◌-◌, ◌<◌, ◌≤◌, List, [], ◌∷◌, ◌++◌, map, length, take, get_or, refl, sym, ap, ◌∙◌, subst, arith}
use Rattle.std.proofs.lemmas.List.{take_more, take_all}
use Rattle.serde_json.specs.Data.{Data, array, object, string}
use Rattle.serde_json.specs.View.{items_of}
use Rattle.jwt_text.specs.Members.{AreInOrder}
use Rattle.jwt_text.specs.declared.node.Entry.{Entry}
use Rattle.jwt_text.specs.declared.node.Node.{Node}
use Rattle.jwt_text.specs.declared.node.Span.{Span}
use Rattle.jwt_text.specs.declared.store.Store.{Store}
use Rattle.jwt_text.specs.Flat.{piece, text_of, members_from, node_data, members_data, entry_names, IsText, Each, AreEntries, IsNode, run_of, IsRun}
use Rattle.jwt_text.specs.Growth.{AddsText, AddsNodes, AddsEntries}
use Rattle.jwt_text.specs.Reads.{pair}
use Rattle.jwt_text.specs.Copies.{CopiesNode, CopiesNodes, CopiesEntries}
use Rattle.jwt_text.proofs.CopyInvariants.{CopiesPairs}
use Rattle.jwt_text.proofs.Levels.{each_same, each_from, text_level}
use Rattle.jwt_text.proofs.GrowthLemmas.{extends_itself, extends_further, entries_keep, node_keeps, node_stays, text_stays, IsText_stays}
use Rattle.jwt_text.proofs.ReadTurns.{map_append, each_append, pairs_stay, each_stays}
use Rattle.jwt_text.proofs.ReadValues.{text_seen, text_holds, at_once}

-- ---- what a node needs of its store

pub text_inside_node : (k : ℕ) (s : Store) (p : Span) → IsNode k s (Node.Text p) → IsText s p
text_inside_node k s p h = (text_level k s p h).0

below_is : (k : ℕ) → 0 < k → k ≡ suc (k - 1)
below_is k some = omega arith

list_parts : (m : ℕ) (s : Store) (p : Span) → IsNode (suc m) s (Node.List p) → (IsRun s p) × Each (IsNode m s) (run_of s p)
unfolding IsNode
list_parts m s p h = h

pub list_below : (k : ℕ) (s : Store) (p : Span) → 0 < k → IsNode k s (Node.List p) → (IsRun s p) × Each (IsNode (k - 1) s) (run_of s p)
list_below k s p some h = list_parts (k - 1) s p (subst (λ j. IsNode j s (Node.List p)) (below_is k some) h)

object_parts : (m : ℕ) (s : Store) (p : Span) → IsNode (suc m) s (Node.Object p) → (p.start + p.len ≤ length s.entries.items) × AreEntries (IsNode m s) s (piece s.entries.items p)
unfolding IsNode
object_parts m s p h = h

pub object_below : (k : ℕ) (s : Store) (p : Span) → 0 < k → IsNode k s (Node.Object p) → (p.start + p.len ≤ length s.entries.items) × AreEntries (IsNode (k - 1) s) s (piece s.entries.items p)
object_below k s p some h = object_parts (k - 1) s p (subst (λ j. IsNode j s (Node.Object p)) (below_is k some) h)

-- ---- a node

pub text_copied : (k : ℕ) (src : Store) (p : Span) (s t : Store) (xs : List ℕ) (q : Span) → xs ≡ text_of src p → AddsText s t xs q → CopiesNode k src (Node.Text p) s t (Node.Text q)
text_copied k src p s t xs q is adds = record {
  is = text_seen k t q ∙ ap string (adds.is ∙ is) ∙ sym (text_seen k src p);
  holds = text_holds k t q adds.holds;
  grows = adds.grows;
}

-- a node that needs nothing of its store
pub leaf_copied : (k : ℕ) (src s : Store) (n : Node) → node_data k s n ≡ node_data k src n → IsNode k s n → CopiesNode k src n s s n
leaf_copied k src s n is holds = record { is = is; holds = holds; grows = extends_itself s }

list_above : (m : ℕ) (src : Store) (p : Span) (s t u : Store) (ns : List Node) (q : Span) → CopiesNodes m src (run_of src p) s t ns → AddsNodes t u ns q → CopiesNode (suc m) src (Node.List p) s u (Node.List q)
unfolding node_data IsNode
list_above m src p s t u ns q c adds = record {
  is =
      ap (λ l. array (items_of (map (node_data m u) l))) adds.is
      ∙ ap (λ l. array (items_of l)) (each_same (IsNode m t) (node_data m u) (node_data m t) (node_stays m t u adds.grows) ns c.holds ∙ c.is);
  holds = (adds.within, subst (Each (IsNode m u)) (sym adds.is) (each_from (IsNode m t) (IsNode m u) (node_keeps m t u adds.grows) ns c.holds));
  grows = extends_further s t u c.grows adds.grows;
}

pub list_copied : (k : ℕ) (src : Store) (p : Span) (s t u : Store) (ns : List Node) (q : Span) → 0 < k → CopiesNodes (k - 1) src (run_of src p) s t ns → AddsNodes t u ns q → CopiesNode k src (Node.List p) s u (Node.List q)
list_copied k src p s t u ns q some c adds = at_once (λ m. CopiesNode m src (Node.List p) s u (Node.List q)) k some (list_above (k - 1) src p s t u ns q c adds)

object_above : (m : ℕ) (src : Store) (p : Span) (s t u : Store) (es : List Entry) (q : Span) → CopiesEntries m src (piece src.entries.items p) s t es → AddsEntries t u es q → CopiesNode (suc m) src (Node.Object p) s u (Node.Object q)
unfolding node_data IsNode
object_above m src p s t u es q c adds =
    let kept : AreEntries (IsNode m u) u es = entries_keep t u adds.grows (IsNode m t) (IsNode m u) (node_data m t) (node_data m u) (node_keeps m t u adds.grows) (node_stays m t u adds.grows) es c.holds in
    let seen : members_data m u (piece u.entries.items q) ≡ members_data m src (piece src.entries.items p) =
    ap (members_data m u) adds.is ∙ ap members_from (pairs_stay m t u adds.grows es c.holds.0 ∙ c.is) in
    record {
      is = ap object seen;
      holds = (adds.within, subst (AreEntries (IsNode m u) u) (sym adds.is) kept);
      grows = extends_further s t u c.grows adds.grows;
    }

pub object_copied : (k : ℕ) (src : Store) (p : Span) (s t u : Store) (es : List Entry) (q : Span) → 0 < k → CopiesEntries (k - 1) src (piece src.entries.items p) s t es → AddsEntries t u es q → CopiesNode k src (Node.Object p) s u (Node.Object q)
object_copied k src p s t u es q some c adds = at_once (λ m. CopiesNode m src (Node.Object p) s u (Node.Object q)) k some (object_above (k - 1) src p s t u es q c adds)

-- ---- one after another

pub nodes_begin : (k : ℕ) (src s : Store) → CopiesNodes k src [] s s []
nodes_begin k src s = record { is = refl; holds = tt; grows = extends_itself s }

pub nodes_go_on : (k : ℕ) (src : Store) (ns : List Node) (s t u : Store) (cs : List Node) (n c : Node) → CopiesNodes k src ns s t cs → CopiesNode k src n t u c → CopiesNodes k src (ns ++ n ∷ []) s u (cs ++ c ∷ [])
nodes_go_on k src ns s t u cs n c so one = record {
  is =
      map_append (node_data k u) cs c
      ∙ (λ i. (each_same (IsNode k t) (node_data k u) (node_data k t) (node_stays k t u one.grows) cs so.holds ∙ so.is) i ++ one.is i ∷ [])
      ∙ sym (map_append (node_data k src) ns n);
  holds = each_append (IsNode k u) cs c (each_from (IsNode k t) (IsNode k u) (node_keeps k t u one.grows) cs so.holds) one.holds;
  grows = extends_further s t u so.grows one.grows;
}

pub pairs_begin : (k : ℕ) (src s : Store) → CopiesPairs k src [] s s []
pairs_begin k src s = record { is = refl; holds = tt; grows = extends_itself s }

pub pairs_go_on : (k : ℕ) (src : Store) (es : List Entry) (s t m u : Store) (cs : List Entry) (e c : Entry) (xs : List ℕ) → CopiesPairs k src es s t cs → xs ≡ text_of src e.name → AddsText t m xs c.name → CopiesNode k src e.node m u c.node
    → CopiesPairs k src (es ++ e ∷ []) s u (cs ++ c ∷ [])
pairs_go_on k src es s t m u cs e c xs so is name one =
    let grows = extends_further t m u name.grows one.grows in
    let named : text_of u c.name ≡ text_of src e.name = text_stays m u one.grows c.name name.holds ∙ name.is ∙ is in
    record {
      is =
          map_append (pair k u) cs c
          ∙ (λ i. (pairs_stay k t u grows cs so.holds ∙ so.is) i ++ (named i, one.is i) ∷ [])
          ∙ sym (map_append (pair k src) es e);
      holds = each_append (λ d. IsText u d.name × IsNode k u d.node) cs c (each_stays k t u grows cs so.holds) (IsText_stays m u one.grows c.name name.holds, one.holds);
      grows = extends_further s t u so.grows grows;
    }

names_of_pairs : (k : ℕ) (s : Store) (es : List Entry) → entry_names s es ≡ map (λ (p : List ℕ × Data). p.0) (map (pair k s) es)
names_of_pairs k s [] = refl
names_of_pairs k s (e ∷ es) = ap (λ l. text_of s e.name ∷ l) (names_of_pairs k s es)

pub entries_copied : (k : ℕ) (src : Store) (es : List Entry) (s t : Store) (cs : List Entry) → CopiesPairs k src es s t cs → AreInOrder (entry_names src es) → CopiesEntries k src es s t cs
entries_copied k src es s t cs so order =
    let names : entry_names src es ≡ entry_names t cs = names_of_pairs k src es ∙ ap (map (λ (p : List ℕ × Data). p.0)) (sym so.is) ∙ sym (names_of_pairs k t cs) in
    record { is = so.is; holds = (so.holds, subst AreInOrder names order); grows = so.grows }

-- ---- up to a place

pub nodes_at : (k : ℕ) (src : Store) (ns : List Node) (s t u : Store) (cs : List Node) (i : ℕ) (d c : Node) → i < length ns → CopiesNodes k src (take i ns) s t cs → CopiesNode k src (get_or ns i d) t u c → CopiesNodes k src (take (i + 1) ns) s u (cs ++ c ∷ [])
nodes_at k src ns s t u cs i d c within so one = subst (λ l. CopiesNodes k src l s u (cs ++ c ∷ [])) (sym (take_more ns i d within)) (nodes_go_on k src (take i ns) s t u cs (get_or ns i d) c so one)

pub nodes_end : (k : ℕ) (src : Store) (ns : List Node) (s t : Store) (cs : List Node) (i : ℕ) → length ns ≤ i → CopiesNodes k src (take i ns) s t cs → CopiesNodes k src ns s t cs
nodes_end k src ns s t cs i past so = subst (λ l. CopiesNodes k src l s t cs) (take_all i ns past) so

pub pairs_at : (k : ℕ) (src : Store) (es : List Entry) (s t m u : Store) (cs : List Entry) (i : ℕ) (d c : Entry) (xs : List ℕ) → i < length es → CopiesPairs k src (take i es) s t cs
    → xs ≡ text_of src (get_or es i d).name → AddsText t m xs c.name → CopiesNode k src (get_or es i d).node m u c.node → CopiesPairs k src (take (i + 1) es) s u (cs ++ c ∷ [])
pairs_at k src es s t m u cs i d c xs within so is name one =
    subst (λ l. CopiesPairs k src l s u (cs ++ c ∷ [])) (sym (take_more es i d within)) (pairs_go_on k src (take i es) s t m u cs (get_or es i d) c xs so is name one)

pub pairs_end : (k : ℕ) (src : Store) (es : List Entry) (s t : Store) (cs : List Entry) (i : ℕ) → length es ≤ i → CopiesPairs k src (take i es) s t cs → AreInOrder (entry_names src es) → CopiesEntries k src es s t cs
pairs_end k src es s t cs i past so order = entries_copied k src es s t cs (subst (λ l. CopiesPairs k src l s t cs) (take_all i es past) so) order

-- the members that were copied
pub members_copied : (k : ℕ) (src : Store) (es : List Entry) (s t : Store) (cs : List Entry) → CopiesEntries k src es s t cs → members_data k t cs ≡ members_data k src es
members_copied k src es s t cs c = ap members_from c.is
