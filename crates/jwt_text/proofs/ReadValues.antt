-- A value that was read, by its first token.
use Rattle.std.proofs.Common.{◌≡◌, ℕ, zero, suc, ◌-◌, ◌<◌, Bool, List, ◌∷◌, map, length, Some, None, option_map, refl, sym, ap, ◌∙◌, subst, arith}
use Rattle.std.specs.List.Sorted.{IsPermutation}
use Rattle.std.proofs.lemmas.List.Sorted.{IsPermutation-map}
use Rattle.json.specs.Token.{Token}
use Rattle.json.specs.Json.{parse_map, read_key, value}
use Rattle.json.specs.Json as json
use Rattle.json.proofs.Grammar.{members_end, value_is, read_key-shorter}
use Rattle.serde_json.specs.Data.{Data, null, boolean, number, string, array, object}
use Rattle.serde_json.specs.Read.{number_of, of_json}
use Rattle.jwt_text.specs.Members.{member_names, AreInOrder}
use Rattle.jwt_text.specs.NamesWritten.{names_written}
use Rattle.jwt_text.specs.ObjectText.{entries}
use Rattle.jwt_text.specs.declared.node.Entry.{Entry}
use Rattle.jwt_text.specs.declared.node.Node.{Node}
use Rattle.jwt_text.specs.declared.number.Number.{Number}
use Rattle.jwt_text.specs.declared.node.Span.{Span}
use Rattle.jwt_text.specs.declared.store.Store.{Store}
use Rattle.jwt_text.specs.Kinds.{num_of, node_of}
use Rattle.jwt_text.specs.Flat.{piece, text_of, members_from, node_data, members_data, entry_names, IsText, AreEntries, IsNode}
use Rattle.jwt_text.specs.Growth.{Extends, AddsText, AddsEntries}
use Rattle.jwt_text.specs.Reads.{ReadsNode, ReadsItems, ReadsMembers, pair}
use Rattle.jwt_text.proofs.ReadInvariants.{MembersSoFar}
use Rattle.jwt_text.proofs.Seen.{names-data}
use Rattle.jwt_text.proofs.GrowthLemmas.{extends_itself, extends_further, entries_keep, node_keeps, node_stays}
use Rattle.jwt_text.proofs.ReadTurns.{pairs_stay}
use Rattle.jwt_text.proofs.SortedLemmas.{each_moved, put_in_any_order, entries_moved, entries_from}

-- the members, where the brace that closes them comes next
module _ (k : ℕ) (old now : List Token) (before after : Store) (built : List Entry) (so : MembersSoFar k old now before after built) where
  pub members_are_read : (new : List Token) (sorted : List Entry) → read_key now ≡ Some (None, new) → IsPermutation built sorted → AreInOrder (entry_names after sorted) → ReadsMembers k old new before after sorted
  members_are_read new sorted over moved order =
      let to = so.goes json.no_members new (members_end (value k) so.fuel now new so.enough over) in
      let ps = map (pair k after) built in
      let qs = map (pair k after) sorted in
      let pairs : IsPermutation ps qs = IsPermutation-map (pair k after) built sorted moved in
      let ascend : AreInOrder (member_names (members_from qs)) = subst AreInOrder (sym (names-data k after sorted)) order in
      record {
        trees = to.all;
        parsed = to.parsed;
        is = to.is ∙ ap Some (put_in_any_order ps qs pairs ascend);
        counted = entries_from qs ∙ entries_moved ps qs pairs ∙ sym (omega (arith, to.counted));
        holds = (each_moved (λ e. IsText after e.name × IsNode k after e.node) built sorted moved so.holds, order);
        grows = so.grows;
        shorter = omega (arith, so.shorter, read_key-shorter now None new over);
      }

-- ---- a value of one token

leaf : (k : ℕ) (old new : List Token) (s t : Store) (n : Node) (first : Token) (j : json.Json) (d : Data)
    → old ≡ first ∷ new → value k (first ∷ new) ≡ Some (j, new) → of_json j ≡ Some d → node_data k t n ≡ d → entries d ≡ names_written j → IsNode k t n → Extends s t → ReadsNode k old new s t n
leaf k old new s t n first j d is parsed read seen counted holds grows = record {
  tree = j;
  parsed = ap (value k) is ∙ parsed;
  is = read ∙ ap Some (sym seen);
  counted = ap entries seen ∙ counted;
  holds = holds;
  grows = grows;
  shorter = omega (arith, ap length is);
}

pub text_seen : (k : ℕ) (s : Store) (p : Span) → node_data k s (Node.Text p) ≡ string (text_of s p)
unfolding node_data
text_seen zero s p = refl
text_seen (suc k) s p = refl

pub text_holds : (k : ℕ) (s : Store) (p : Span) → IsText s p → IsNode k s (Node.Text p)
unfolding IsNode
text_holds zero s p h = h
text_holds (suc k) s p h = h

pub text_read : (k : ℕ) (old new : List Token) (s t : Store) (xs : List ℕ) (p : Span) → old ≡ Token.string xs ∷ new → AddsText s t xs p → ReadsNode k old new s t (Node.Text p)
text_read k old new s t xs p is adds =
    leaf k old new s t (Node.Text p) (Token.string xs) (json.string xs) (string xs) is (value_is k (Token.string xs ∷ new)) refl (text_seen k t p ∙ ap string adds.is) refl (text_holds k t p adds.holds) adds.grows

pub null_seen : (k : ℕ) (s : Store) → node_data k s Node.Null ≡ null
unfolding node_data
null_seen zero s = refl
null_seen (suc k) s = refl

pub null_holds : (k : ℕ) (s : Store) → IsNode k s Node.Null
unfolding IsNode
null_holds zero s = tt
null_holds (suc k) s = tt

pub null_read : (k : ℕ) (old new : List Token) (s : Store) → old ≡ Token.null ∷ new → ReadsNode k old new s s Node.Null
null_read k old new s is = leaf k old new s s Node.Null Token.null json.null null is (value_is k (Token.null ∷ new)) refl (null_seen k s) refl (null_holds k s) (extends_itself s)

pub flag_seen : (k : ℕ) (s : Store) (b : Bool) → node_data k s (Node.Bool b) ≡ boolean b
unfolding node_data
flag_seen zero s b = refl
flag_seen (suc k) s b = refl

pub flag_holds : (k : ℕ) (s : Store) (b : Bool) → IsNode k s (Node.Bool b)
unfolding IsNode
flag_holds zero s b = tt
flag_holds (suc k) s b = tt

pub flag_read : (k : ℕ) (old new : List Token) (s : Store) (b : Bool) → old ≡ Token.boolean b ∷ new → ReadsNode k old new s s (Node.Bool b)
flag_read k old new s b is = leaf k old new s s (Node.Bool b) (Token.boolean b) (json.boolean b) (boolean b) is (value_is k (Token.boolean b ∷ new)) refl (flag_seen k s b) refl (flag_holds k s b) (extends_itself s)

pub number_seen : (k : ℕ) (s : Store) (n : Number) → node_data k s (node_of n) ≡ number (num_of n)
unfolding node_data
number_seen zero s (Number.Unsigned n) = refl
number_seen zero s (Number.Negative n) = refl
number_seen zero s (Number.Float n) = refl
number_seen (suc k) s (Number.Unsigned n) = refl
number_seen (suc k) s (Number.Negative n) = refl
number_seen (suc k) s (Number.Float n) = refl

pub number_holds : (k : ℕ) (s : Store) (n : Number) → IsNode k s (node_of n)
unfolding IsNode
number_holds zero s (Number.Unsigned n) = tt
number_holds zero s (Number.Negative n) = tt
number_holds zero s (Number.Float n) = tt
number_holds (suc k) s (Number.Unsigned n) = tt
number_holds (suc k) s (Number.Negative n) = tt
number_holds (suc k) s (Number.Float n) = tt

pub number_read : (k : ℕ) (old new : List Token) (s : Store) (xs : List ℕ) (n : Number) (node : Node) → old ≡ Token.number xs ∷ new → Some (num_of n) ≡ number_of xs → node ≡ node_of n → ReadsNode k old new s s node
number_read k old new s xs n node is read same =
    leaf k old new s s node (Token.number xs) (json.number xs) (number (num_of n)) is (value_is k (Token.number xs ∷ new)) (ap (option_map number) (sym read)) (ap (node_data k s) same ∙ number_seen k s n) refl
    (subst (IsNode k s) (sym same) (number_holds k s n)) (extends_itself s)

-- ---- a list and an object

pub at_once : (P : ℕ → Type 0) (k : ℕ) → 0 < k → P (suc (k - 1)) → P k
at_once P k some h = let e : suc (k - 1) ≡ k = omega arith in subst P e h

list_above : (m : ℕ) (old ts new : List Token) (s t : Store) (p : Span) → old ≡ Token.begin_array ∷ ts → ReadsItems m ts new s t p → ReadsNode (suc m) old new s t (Node.List p)
unfolding value node_data IsNode
list_above m old ts new s t p is r = record {
  tree = json.array r.trees;
  parsed = ap (value (suc m)) is ∙ ap (parse_map json.array) r.parsed;
  is = ap (option_map array) r.is;
  counted = r.counted;
  holds = (r.within, r.holds);
  grows = r.grows;
  shorter = omega (arith, r.shorter, ap length is);
}

pub list_read : (k : ℕ) (old ts new : List Token) (s t : Store) (p : Span) → 0 < k → old ≡ Token.begin_array ∷ ts → ReadsItems (k - 1) ts new s t p → ReadsNode k old new s t (Node.List p)
list_read k old ts new s t p some is r = at_once (λ m. ReadsNode m old new s t (Node.List p)) k some (list_above (k - 1) old ts new s t p is r)

object_above : (m : ℕ) (old ts new : List Token) (s t u : Store) (es : List Entry) (p : Span) → old ≡ Token.begin_object ∷ ts → ReadsMembers m ts new s t es → AddsEntries t u es p → ReadsNode (suc m) old new s u (Node.Object p)
unfolding value node_data IsNode
object_above m old ts new s t u es p is r adds =
    let kept : AreEntries (IsNode m u) u es = entries_keep t u adds.grows (IsNode m t) (IsNode m u) (node_data m t) (node_data m u) (node_keeps m t u adds.grows) (node_stays m t u adds.grows) es r.holds in
    let seen : members_data m u (piece u.entries.items p) ≡ members_data m t es = ap (members_data m u) adds.is ∙ ap members_from (pairs_stay m t u adds.grows es r.holds.0) in
    record {
      tree = json.object r.trees;
      parsed = ap (value (suc m)) is ∙ ap (parse_map json.object) r.parsed;
      is = ap (option_map object) r.is ∙ ap (λ ms. Some (object ms)) (sym seen);
      counted = ap (λ ms. entries (object ms)) seen ∙ r.counted;
      holds = (adds.within, subst (AreEntries (IsNode m u) u) (sym adds.is) kept);
      grows = extends_further s t u r.grows adds.grows;
      shorter = omega (arith, r.shorter, ap length is);
    }

pub object_read : (k : ℕ) (old ts new : List Token) (s t u : Store) (es : List Entry) (p : Span) → 0 < k → old ≡ Token.begin_object ∷ ts → ReadsMembers (k - 1) ts new s t es → AddsEntries t u es p → ReadsNode k old new s u (Node.Object p)
object_read k old ts new s t u es p some is r adds = at_once (λ m. ReadsNode m old new s u (Node.Object p)) k some (object_above (k - 1) old ts new s t u es p is r adds)
