-- Reading into a store, a turn at a time.
use Rattle.std.proofs.Common.{◌≡◌, ℕ, suc, ◌+◌, ◌-◌, ◌<◌, List, [], ◌∷◌, ◌++◌, map, length, take, drop, Option, Some, None, refl, sym, ap, ◌∙◌, subst, arith}
use Rattle.std.proofs.Math.Seq.{take-append_seam}
use Rattle.std.specs.Prelude.{IfSome}
use Rattle.json.specs.Token.{Token}
use Rattle.json.specs.Json.{parse_map, after_end_array, read_key, items, members, value}
use Rattle.json.specs.Json as json
use Rattle.json.proofs.Grammar.{items_end, items_more, members_more, after_end_array-shorter, read_key-shorter}
use Rattle.serde_json.specs.Data.{Data, Items, no_items, item, Members, no_members, put}
use Rattle.serde_json.specs.Read.{of_json, of_items, of_members}
use Rattle.serde_json.specs.View.{items_of}
use Rattle.jwt_text.specs.ObjectText.{entries, items_entries}
use Rattle.jwt_text.specs.declared.node.Entry.{Entry}
use Rattle.jwt_text.specs.declared.node.Node.{Node}
use Rattle.jwt_text.specs.declared.node.Span.{Span}
use Rattle.jwt_text.specs.declared.store.Store.{Store}
use Rattle.jwt_text.specs.Flat.{text_of, node_data, IsText, Each, IsNode, run_of}
use Rattle.jwt_text.specs.Growth.{Extends, AddsText, AddsNodes}
use Rattle.jwt_text.specs.Reads.{ReadsNode, ReadsItems, pair}
use Rattle.jwt_text.proofs.ReadInvariants.{items_before, ItemsTo, ItemsSoFar, put_all, entries_of, MembersTo, MembersSoFar}
use Rattle.jwt_text.proofs.Levels.{each_same, each_from}
use Rattle.jwt_text.proofs.GrowthLemmas.{extends_itself, extends_further, text_stays, IsText_stays, node_keeps, node_stays}

pub map_append : {A B : Type 0} (f : A → B) (xs : List A) (x : A) → map f (xs ++ x ∷ []) ≡ map f xs ++ f x ∷ []
map_append f [] x = refl
map_append f (y ∷ xs) x = ap (λ l. f y ∷ l) (map_append f xs x)

pub each_append : {A : Type 0} (P : A → Type 0) (xs : List A) (x : A) → Each P xs → P x → Each P (xs ++ x ∷ [])
each_append P [] x h q = (q, tt)
each_append P (y ∷ xs) x h q = (h.0, each_append P xs x h.1 q)

pub if_some : {A : Type 0} {P Q : A → Type 0} (o : Option A) → ((x : A) → P x → Q x) → IfSome o P → IfSome o Q
if_some None f h = tt
if_some (Some x) f h = f x h

-- ---- items

before_append : (ds : List Data) (d : Data) (more : Items) → items_before ds (item d more) ≡ items_before (ds ++ d ∷ []) more
before_append [] d more = refl
before_append (e ∷ ds) d more = ap (item e) (before_append ds d more)

pub before_none : (ds : List Data) → items_before ds no_items ≡ items_of ds
before_none [] = refl
before_none (d ∷ ds) = ap (item d) (before_none ds)

entries_append : (ds : List Data) (d : Data) → items_entries (items_of (ds ++ d ∷ [])) ≡ items_entries (items_of ds) + entries d
entries_append [] d = omega arith
entries_append (e ∷ ds) d = omega (arith, entries_append ds d)

item_read : (j : json.Json) (d : Data) (rest : json.Items) (more : Items) → of_json j ≡ Some d → of_items rest ≡ Some more → of_items (json.item j rest) ≡ Some (item d more)
item_read j d rest more e f = rw (e, f) refl

pub items_begin : (k : ℕ) (ts : List Token) (s : Store) → ItemsSoFar k ts ts s s []
items_begin k ts s = record {
  fuel = length ts;
  enough = omega arith;
  goes = λ rest new e. record { all = rest; parsed = e; is = λ more f. f; counted = omega arith };
  holds = tt;
  grows = extends_itself s;
  shorter = omega arith;
}

module _ (k : ℕ) (old now : List Token) (before after : Store) (built : List Node) (so : ItemsSoFar k old now before after built) where
  module _ (new : List Token) (further : Store) (n : Node) (one : ReadsNode k now new after further n) where
    data_stays : map (node_data k further) (built ++ n ∷ []) ≡ map (node_data k after) built ++ node_data k further n ∷ []
    data_stays =
        map_append (node_data k further) built n
        ∙ ap (λ l. l ++ node_data k further n ∷ []) (each_same (IsNode k after) (node_data k further) (node_data k after) (node_stays k after further one.grows) built so.holds)

    item_to : after_end_array now ≡ None → (rest : json.Items) (end : List Token) → items (value k) (so.fuel - 1) new ≡ Some (rest, end) → ItemsTo k old end (map (node_data k further) (built ++ n ∷ [])) rest
    item_to going rest end e =
        let some : 0 < so.fuel = omega (arith, so.enough, one.shorter) in
        let to = so.goes (json.item one.tree rest) end (items_more (value k) so.fuel now new one.tree some going one.parsed ∙ ap (parse_map (json.item one.tree)) e) in
        let ds = map (node_data k after) built in
        let d = node_data k further n in
        subst (λ l. ItemsTo k old end l rest) (sym data_stays) (record {
          all = to.all;
          parsed = to.parsed;
          is = λ more f. to.is (item d more) (item_read one.tree d rest more one.is f) ∙ ap Some (before_append ds d more);
          counted = omega (arith, to.counted, one.counted, entries_append ds d);
        })

    pub items_go_on : after_end_array now ≡ None → ItemsSoFar k old new before further (built ++ n ∷ [])
    items_go_on going = record {
      fuel = so.fuel - 1;
      enough = omega (arith, so.enough, one.shorter);
      goes = item_to going;
      holds = each_append (IsNode k further) built n (each_from (IsNode k after) (IsNode k further) (node_keeps k after further one.grows) built so.holds) one.holds;
      grows = extends_further before after further so.grows one.grows;
      shorter = omega (arith, so.shorter, one.shorter);
    }

  pub items_are_read : (new : List Token) (further : Store) (p : Span) → after_end_array now ≡ Some new → AddsNodes after further built p → ReadsItems k old new before further p
  items_are_read new further p over adds =
      let to = so.goes json.no_items new (items_end (value k) so.fuel now new so.enough over) in
      let same : map (node_data k further) built ≡ map (node_data k after) built = each_same (IsNode k after) (node_data k further) (node_data k after) (node_stays k after further adds.grows) built so.holds in
      let seen : map (node_data k further) (run_of further p) ≡ map (node_data k after) built = ap (map (node_data k further)) adds.is ∙ same in
      record {
        trees = to.all;
        parsed = to.parsed;
        is = to.is no_items refl ∙ ap Some (before_none (map (node_data k after) built)) ∙ ap (λ l. Some (items_of l)) (sym seen);
        counted = ap (λ l. items_entries (items_of l)) seen ∙ sym (omega (arith, to.counted));
        within = adds.within;
        holds = subst (Each (IsNode k further)) (sym adds.is) (each_from (IsNode k after) (IsNode k further) (node_keeps k after further adds.grows) built so.holds);
        grows = extends_further before after further so.grows adds.grows;
        shorter = omega (arith, so.shorter, after_end_array-shorter now new over);
      }

-- ---- members

-- a slice that is written back as a whole
pub refilled : {A : Type 0} (xs ys : List A) → length ys ≡ length xs → take (length xs) (ys ++ drop (length ys) xs) ≡ ys
refilled xs ys e = ap (λ n. take n (ys ++ drop (length ys) xs)) (sym e) ∙ take-append_seam ys (drop (length ys) xs)

put_all_append : (ps : List (List ℕ × Data)) (p : List ℕ × Data) (found : Members) → put_all (ps ++ p ∷ []) found ≡ put p.0 p.1 (put_all ps found)
put_all_append [] p found = refl
put_all_append (q ∷ ps) p found = put_all_append ps p (put q.0 q.1 found)

entries_of_append : (ps : List (List ℕ × Data)) (p : List ℕ × Data) → entries_of (ps ++ p ∷ []) ≡ entries_of ps + suc (entries p.1)
entries_of_append [] p = omega arith
entries_of_append (q ∷ ps) p = omega (arith, entries_of_append ps p)

member_read : (k : List ℕ) (j : json.Json) (d : Data) (rest : json.Members) (found : Members) → of_json j ≡ Some d → of_members (json.member k j rest) found ≡ of_members rest (put k d found)
member_read k j d rest found e = rw e refl

abbrev IsEntry : ℕ → Store → Entry → Type 0
IsEntry k s e = IsText s e.name × IsNode k s e.node

pub members_begin : (k : ℕ) (ts : List Token) (s : Store) → MembersSoFar k ts ts s s []
members_begin k ts s = record {
  fuel = length ts;
  enough = omega arith;
  goes = λ rest new e. record { all = rest; parsed = e; is = refl; counted = omega arith };
  holds = tt;
  grows = extends_itself s;
  shorter = omega arith;
}

-- the pairs of entries in a store that has grown
pub pairs_stay : (k : ℕ) (s t : Store) → Extends s t → (es : List Entry) → Each (IsEntry k s) es → map (pair k t) es ≡ map (pair k s) es
pairs_stay k s t e es h = each_same (IsEntry k s) (pair k t) (pair k s) (λ d q i. (text_stays s t e d.name q.0 i, node_stays k s t e d.node q.1 i)) es h

pub each_stays : (k : ℕ) (s t : Store) → Extends s t → (es : List Entry) → Each (IsEntry k s) es → Each (IsEntry k t) es
each_stays k s t e es h = each_from (IsEntry k s) (IsEntry k t) (λ d q. (IsText_stays s t e d.name q.0, node_keeps k s t e d.node q.1)) es h

module _ (k : ℕ) (old now : List Token) (before after : Store) (built : List Entry) (so : MembersSoFar k old now before after built) where
  module _ (key : List ℕ) (mid new : List Token) (named further : Store) (e : Entry) (at : read_key now ≡ Some (Some key, mid)) (name : AddsText after named key e.name) (one : ReadsNode k mid new named further e.node) where
    all_grow : Extends after further
    all_grow = extends_further after named further name.grows one.grows

    name_is : text_of further e.name ≡ key
    name_is = text_stays named further one.grows e.name name.holds ∙ name.is

    fewer : length mid < length now
    fewer = read_key-shorter now (Some key) mid at

    pairs_are : map (pair k further) (built ++ e ∷ []) ≡ map (pair k after) built ++ (key, node_data k further e.node) ∷ []
    pairs_are =
        map_append (pair k further) built e
        ∙ (λ i. pairs_stay k after further all_grow built so.holds i ++ (name_is i, node_data k further e.node) ∷ [])

    member_to : (rest : json.Members) (end : List Token) → members (value k) (so.fuel - 1) new ≡ Some (rest, end) → MembersTo k old end (map (pair k further) (built ++ e ∷ [])) rest
    member_to rest end f =
        let some : 0 < so.fuel = omega (arith, so.enough, fewer) in
        let to = so.goes (json.member key one.tree rest) end (members_more (value k) so.fuel key now mid new one.tree some at one.parsed ∙ ap (parse_map (json.member key one.tree)) f) in
        let ps = map (pair k after) built in
        let d = node_data k further e.node in
        let found = put_all ps no_members in
        subst (λ l. MembersTo k old end l rest) (sym pairs_are) (record {
          all = to.all;
          parsed = to.parsed;
          is = to.is ∙ member_read key one.tree d rest found one.is ∙ ap (of_members rest) (sym (put_all_append ps (key, d) no_members));
          counted = omega (arith, to.counted, one.counted, entries_of_append ps (key, d));
        })

    pub members_go_on : MembersSoFar k old new before further (built ++ e ∷ [])
    members_go_on = record {
      fuel = so.fuel - 1;
      enough = omega (arith, so.enough, one.shorter, fewer);
      goes = member_to;
      holds = each_append (IsEntry k further) built e (each_stays k after further all_grow built so.holds) (IsText_stays named further one.grows e.name name.holds, one.holds);
      grows = extends_further before after further so.grows all_grow;
      shorter = omega (arith, so.shorter, one.shorter, fewer);
    }
