use Rattle.std.proofs.Common.{◌≡◌, [], ◌∷◌, ◌++◌, take, drop, length, Some, None, sym, ap, ◌∙◌, subst, arith}
use Rattle.std.specs.List.Sorted.{IsPermutation}
use Rattle.std.proofs.lemmas.List.Sorted.{length_permutation}
use Rattle.json.specs.Json.{after_end_array, read_key}
use Rattle.json.specs.Reads.{token_of}
use Rattle.jwt_text.specs.Reads.{ReadsNode, ReadsMembers}
use Rattle.jwt_text.proofs.ReadInvariants.{ItemsSoFar, MembersSoFar}
use Rattle.jwt_text.specs.declared.node.Entry.{Entry}
use Rattle.jwt_text.specs.Growth.{AddsNodes, AddsEntries}
use Rattle.jwt_text.proofs.ReadValues.{text_read, null_read, flag_read, number_read, list_read, object_read, members_are_read}
use Rattle.jwt_text.proofs.ReadTurns.{items_begin, items_go_on, items_are_read, if_some, refilled, members_begin, members_go_on}
use Rattle.jwt_text.proofs.reading.+read.Goals as goal

pub read-returns-in_ok-add_text-in-String : goal.read-returns-in_ok-add_text-in-String
read-returns-in_ok-add_text-in-String t c =
    let first : c.args.reader.now ≡ token_of c.in_ok-text.field-0 ∷ c.next.new.self = grind arith in
    text_read c.args.depth _ _ _ _ _ _ (first ∙ ap (λ k. token_of k ∷ c.next.new.self) c.in-String.is) c.in_ok-add_text-in-String.ensures

pub read-returns-in_ok-parse_number-in-Number : goal.read-returns-in_ok-parse_number-in-Number
read-returns-in_ok-parse_number-in-Number t c =
    let first : c.args.reader.now ≡ token_of c.in_ok-text.field-0 ∷ c.next.new.self = grind arith in
    number_read c.args.depth _ _ _ _ c.in_ok-parse_number-in-Number.field-0 _ (first ∙ ap (λ k. token_of k ∷ c.next.new.self) c.in-Number.is) c.in_ok-parse_number-in-Number.ensures c.node_of.ensures

pub read-returns-in-Bool : goal.read-returns-in-Bool
read-returns-in-Bool t c =
    let first : c.args.reader.now ≡ token_of c.in_ok-text.field-0 ∷ c.next.new.self = grind arith in
    flag_read c.args.depth _ _ _ _ (first ∙ ap (λ k. token_of k ∷ c.next.new.self) c.in-Bool.is)

pub read-returns-in-Null : goal.read-returns-in-Null
read-returns-in-Null t c =
    let first : c.args.reader.now ≡ token_of c.in_ok-text.field-0 ∷ c.next.new.self = grind arith in
    null_read c.args.depth _ _ _ (first ∙ ap (λ k. token_of k ∷ c.next.new.self) c.in-Null.is)

pub read-returns-in_ok-read_items-in-BeginArray : goal.read-returns-in_ok-read_items-in-BeginArray
read-returns-in_ok-read_items-in-BeginArray t c =
    let first : c.args.reader.now ≡ token_of c.in_ok-text.field-0 ∷ c.next.new.self = grind arith in
    list_read c.args.depth _ c.next.new.self _ _ _ _ (omega (arith, c.if-depth-eq0.false)) (first ∙ ap (λ k. token_of k ∷ c.next.new.self) c.in-BeginArray.is) c.in_ok-read_items-in-BeginArray.ensures

pub read-returns-in_ok-add_entries-in-BeginObject :
    goal.read-returns-in_ok-add_entries-in-BeginObject
read-returns-in_ok-add_entries-in-BeginObject t c =
    let first : c.args.reader.now ≡ token_of c.in_ok-text.field-0 ∷ c.next.new.self = grind arith in
    let es = c.in_ok-entries-in-BeginObject.entries.items in
    let adds : AddsEntries c.read_members.new.store c.add_entries.new.self es c.in_ok-add_entries-in-BeginObject.field-0 =
    subst (λ l. AddsEntries c.read_members.new.store c.add_entries.new.self l c.in_ok-add_entries-in-BeginObject.field-0) c.as_slice.ensures.value c.in_ok-add_entries-in-BeginObject.ensures in
    object_read c.args.depth _ c.next.new.self _ _ c.read_members.new.store _ es _ (omega (arith, c.if-depth-eq0-2.false)) (first ∙ ap (λ k. token_of k ∷ c.next.new.self) c.in-BeginObject.is) c.in_ok-entries-in-BeginObject.ensures adds

pub read_items-items-init : goal.read_items-items-init
read_items-items-init t c = subst (ItemsSoFar c.args.depth c.args.reader.now c.args.reader.now c.args.store.now c.args.store.now) (sym c.new-built.ensures.items) (items_begin c.args.depth c.args.reader.now c.args.store.now)

pub read_items-items-preserved : goal.read_items-items-preserved
read_items-items-preserved t c =
    let l = c.items in
    let going : (after_end_array l.reader ≡ None) × (c.take_end_array.new.self ≡ l.reader) = grind arith in
    let one : ReadsNode c.args.depth l.reader c.read.new.reader l.store c.read.new.store c.in_ok-node.node =
    subst (λ r. ReadsNode c.args.depth r c.read.new.reader l.store c.read.new.store c.in_ok-node.node) going.1 c.in_ok-node.ensures in
    let pushed : c.push.new.self.items ≡ l.built.items ++ c.in_ok-node.node ∷ [] = grind arith in
    subst (ItemsSoFar c.args.depth c.args.reader.now c.read.new.reader c.args.store.now c.read.new.store) (sym pushed)
    (items_go_on c.args.depth c.args.reader.now l.reader c.args.store.now l.store l.built.items l.invariant c.read.new.reader c.read.new.store c.in_ok-node.node one going.0)

pub read_items-returns-then-len-le-SHORT : goal.read_items-returns-then-len-le-SHORT
read_items-returns-then-len-le-SHORT t c =
    let l = c.items in
    if_some c.add_short.result (λ p adds.
    items_are_read c.args.depth c.args.reader.now l.reader c.args.store.now l.store l.built.items l.invariant c.take_end_array.new.self c.add_short.new.self p c.items-test.ensures
    (subst (λ ns. AddsNodes l.store c.add_short.new.self ns p) c.as_slice.ensures adds)) c.add_short.ensures

pub read_items-returns-else-len-le-SHORT : goal.read_items-returns-else-len-le-SHORT
read_items-returns-else-len-le-SHORT t c =
    let l = c.items in
    if_some c.add_long.result (λ p adds.
    items_are_read c.args.depth c.args.reader.now l.reader c.args.store.now l.store l.built.items l.invariant c.take_end_array.new.self c.add_long.new.self p c.items-test.ensures adds) c.add_long.ensures

pub read_members-members-init : goal.read_members-members-init
read_members-members-init t c = subst (MembersSoFar c.args.depth c.args.reader.now c.args.reader.now c.args.store.now c.args.store.now) (sym c.new-built.ensures.items) (members_begin c.args.depth c.args.reader.now c.args.store.now)

pub read_members-members-preserved : goal.read_members-members-preserved
read_members-members-preserved t c =
    let l = c.members in
    let e : Entry = record { name = c.in_ok-name.name; node = c.in_ok-node.node } in
    let named : read_key l.reader ≡ Some (Some c.in-Some.key.now, c.next_key.new.self) = grind arith in
    let pushed : c.push.new.self.items ≡ l.built.items ++ e ∷ [] = grind arith in
    subst (MembersSoFar c.args.depth c.args.reader.now c.read.new.reader c.args.store.now c.read.new.store) (sym pushed)
    (members_go_on c.args.depth c.args.reader.now l.reader c.args.store.now l.store l.built.items l.invariant c.in-Some.key.now c.next_key.new.self c.read.new.reader c.add_text.new.self c.read.new.store e named c.in_ok-name.ensures c.in_ok-node.ensures)

pub read_members-returns-then-arrange : goal.read_members-returns-then-arrange
read_members-returns-then-arrange t c =
    let l = c.members in
    let over : read_key l.reader ≡ Some (None, c.next_key.new.self) = grind arith in
    let lent : c.as_mut_slice.result.now ≡ l.built.items = c.as_mut_slice.ensures.value in
    let moved : IsPermutation l.built.items c.arrange.new.entries = subst (λ es. IsPermutation es c.arrange.new.entries) lent c.arrange.ensures.permutation in
    let back = refilled l.built.items c.arrange.new.entries (length_permutation l.built.items c.arrange.new.entries moved) in
    let sized : length l.built.items ≡ l.built.len = ap length (sym lent) ∙ c.as_mut_slice.ensures.len in
    subst (λ n. ReadsMembers c.args.depth c.args.reader.now c.next_key.new.self c.args.store.now l.store (take n (c.arrange.new.entries ++ drop (length c.arrange.new.entries) l.built.items))) sized
    (subst (ReadsMembers c.args.depth c.args.reader.now c.next_key.new.self c.args.store.now l.store) (sym back)
    (members_are_read c.args.depth c.args.reader.now l.reader c.args.store.now l.store l.built.items l.invariant c.next_key.new.self c.arrange.new.entries over moved (c.arrange.ensures.order c.if-arrange.true)))
