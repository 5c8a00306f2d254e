use Rattle.std.proofs.Common.{rules, ◌≡◌, ◌-◌, [], ◌∷◌, ◌++◌, sym, ◌∙◌, subst, arith}
use Rattle.jwt_text.specs.declared.node.Entry.{Entry}
use Rattle.jwt_text.specs.declared.node.Node.TheVariants as Node
use Rattle.jwt_text.specs.declared.number.Number.TheVariants as Number
use Rattle.jwt_text.specs.Flat.{piece, AreEntries, Each, IsNode, run_of}
use Rattle.jwt_text.specs.Growth.{AddsEntries}
use Rattle.jwt_text.specs.Copies.{CopiesNode, CopiesNodes, CopiesEntries}
use Rattle.jwt_text.proofs.CopyInvariants.{CopiesPairs}
use Rattle.jwt_text.proofs.Seen.{each_at}
use Rattle.jwt_text.proofs.ReadValues.{null_seen, null_holds, flag_seen, flag_holds, number_seen, number_holds}
use Rattle.jwt_text.proofs.CopyLemmas.{text_inside_node, list_below, object_below, text_copied, leaf_copied, list_copied, object_copied, nodes_begin, nodes_at, nodes_end, pairs_begin, pairs_at, pairs_end}
use Rattle.jwt_text.proofs.copy.+copy.Goals as goal

pub copy_entries-entries-init : goal.copy_entries-entries-init
copy_entries-entries-init t c = subst (CopiesPairs c.args.depth c.args.from.now [] c.args.to.now c.args.to.now) (sym c.new-copies.ensures.items) (pairs_begin c.args.depth c.args.from.now c.args.to.now)

pub copy_entries-text-requires : goal.copy_entries-text-requires
copy_entries-text-requires t c = (each_at _ c.args.entries.now c.entries.place _ c.requires.0 c.entries-test.true).0

pub copy_entries-copy_node-requires : goal.copy_entries-copy_node-requires
copy_entries-copy_node-requires t c = (search rules, (each_at _ c.args.entries.now c.entries.place _ c.requires.0 c.entries-test.true).1)

pub copy_entries-entries-preserved : goal.copy_entries-entries-preserved
copy_entries-entries-preserved t c =
    let l = c.entries in
    let e : Entry = record { name = c.in_ok-name.name; node = c.in_ok-node.node } in
    let pushed : c.push.new.self.items ≡ l.copies.items ++ e ∷ [] = grind arith in
    subst (CopiesPairs c.args.depth c.args.from.now _ c.args.to.now c.copy_node.new.to) (sym pushed)
    (pairs_at c.args.depth c.args.from.now c.args.entries.now c.args.to.now l.to c.add_text.new.self c.copy_node.new.to l.copies.items l.place _ e c.text.result.now c.entries-test.true l.invariant c.text.ensures c.in_ok-name.ensures c.in_ok-node.ensures)

pub copy_entries-returns : goal.copy_entries-returns
copy_entries-returns t c =
    pairs_end c.args.depth c.args.from.now c.args.entries.now c.args.to.now c.entries.to c.entries.copies.items c.entries.place c.entries-test.false c.entries.invariant c.requires.1

pub copy_node-text-requires : goal.copy_node-text-requires
copy_node-text-requires t c = text_inside_node c.args.depth c.args.from.now c.in-Text.span (subst (IsNode c.args.depth c.args.from.now) c.in-Text.is c.requires)

pub copy_node-nodes-requires : goal.copy_node-nodes-requires
copy_node-nodes-requires t c = (list_below c.args.depth c.args.from.now c.in-List.span (omega (arith, c.if-depth-eq0.false)) (subst (IsNode c.args.depth c.args.from.now) c.in-List.is c.requires)).0

pub copy_node-copy_nodes-requires : goal.copy_node-copy_nodes-requires
copy_node-copy_nodes-requires t c =
    let inside = (list_below c.args.depth c.args.from.now c.in-List.span (omega (arith, c.if-depth-eq0.false)) (subst (IsNode c.args.depth c.args.from.now) c.in-List.is c.requires)).1 in
    (search rules, subst (Each (IsNode (c.args.depth - 1) c.args.from.now)) (sym c.nodes.ensures) inside)

pub copy_node-entries-requires : goal.copy_node-entries-requires
copy_node-entries-requires t c = (object_below c.args.depth c.args.from.now c.in-Object.span (omega (arith, c.if-depth-eq0-2.false)) (subst (IsNode c.args.depth c.args.from.now) c.in-Object.is c.requires)).0

pub copy_node-copy_entries-requires : goal.copy_node-copy_entries-requires
copy_node-copy_entries-requires t c =
    let inside = (object_below c.args.depth c.args.from.now c.in-Object.span (omega (arith, c.if-depth-eq0-2.false)) (subst (IsNode c.args.depth c.args.from.now) c.in-Object.is c.requires)).1 in
    (search rules, subst (AreEntries (IsNode (c.args.depth - 1) c.args.from.now) c.args.from.now) (sym c.entries.ensures) inside)

pub copy_node-returns-in_ok-add_text-in-Text : goal.copy_node-returns-in_ok-add_text-in-Text
copy_node-returns-in_ok-add_text-in-Text t c =
    let q = c.in_ok-add_text-in-Text.field-0 in
    subst (λ n. CopiesNode c.args.depth c.args.from.now n c.args.to.now c.add_text.new.self (Node.Text q)) (sym c.in-Text.is)
    (text_copied c.args.depth c.args.from.now c.in-Text.span c.args.to.now c.add_text.new.self c.text.result.now q c.text.ensures c.in_ok-add_text-in-Text.ensures)

pub copy_node-returns-in_ok-add_list-in-List : goal.copy_node-returns-in_ok-add_list-in-List
copy_node-returns-in_ok-add_list-in-List t c =
    let q = c.in_ok-add_list-in-List.field-0 in
    let ns = c.in_ok-nodes-in-List.nodes.items in
    let mid = c.copy_nodes.new.to in
    let copies : CopiesNodes (c.args.depth - 1) c.args.from.now (run_of c.args.from.now c.in-List.span) c.args.to.now mid ns =
    subst (λ l. CopiesNodes (c.args.depth - 1) c.args.from.now l c.args.to.now mid ns) c.nodes.ensures c.in_ok-nodes-in-List.ensures in
    subst (λ n. CopiesNode c.args.depth c.args.from.now n c.args.to.now c.add_list.new.self (Node.List q)) (sym c.in-List.is)
    (list_copied c.args.depth c.args.from.now c.in-List.span c.args.to.now mid c.add_list.new.self ns q (omega (arith, c.if-depth-eq0.false)) copies c.in_ok-add_list-in-List.ensures)

pub copy_node-returns-in_ok-add_entries-in-Object :
    goal.copy_node-returns-in_ok-add_entries-in-Object
copy_node-returns-in_ok-add_entries-in-Object t c =
    let q = c.in_ok-add_entries-in-Object.field-0 in
    let es = c.in_ok-entries-in-Object.entries.items in
    let mid = c.copy_entries.new.to in
    let copies : CopiesEntries (c.args.depth - 1) c.args.from.now (piece c.args.from.now.entries.items c.in-Object.span) c.args.to.now mid es =
    subst (λ l. CopiesEntries (c.args.depth - 1) c.args.from.now l c.args.to.now mid es) c.entries.ensures c.in_ok-entries-in-Object.ensures in
    let adds : AddsEntries mid c.add_entries.new.self es q = subst (λ l. AddsEntries mid c.add_entries.new.self l q) c.as_slice.ensures.value c.in_ok-add_entries-in-Object.ensures in
    subst (λ n. CopiesNode c.args.depth c.args.from.now n c.args.to.now c.add_entries.new.self (Node.Object q)) (sym c.in-Object.is)
    (object_copied c.args.depth c.args.from.now c.in-Object.span c.args.to.now mid c.add_entries.new.self es q (omega (arith, c.if-depth-eq0-2.false)) copies adds)

pub copy_node-returns-in-Null : goal.copy_node-returns-in-Null
copy_node-returns-in-Null t c =
    subst (λ n. CopiesNode c.args.depth c.args.from.now n c.args.to.now c.args.to.now Node.Null) (sym c.in-Null.is)
    (leaf_copied c.args.depth c.args.from.now c.args.to.now Node.Null (null_seen c.args.depth c.args.to.now ∙ sym (null_seen c.args.depth c.args.from.now)) (null_holds c.args.depth c.args.to.now))

pub copy_node-returns-in-Bool : goal.copy_node-returns-in-Bool
copy_node-returns-in-Bool t c =
    let b = c.in-Bool.flag in
    subst (λ n. CopiesNode c.args.depth c.args.from.now n c.args.to.now c.args.to.now (Node.Bool b)) (sym c.in-Bool.is)
    (leaf_copied c.args.depth c.args.from.now c.args.to.now (Node.Bool b) (flag_seen c.args.depth c.args.to.now b ∙ sym (flag_seen c.args.depth c.args.from.now b)) (flag_holds c.args.depth c.args.to.now b))

pub copy_node-returns-in-Unsigned : goal.copy_node-returns-in-Unsigned
copy_node-returns-in-Unsigned t c =
    let n = Number.Unsigned c.in-Unsigned.n in
    subst (λ m. CopiesNode c.args.depth c.args.from.now m c.args.to.now c.args.to.now (Node.Unsigned c.in-Unsigned.n)) (sym c.in-Unsigned.is)
    (leaf_copied c.args.depth c.args.from.now c.args.to.now (Node.Unsigned c.in-Unsigned.n) (number_seen c.args.depth c.args.to.now n ∙ sym (number_seen c.args.depth c.args.from.now n)) (number_holds c.args.depth c.args.to.now n))

pub copy_node-returns-in-Negative : goal.copy_node-returns-in-Negative
copy_node-returns-in-Negative t c =
    let n = Number.Negative c.in-Negative.field-0 in
    subst (λ m. CopiesNode c.args.depth c.args.from.now m c.args.to.now c.args.to.now m) (sym c.in-Negative.is)
    (leaf_copied c.args.depth c.args.from.now c.args.to.now (Node.Negative c.in-Negative.field-0) (number_seen c.args.depth c.args.to.now n ∙ sym (number_seen c.args.depth c.args.from.now n)) (number_holds c.args.depth c.args.to.now n))

pub copy_node-returns-in-Float : goal.copy_node-returns-in-Float
copy_node-returns-in-Float t c =
    let n = Number.Float c.in-Float.x in
    subst (λ m. CopiesNode c.args.depth c.args.from.now m c.args.to.now c.args.to.now (Node.Float c.in-Float.x)) (sym c.in-Float.is)
    (leaf_copied c.args.depth c.args.from.now c.args.to.now (Node.Float c.in-Float.x) (number_seen c.args.depth c.args.to.now n ∙ sym (number_seen c.args.depth c.args.from.now n)) (number_holds c.args.depth c.args.to.now n))

pub copy_nodes-nodes-init : goal.copy_nodes-nodes-init
copy_nodes-nodes-init t c = subst (CopiesNodes c.args.depth c.args.from.now [] c.args.to.now c.args.to.now) (sym c.new-copies.ensures.items) (nodes_begin c.args.depth c.args.from.now c.args.to.now)

pub copy_nodes-copy_node-requires : goal.copy_nodes-copy_node-requires
copy_nodes-copy_node-requires t c = (search rules, each_at _ c.args.nodes.now c.nodes.place _ c.requires c.nodes-test.true)

pub copy_nodes-nodes-preserved : goal.copy_nodes-nodes-preserved
copy_nodes-nodes-preserved t c =
    let l = c.nodes in
    let n = c.in_ok-node.node in
    let pushed : c.push.new.self.items ≡ l.copies.items ++ n ∷ [] = grind arith in
    subst (CopiesNodes c.args.depth c.args.from.now _ c.args.to.now c.copy_node.new.to) (sym pushed)
    (nodes_at c.args.depth c.args.from.now c.args.nodes.now c.args.to.now l.to c.copy_node.new.to l.copies.items l.place _ n c.nodes-test.true l.invariant c.in_ok-node.ensures)

pub copy_nodes-returns : goal.copy_nodes-returns
copy_nodes-returns t c = nodes_end c.args.depth c.args.from.now c.args.nodes.now c.args.to.now c.nodes.to c.nodes.copies.items c.nodes.place c.nodes-test.false c.nodes.invariant
