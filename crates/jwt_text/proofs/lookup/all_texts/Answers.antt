use Rattle.std.proofs.Common.{◌≡◌, true, false, is_some, sym, ap, ◌∙◌, arith}
use Rattle.jwt_text.specs.Flat.{node_data, most}
use Rattle.jwt_text.proofs.LookupLemmas.{is_text, no_texts, all_are_texts, all_more}
use Rattle.jwt_text.proofs.lookup.all_texts.Goals as goal

pub loop-node-init : goal.loop-node-init
loop-node-init c = λ i l d. absurd (omega (arith, l))

pub returns-then-is_none : goal.returns-then-is_none
returns-then-is_none c = λ s.
    let none : is_some c.as_text.result ≡ false = grind arith in
    sym (no_texts (node_data most s) c.args.nodes.now c.loop-node.node-index _ c.loop-node-test.true (is_text most s _ ∙ ap is_some (sym c.as_text.ensures) ∙ none))

pub loop-node-preserved : goal.loop-node-preserved
loop-node-preserved c =
    let some : is_some c.as_text.result ≡ true = grind arith in
    all_more c.args.nodes.now c.loop-node.node-index _ c.loop-node-test.true c.loop-node.invariant (ap is_some (sym c.as_text.ensures) ∙ some)

pub returns : goal.returns
returns c = λ s. sym (all_are_texts most s c.args.nodes.now (λ i l d. c.loop-node.invariant i (omega (arith, l, c.loop-node-test.false)) d))
