use Rattle.std.proofs.Common.{◌∙◌, sym}
use Rattle.jwt_output.proofs.NearLemmas.{near_end, near_here, near_later}
use Rattle.jwt_output.proofs.nearest.at_edits.Goals as goal

pub returns-then-branch-count : goal.returns-then-branch-count
returns-then-branch-count c =
    sym (near_here c.args.count c.args.name.now c.args.known.now c.loop-word.word-index _ c.loop-word-test.true (sym c.in_ok-levenshtein.ensures.value ∙ c.if-branch-count.true))
    ∙ c.loop-word.invariant

pub loop-word-preserved : goal.loop-word-preserved
loop-word-preserved c =
    near_later c.args.count c.args.name.now c.args.known.now c.loop-word.word-index _ c.loop-word-test.true (λ is. c.if-branch-count.false (c.in_ok-levenshtein.ensures.value ∙ is))
    ∙ c.loop-word.invariant

pub returns : goal.returns
returns c =
    sym (near_end c.args.count c.args.name.now c.args.known.now c.loop-word.word-index c.loop-word-test.false) ∙ c.loop-word.invariant
