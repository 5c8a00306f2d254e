use Rattle.std.proofs.Common.{sym, ◌∙◌}
use Rattle.jwt_text.specs.Flat.{most}
use Rattle.jwt_text.proofs.Seen.{each_at, found_at, found_none, others_more}
use Rattle.jwt_text.proofs.lookup.member_near.Goals as goal

pub holds_at-requires : goal.holds_at-requires
holds_at-requires c = (each_at _ c.args.entries.now c.loop-entry.entry-index _ c.requires.0 c.loop-entry-test.true).0

pub returns-then-holds_at-clause-value : goal.returns-then-holds_at-clause-value
returns-then-holds_at-clause-value c =
    sym (found_at c.args.name.now most c.args.store.now c.args.entries.now c.loop-entry.entry-index _ c.loop-entry-test.true c.loop-entry.invariant (sym c.holds_at.ensures ∙ c.if-holds_at.true))

pub loop-entry-preserved : goal.loop-entry-preserved
loop-entry-preserved c =
    others_more c.args.name.now c.args.store.now c.args.entries.now c.loop-entry.entry-index _ c.loop-entry-test.true c.loop-entry.invariant (sym c.holds_at.ensures ∙ c.if-holds_at.false)

pub returns-clause-value : goal.returns-clause-value
returns-clause-value c = sym (found_none c.args.name.now most c.args.store.now c.args.entries.now c.loop-entry.entry-index c.loop-entry-test.false c.loop-entry.invariant)
