use Rattle.std.proofs.Common.{sym, ap, ◌∙◌, arith}
use Rattle.jwt_text.specs.Members.{has}
use Rattle.jwt_text.proofs.Seen.{each_at}
use Rattle.jwt_text.proofs.LookupLemmas.{some_name, no_name, none_more}
use Rattle.jwt_text.proofs.lookup.share_name.Goals as goal

pub loop-entry-init : goal.loop-entry-init
loop-entry-init c = λ i l d. absurd (omega (arith, l))

pub text-requires : goal.text-requires
text-requires c = (each_at _ c.args.entries.now c.loop-entry.entry-index _ c.requires.0 c.loop-entry-test.true).0

pub returns-then-has : goal.returns-then-has
returns-then-has c =
    sym (some_name (λ k. has k c.args.other.now) c.args.store.now c.args.entries.now c.loop-entry.entry-index _ c.loop-entry-test.true
    (ap (λ k. has k c.args.other.now) (sym c.text.ensures) ∙ sym c.has.ensures ∙ c.if-has.true))

pub loop-entry-preserved : goal.loop-entry-preserved
loop-entry-preserved c =
    none_more (λ k. has k c.args.other.now) c.args.store.now c.args.entries.now c.loop-entry.entry-index _ c.loop-entry-test.true c.loop-entry.invariant
    (ap (λ k. has k c.args.other.now) (sym c.text.ensures) ∙ sym c.has.ensures ∙ c.if-has.false)

pub returns : goal.returns
returns c = sym (no_name (λ k. has k c.args.other.now) c.args.store.now c.args.entries.now (λ i l d. c.loop-entry.invariant i (omega (arith, l, c.loop-entry-test.false)) d))
