use Rattle.std.proofs.Common.{◌∙◌, sym, arith, nat_cmp}
use Rattle.std.specs.Cmp.Lexicographic.{slice_cmp}
use Rattle.jwt_text.proofs.NameLemmas.{ascends_more, ascending}
use Rattle.jwt_text.proofs.arrange.is_ascending.Goals as goal

pub loop-place-init : goal.loop-place-init
loop-place-init c = λ i d l. absurd (omega (arith, l))

pub loop-place-preserved : goal.loop-place-preserved
loop-place-preserved c =
    ascends_more c.args.store.now c.args.entries.now c.loop-place.place _ _ c.loop-place.auto.place c.loop-place-test.true c.loop-place.invariant
    ((λ i. slice_cmp nat_cmp (sym c.octets-before.ensures i) (sym c.octets-name.ensures i)) ∙ sym c.cmp.ensures ∙ c.in-Less.is)

pub returns : goal.returns
returns c = λ yes. ascending c.args.store.now c.args.entries.now (λ i d l. c.loop-place.invariant i d (omega (arith, l, c.loop-place-test.false)))
