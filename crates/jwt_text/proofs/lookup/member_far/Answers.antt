use Rattle.std.proofs.Common.{◌+◌, ◌-◌, ◌/◌, nat_cmp, sym, ap, ◌∙◌, arith}
use Rattle.std.specs.Cmp.Lexicographic.{slice_cmp}
use Rattle.jwt_text.specs.Flat.{most}
use Rattle.jwt_text.proofs.LookupLemmas.{before_middle, behind_middle, at_middle, nowhere}
use Rattle.jwt_text.proofs.lookup.member_far.Goals as goal

pub returns-in-Equal-clause-value : goal.returns-in-Equal-clause-value
returns-in-Equal-clause-value c =
    let l = c.halves in
    let m = l.low + (l.high - l.low) / 2 in
    sym (at_middle c.args.name.now c.args.store.now c.args.entries.now l.low l.high m _ l.invariant c.requires.1 (omega (arith, c.halves-test.true)) (omega (arith, c.halves-test.true)) most
    (ap (slice_cmp nat_cmp c.args.name.now) (sym c.octets.ensures) ∙ sym c.cmp.ensures ∙ c.in-Equal.is))

pub halves-preserved-in-Less : goal.halves-preserved-in-Less
halves-preserved-in-Less c =
    let l = c.halves in
    let m = l.low + (l.high - l.low) / 2 in
    before_middle c.args.name.now c.args.store.now c.args.entries.now l.low l.high m _ l.invariant c.requires.1 (omega (arith, c.halves-test.true)) (omega (arith, c.halves-test.true))
    (ap (slice_cmp nat_cmp c.args.name.now) (sym c.octets.ensures) ∙ sym c.cmp.ensures ∙ c.in-Less.is)

pub halves-preserved : goal.halves-preserved
halves-preserved c =
    let l = c.halves in
    let m = l.low + (l.high - l.low) / 2 in
    behind_middle c.args.name.now c.args.store.now c.args.entries.now l.low l.high m _ l.invariant c.requires.1 (omega (arith, c.halves-test.true)) (omega (arith, c.halves-test.true))
    (ap (slice_cmp nat_cmp c.args.name.now) (sym c.octets.ensures) ∙ sym c.cmp.ensures ∙ c.in-Greater.is)

pub returns-clause-value : goal.returns-clause-value
returns-clause-value c = sym (nowhere c.args.name.now c.args.store.now c.args.entries.now c.halves.low c.halves.high most c.halves.invariant c.halves-test.false)
