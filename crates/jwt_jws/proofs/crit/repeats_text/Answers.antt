use Rattle.std.proofs.Common.{◌≡◌, ◌<◌, ◌-◌, ◌∙◌, suc, sym, ap, drop, length, arith}
use Rattle.std.specs.List.{list_any}
use Rattle.jwt_jws.specs.Crit.{has_text, repeats_text}
use Rattle.jwt_jws.proofs.CritLemmas.{down_texts, down_repeats, texts_none, repeats_none, repeats_before, not_false, not_true}
use Rattle.jwt_jws.proofs.crit.repeats_text.Goals as goal
use Rattle.jwt_jws.proofs.Shapes.{is_text}

pub returns-then-not-branch : goal.returns-then-not-branch
returns-then-not-branch c =
    let ds = c.args.list.now in
    let i = c.loop-place.place - 1 in
    let inv = c.loop-place.invariant in
    let down : c.loop-place.place ≡ suc i = omega arith in
    let stands = not_true _ _ c.in_ok-add.ensures.new c.if-not-branch.true in
    let here = down_repeats ds c.loop-place.place i c.in-Some.text.now (has_text c.loop-place.seen) down c.in-Some.ensures inv.seen inv.once in
    sym (repeats_before ds i (here ∙ stands))

pub loop-place-preserved-else-not-branch : goal.loop-place-preserved-else-not-branch
loop-place-preserved-else-not-branch c =
    let ds = c.args.list.now in
    let i = c.loop-place.place - 1 in
    let inv = c.loop-place.invariant in
    let down : c.loop-place.place ≡ suc i = omega arith in
    let fresh = not_false _ _ c.in_ok-add.ensures.new c.if-not-branch.false in
    let here = down_repeats ds c.loop-place.place i c.in-Some.text.now (has_text c.loop-place.seen) down c.in-Some.ensures inv.seen inv.once in
    record {
      within = omega arith;
      seen = down_texts ds c.loop-place.place i c.in-Some.text.now (has_text c.loop-place.seen) (has_text c.add.new.seen) down c.in-Some.ensures inv.seen c.in_ok-add.ensures.all;
      once = here ∙ fresh;
    }

pub loop-place-preserved : goal.loop-place-preserved
loop-place-preserved c =
    let ds = c.args.list.now in
    let i = c.loop-place.place - 1 in
    let inv = c.loop-place.invariant in
    let down : c.loop-place.place ≡ suc i = omega arith in
    let lt : i < length ds = omega arith in
    record {
      within = omega arith;
      seen = λ text. inv.seen text ∙ ap (λ n. list_any (is_text text) (drop n ds)) down ∙ sym (texts_none ds i text lt (sym c.in_default.ensures));
      once = repeats_none ds i lt (sym c.in_default.ensures) ∙ ap (λ n. repeats_text (drop n ds)) (sym down) ∙ inv.once;
    }
