use Rattle.std.proofs.Common.{◌<◌, length, arith}
use Rattle.jwt_document.proofs.TextsLemmas.{texts_push}
use Rattle.jwt_document.proofs.values.texts_of.Goals as goal

pub loop-place-preserved : goal.loop-place-preserved
loop-place-preserved c =
    let lt : c.loop-place.place < length c.args.list.now = omega arith in
    rw c.in_ok-push.ensures.items (texts_push c.args.list.now c.loop-place.place c.loop-place.texts.items c.element.result lt c.loop-place.invariant c.element.ensures)
