use Rattle.std.proofs.Common.{◌<◌, length, sym, ◌∙◌, arith}
use Rattle.jwt_advice.specs.Private.{is_private}
use Rattle.jwt_advice.proofs.Walks.{numbers_yes, numbers_no}
use Rattle.jwt_command.proofs.private.private_places.Goals as goal
use Rattle.jwt_command.proofs.private.private_places.Goals.{then-is_private_at+in_ok-push, else-is_private_at}

pub loop-place-preserved : goal.loop-place-preserved
loop-place-preserved c =
    let within : c.loop-place.place < length c.args.entries.now = omega arith in
    elim c.if-is_private_at.branch [
      | then-is_private_at+in_ok-push w ↦
          rw (w.found-is, w.in_ok-push.ensures.items) (numbers_yes is_private c.args.entries.now c.loop-place.place c.loop-place.found.items _ within (sym c.is_private_at.ensures ∙ w.if-is_private_at.true) c.loop-place.invariant)
      | else-is_private_at w ↦
          rw w.found-is (numbers_no is_private c.args.entries.now c.loop-place.place c.loop-place.found.items _ within (sym c.is_private_at.ensures ∙ w.if-is_private_at.false) c.loop-place.invariant)
    ]
