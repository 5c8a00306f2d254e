use Rattle.std.proofs.Common.{◌<◌, ◌++◌, length, sym, ap, ◌∙◌, arith, append_assoc}
use Rattle.std.specs.Prelude.{map, string_bytes}
use Rattle.std.proofs.lemmas.List.{map-append}
use Rattle.jwt_keys.proofs.ByPlace.{texts_more}
use Rattle.jwt_keys.proofs.entry.copy_items.Goals as goal

pub loop-place-preserved : goal.loop-place-preserved
loop-place-preserved c =
    let copies = map string_bytes c.loop-place.copies.items in
    let ds = c.args.list.now in
    let within : c.loop-place.place < length ds = omega (arith, c.len-place-end.ensures, c.loop-place-test.true) in
    let more = texts_more ds c.loop-place.place within in
    rw (c.in_ok-push.ensures.items, map-append, c.in_ok-from_str.ensures.ok, c.item_text-text.ensures)
    (append_assoc copies _ _ ∙ ap (λ r. copies ++ r) (sym more) ∙ c.loop-place.invariant)
