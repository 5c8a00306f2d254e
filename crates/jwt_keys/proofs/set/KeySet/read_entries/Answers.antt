use Rattle.std.proofs.Common.{◌≡◌, ◌<◌, ◌++◌, length, drop, sym, ap, ◌∙◌, arith, append_assoc, length-append}
use Rattle.std.specs.Prelude.{map}
use Rattle.std.proofs.lemmas.List.{length-map}
use Rattle.jwt_keys.specs.Views.{key_parts}
use Rattle.jwt_keys.specs.KeySets.{keys_from}
use Rattle.jwt_keys.proofs.ByPlace.{keys_more, skips_more, keys_from-length}
use Rattle.jwt_keys.proofs.set.KeySet.read_entries.Goals as goal

pub loop-place-preserved : goal.loop-place-preserved
loop-place-preserved c =
    let l = c.loop-place in
    let ds = c.args.entries.now in
    let within : l.place < length ds = omega arith in
    record {
      keys = rw (c.in_ok-add_entry.ensures.keys, c.object.ensures) (append_assoc (map key_parts l.keys.items) _ _ ∙ ap (λ r. map key_parts l.keys.items ++ r) (sym (keys_more ds l.place within)) ∙ l.invariant.keys);
      skips = rw (c.in_ok-add_entry.ensures.skipped, c.object.ensures) (append_assoc l.skipped.items _ _ ∙ ap (λ r. l.skipped.items ++ r) (sym (skips_more ds l.place within)) ∙ l.invariant.skips);
    }

pub new-requires : goal.new-requires
new-requires c =
    let ds = c.args.entries.now in
    let keys = map key_parts c.loop-place.keys.items in
    let left = keys_from c.loop-place.place (drop c.loop-place.place ds) in
    let all : length (keys ++ left) ≡ length (keys_from 0 ds) = ap length c.loop-place.invariant.keys in
    let joined = length-append keys left in
    let same = length-map c.loop-place.keys.items key_parts in
    let bound = keys_from-length 0 ds in
    omega (arith, all, joined, same, bound, c.requires)
