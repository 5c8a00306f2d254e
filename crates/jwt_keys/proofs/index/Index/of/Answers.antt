use Rattle.std.proofs.Common.{◌≡◌, ◌<◌, length, get_or, refl, sym}
use Rattle.std.specs.Prelude.{map}
use Rattle.std.proofs.lemmas.List.{get_or-map, length-map}
use Rattle.jwt_keys.specs.Views.{key_parts}
use Rattle.jwt_keys.specs.Keys.{has_kid, has_thumbprint}
use Rattle.jwt_keys.proofs.Growing.{numbers_more}
use Rattle.jwt_keys.proofs.index.Index.of.Goals as goal

pub loop-number-preserved : goal.loop-number-preserved
loop-number-preserved c =
    let xs = c.deref-key-items.result.now in
    let i = c.loop-number.number in
    let x = key_parts c.key-item.result in
    let keys = map key_parts xs in
    let lt : i < length keys = simp length-map c.loop-number-test.true in
    let here : get_or keys i x ≡ x = rw (get_or-map key_parts xs i c.key-item.result x c.loop-number-test.true, ← c.key-item.is) refl in
    record {
      kids = λ q. rw (c.in_ok-add.ensures.kids q, c.loop-number.invariant.kids q) (sym (rw here at (numbers_more (has_kid q) keys i x lt)));
      thumbprints = λ q. rw (c.in_ok-add.ensures.thumbprints q, c.loop-number.invariant.thumbprints q) (sym (rw here at (numbers_more (has_thumbprint q) keys i x lt)));
    }
