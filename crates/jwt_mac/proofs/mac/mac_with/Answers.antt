use Rattle.std.proofs.Common.{◌≡◌, List, ℕ, [], ◌++◌, length, take, get_or, ap, ◌∙◌, arith}
use Rattle.std.proofs.lemmas.List.{take-map}
use Rattle.std.specs.Borrow.{Bor}
use Rattle.jwt_mac.specs.Hmac.{hmac_of, masked, block_key}
use Rattle.jwt_mac.proofs.Parts.{joined-three, joined_block}
use Rattle.jwt_mac.proofs.mac.mac_with.Goals as goal

-- the inner hasher holds the inner pad and the parts, the outer one the outer pad and the inner digest
pub returns-clause-tag : goal.returns-clause-tag
unfolding hmac_of
returns-clause-tag g c =
    let hash = g.H.HashFunction.hash in
    let key = block_key hash c.args.block c.args.key.now in
    let inner_pad : take c.args.block c.mask_octets-inner_pad.result ≡ masked 0x36 key =
    ap (take c.args.block) c.mask_octets-inner_pad.ensures ∙ take-map _ _ _ ∙ ap (masked 0x36) c.key_block-padded.ensures in
    let outer_pad : take c.args.block c.mask_octets-outer_pad.result ≡ masked 0x5c key =
    ap (take c.args.block) c.mask_octets-outer_pad.ensures ∙ take-map _ _ _ ∙ ap (masked 0x5c) c.key_block-padded.ensures in
    let inner = c.finish-inner_tag.ensures.digest _ (c.feed-4.ensures _ (c.feed-3.ensures _ (c.feed-2.ensures _ (c.feed.ensures [] c.start-inner.ensures)))) in
    let outer = c.finish.ensures.digest _ (c.feed-6.ensures _ (c.feed-5.ensures [] c.start-outer.ensures)) in
    let three : length c.args.parts ≡ 3 = omega arith in
    let nothing : Bor (List ℕ) = record { ref_ptr = (0, 0); now = [] } in
    let parts = joined-three c.args.parts nothing three in
    let tag = c.octets.ensures.is ∙ inner ∙ ap hash (joined_block _ _ (get_or c.args.parts 0 nothing).now (get_or c.args.parts 1 nothing).now (get_or c.args.parts 2 nothing).now _ inner_pad parts) in
    outer ∙ ap hash (λ i. outer_pad i ++ tag i)
