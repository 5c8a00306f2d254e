use Rattle.std.proofs.Common.{◌&&◌, take, drop, ap, ◌∙◌, sym, arith}
use Rattle.std.specs.Prelude.{not}
use Rattle.std.proofs.lemmas.List.{length-take-le}
use Rattle.jwt_mac.specs.Hmac.{all_octets}
use Rattle.jwt_ed25519.specs.Elements.{coordinates}
use Rattle.jwt_ed25519.specs.Limbs.{number}
use Rattle.jwt_ed25519.specs.Octets.{number_of}
use Rattle.jwt_ed25519.specs.Verifying.{equation_holds, challenge}
use Rattle.jwt_ed25519.proofs.Digits.{not_less, second_half}
use Rattle.jwt_ed25519.proofs.Verdicts.{other_length, s_above, no_point, point_tested}
use Rattle.jwt_ed25519.proofs.verifying.verifies_with.Goals as goal

pub slice_bounds-r-end : goal.slice_bounds-r-end
slice_bounds-r-end c = sym (length-take-le 32 c.args.signature.now (omega arith))

pub holds-requires : goal.holds-requires
holds-requires c = length-take-le 32 c.args.signature.now (omega arith)

pub returns-then-signature-ne64 : goal.returns-then-signature-ne64
returns-then-signature-ne64 c = other_length c.args.key.now (all_octets c.args.parts) c.args.signature.now c.if-signature-ne64.true

pub returns-then-not-is_less : goal.returns-then-not-is_less
returns-then-not-is_less c =
    let s = number c.from_octets-s.result in
    let is = c.from_octets-s.ensures ∙ ap number_of (second_half c.args.signature.now c.if-signature-ne64.false) in
    let above = not_less _ _ _ c.is_less.ensures c.if-not-is_less.true in
    s_above c.args.key.now (all_octets c.args.parts) c.args.signature.now s is (omega (arith, above, c.order.ensures))

pub returns-in_default : goal.returns-in_default
returns-in_default c =
    let is = c.from_octets-s.ensures ∙ ap number_of (second_half c.args.signature.now c.if-signature-ne64.false) in
    let below = c.is_less.ensures.0 c.if-not-is_less.false in
    no_point c.args.key.now (all_octets c.args.parts) c.args.signature.now c.if-signature-ne64.false (omega (arith, is, below, c.order.ensures)) c.in_default.ensures.encoded

pub returns-then-not-is_small : goal.returns-then-not-is_small
returns-then-not-is_small c =
    let signature = c.args.signature.now in
    let message = all_octets c.args.parts in
    let A = coordinates c.in-Some.held.a in
    let is = c.from_octets-s.ensures ∙ ap number_of (second_half signature c.if-signature-ne64.false) in
    let below = c.is_less.ensures.0 c.if-not-is_less.false in
    c.holds.ensures c.requires c.in-Some.ensures.are ∙ ap (λ s. equation_holds A (take 32 signature) s (number c.challenge.result)) is
    ∙ ap (λ k. equation_holds A (take 32 signature) (number_of (drop 32 signature)) k) c.challenge.ensures
    ∙ ap (λ b. not b && equation_holds A (take 32 signature) (number_of (drop 32 signature)) (challenge (take 32 signature) c.args.key.now message))
    (sym c.if-not-is_small.true ∙ c.is_small.ensures)
    ∙ point_tested c.args.key.now message signature A c.if-signature-ne64.false (omega (arith, is, below, c.order.ensures)) c.in-Some.ensures.encoded

pub returns-else-not-is_small : goal.returns-else-not-is_small
returns-else-not-is_small c =
    let signature = c.args.signature.now in
    let message = all_octets c.args.parts in
    let A = coordinates c.in-Some.held.a in
    let is = c.from_octets-s.ensures ∙ ap number_of (second_half signature c.if-signature-ne64.false) in
    let below = c.is_less.ensures.0 c.if-not-is_less.false in
    ap not c.if-not-is_small.false
    ∙ ap (λ b. not b && equation_holds A (take 32 signature) (number_of (drop 32 signature)) (challenge (take 32 signature) c.args.key.now message))
    (sym c.if-not-is_small.false ∙ c.is_small.ensures)
    ∙ point_tested c.args.key.now message signature A c.if-signature-ne64.false (omega (arith, is, below, c.order.ensures)) c.in-Some.ensures.encoded
