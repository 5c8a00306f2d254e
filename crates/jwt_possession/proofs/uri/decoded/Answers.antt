use Rattle.std.proofs.Common.{◌≡◌, ℕ, List, [], ◌∷◌, ◌++◌, option_map, ap, sym, ◌∙◌, rules, ne_eqb}
use Rattle.jwt_possession.specs.Uris.{decoded, normal_octet}
use Rattle.jwt_possession.proofs.Decoding.{plain_step, triplet_step}
use Rattle.jwt_possession.proofs.uri.decoded.Goals as goal

pub octets-preserved-then-first-ne37 : goal.octets-preserved-then-first-ne37
octets-preserved-then-first-ne37 c =
    let done = c.octets.done.items in
    let first = c.in-Some.first.now in
    let more = c.in-Some.more.now in
    let items : c.push.new.self.items ≡ done ++ first ∷ [] = search rules in
    let cut : c.octets.rest.now ≡ first ∷ more = search rules in
    plain_step c.args.text.now done c.octets.rest.now more first c.octets.invariant cut (ne_eqb first 37 c.if-first-ne37.true) ∙ ap (λ (d : List ℕ). option_map (λ m. d ++ m) (decoded more)) (sym items)

pub octets-preserved : goal.octets-preserved
octets-preserved c =
    let done = c.octets.done.items in
    let high = c.in-Some-split_first.high.now in
    let low = c.in-Some-split_first-2.low.now in
    let more = c.in-Some-split_first-2.more.now in
    let octet = c.in-Some-octet_of.octet in
    let first : c.octets.rest.now ≡ c.in-Some.first.now ∷ c.in-Some.more.now = search rules in
    let second : c.in-Some.more.now ≡ high ∷ c.in-Some-split_first.more.now = search rules in
    let third : c.in-Some-split_first.more.now ≡ low ∷ more = search rules in
    let percent : c.in-Some.first.now ≡ 37 = c.if-first-ne37.false in
    let cut : c.octets.rest.now ≡ 37 ∷ high ∷ low ∷ more = cc in
    let items : c.put_octet.new.text.items ≡ done ++ normal_octet octet = c.in_ok-put_octet.ensures in
    triplet_step c.args.text.now done c.octets.rest.now (normal_octet octet) more high low c.octets.invariant cut (sym c.in-Some-octet_of.ensures) ∙ ap (λ (d : List ℕ). option_map (λ m. d ++ m) (decoded more)) (sym items)
