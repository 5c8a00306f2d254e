use Rattle.std.proofs.Common.{◌≡◌, ℤ, refl, sym, subst, inr, true≢false, rules, w64, to_z, of_z}
use Rattle.serde_json.specs.Data.{Members}
use Rattle.jwt_possession.specs.Nonces.{making, HasFresh}
use Rattle.jwt_handles.proofs.nonces.say_nonce.Goals as goal

pub returns-else-accepts : goal.returns-else-accepts
returns-else-accepts c =
    let made = making c.args.nonces.now in
    let claims = c.in-Some.possession.now.claims in
    let z : to_z w64 (of_z w64 c.args.now) ≡ c.args.now = search rules in
    let none : ¬ HasFresh made c.args.now claims = λ has. true≢false (sym (c.if-accepts.ensures.1
    (subst (λ (ms : Members). HasFresh made (to_z w64 (of_z w64 c.args.now)) ms) (sym c.claims.ensures) (subst (λ (n : ℤ). HasFresh made n claims) (sym z) has)))) in
    rw c.in-Some.is (inr (refl, none))
