use Rattle.std.proofs.Common.{◌≡◌, ◌&&◌, true, false, ap, ◌∙◌, sym, nat_eq}
use Rattle.jwt_ed25519.specs.Elements.{element}
use Rattle.jwt_ed25519.specs.Points.{double}
use Rattle.jwt_ed25519.specs.Verifying.{is_neutral, is_small}
use Rattle.jwt_ed25519.proofs.point.EdwardsPoint.is_small.Goals as goal

pub returns-then-is : goal.returns-then-is
unfolding is_small
returns-then-is c =
    let eight = c.double-eight_times.result in
    let x : nat_eq (element eight.x) 0 ≡ true = ap (λ z. nat_eq (element eight.x) z) (sym c.small.ensures) ∙ sym c.is.ensures ∙ c.if-is.true in
    c.is-then-is.ensures ∙ ap (λ b. b && nat_eq (element eight.y) (element eight.z)) (sym x)
    ∙ ap is_neutral (c.double-eight_times.ensures ∙ ap double (c.double-2.ensures ∙ ap double c.double.ensures))

pub returns-else-is : goal.returns-else-is
unfolding is_small
returns-else-is c =
    let eight = c.double-eight_times.result in
    let x : nat_eq (element eight.x) 0 ≡ false = ap (λ z. nat_eq (element eight.x) z) (sym c.small.ensures) ∙ sym c.is.ensures ∙ c.if-is.false in
    c.if-is.false ∙ ap (λ b. b && nat_eq (element eight.y) (element eight.z)) (sym x)
    ∙ ap is_neutral (c.double-eight_times.ensures ∙ ap double (c.double-2.ensures ∙ ap double c.double.ensures))
