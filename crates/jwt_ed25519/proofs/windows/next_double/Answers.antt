use Rattle.std.proofs.Common.{◌≡◌, ◌+◌, ◌*◌, ◌%◌, ◌^◌, ap, sym, ◌∙◌}
use Rattle.numbers.specs.Digits.{highest, doublings}
use Rattle.numbers.proofs.Digits.{one_doubling, no_doubling}
use Rattle.jwt_ed25519.specs.Points.{double, doubled}
use Rattle.jwt_ed25519.proofs.MultipleSteps.{twice}
use Rattle.jwt_ed25519.proofs.windows.next_double.Goals as goal

pub returns-then-digit-highest_power : goal.returns-then-digit-highest_power
returns-then-digit-highest_power c P at =
    let k = c.args.k in
    let last : k % 16 + 1 ≡ 2 * 2 ^ highest (k % 16) = c.if-digit-highest_power.true ∙ ap (λ a. 2 * a) c.highest_power.ensures in
    c.double.ensures ∙ ap double at ∙ twice (doublings k) P ∙ ap (λ n. doubled n P) (one_doubling k last)

pub returns : goal.returns
returns c P at =
    let k = c.args.k in
    at ∙ ap (λ n. doubled n P) (no_doubling k (λ last. c.if-digit-highest_power.false (last ∙ ap (λ a. 2 * a) (sym c.highest_power.ensures))))
