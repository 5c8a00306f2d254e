use Rattle.std.proofs.Common.{◌≡◌, ◌-◌, ◌*◌, ◌/◌, ◌%◌, ◌^◌, ◌<◌, Some, ap, sym, subst, ◌∙◌, arith}
use Rattle.std.proofs.Math.Path.{ap₂}
use Rattle.numbers.specs.Digits.{highest}
use Rattle.numbers.proofs.Digits.{before_it}
use Rattle.jwt_ed25519.specs.Elements.{summed}
use Rattle.jwt_ed25519.specs.Points.{sum_of, digit_multiple}
use Rattle.jwt_ed25519.proofs.MultipleSteps.{by_highest, no_digit}
use Rattle.jwt_ed25519.proofs.windows.window_from.Goals as goal

pub returns-then-digit-eq0 : goal.returns-then-digit-eq0
returns-then-digit-eq0 c P rough at = no_digit (4 * (c.args.k / 16)) (c.args.k % 16) P c.if-digit-eq0.true

pub at-before-requires : goal.at-before-requires
at-before-requires c =
    let place = before_it c.args.k c.if-digit-eq0.false in
    let within : c.args.k - c.highest_power-power.result < c.args.k = subst (λ a. c.args.k - a < c.args.k) (sym c.highest_power-power.ensures) place.0 in
    omega (arith, within, c.requires)

pub returns : goal.returns
returns c P rough at =
    let k = c.args.k in
    let power = c.highest_power-power.result in
    let is = c.highest_power-power.ensures in
    let place = before_it k c.if-digit-eq0.false in
    let within : k - power < k = subst (λ a. k - a < k) (sym is) place.0 in
    let j = k - power in
    let here : j ≡ k - 2 ^ highest (k % 16) = ap (λ a. k - a) is in
    let rest : j % 16 ≡ k % 16 - 2 ^ highest (k % 16) = ap (λ a. a % 16) here ∙ place.2 in
    let whole : j / 16 ≡ k / 16 = ap (λ a. a / 16) here ∙ place.1 in
    let earlier : summed c.at-before.result ≡ digit_multiple (4 * (k / 16)) 4 (k % 16 - 2 ^ highest (k % 16)) P =
    ap summed c.at-before.ensures ∙ rough j within ∙ ap₂ (λ a b. digit_multiple (4 * a) 4 b P) whole rest in
    c.sum.ensures ∙ ap₂ (λ a b. sum_of a (Some b)) earlier at ∙ by_highest (4 * (k / 16)) P (k % 16) (omega arith) c.if-digit-eq0.false
