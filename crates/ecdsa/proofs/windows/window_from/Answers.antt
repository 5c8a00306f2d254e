use Rattle.std.proofs.Common.{rules, ◌≡◌, ◌≢◌, ◌+◌, ◌*◌, ◌/◌, ◌%◌, ◌^◌, ◌<◌, [], get_or, ◌-◌, ap, sym, subst, ◌∙◌, arith}
use Rattle.std.proofs.Math.Path.{ap₂}
use Rattle.ecdsa.specs.Curve.{sum_of, doubled, digit_multiple}
use Rattle.ecdsa.specs.Domains.{domain}
use Rattle.ecdsa.specs.Field.{size, value, Below}
use Rattle.ecdsa.specs.Stands.{AreFor, Stands}
use Rattle.numbers.specs.Digits.{highest}
use Rattle.numbers.proofs.Digits.{power_within, before_it}
use Rattle.ecdsa.proofs.WindowSteps.{by_power, by_highest}
use Rattle.ecdsa.proofs.windows.window_from.Goals as goal

pub returns-then-digit-power-clause-stands : goal.returns-then-digit-power-clause-stands
returns-then-digit-power-clause-stands g c P rough at some =
    let k = c.args.k in
    subst (λ o. Stands c.args.curve.now.field c.args.double.now o)
    (by_power (domain c.args.curve.now) (4 * (k / 16)) P (k % 16) (omega arith) some (c.if-digit-power.true ∙ c.highest_power-power.ensures)) at

pub add-requires : goal.add-requires
add-requires g c =
    let f = c.args.curve.now.field in
    let k = c.args.k in
    let power = c.highest_power-power.result in
    let place = before_it k c.if-digit-eq0.false in
    let within : k - power < k = subst (λ a. k - a < k) (sym c.highest_power-power.ensures) place.0 in
    let x_below : Below f c.at-x.result = subst (λ a. Below f a) (sym c.at-x.ensures) (c.requires.rows.x (k - power) within) in
    let y_below : Below f c.at-y.result = subst (λ a. Below f a) (sym c.at-y.ensures) (c.requires.rows.y (k - power) within) in
    let z_below : Below f c.at-z.result = subst (λ a. Below f a) (sym c.at-z.ensures) (c.requires.rows.z (k - power) within) in
    search rules

pub returns-clause-stands : goal.returns-clause-stands
returns-clause-stands g c P rough at some =
    let f = c.args.curve.now.field in
    let E = domain c.args.curve.now in
    let k = c.args.k in
    let power = c.highest_power-power.result in
    let is = c.highest_power-power.ensures in
    let place = before_it k some in
    let within : k - power < k = subst (λ a. k - a < k) (sym is) place.0 in
    let j = k - power in
    let here : j ≡ k - 2 ^ highest (k % 16) = ap (λ a. k - a) is in
    let rest : j % 16 ≡ k % 16 - 2 ^ highest (k % 16) = ap (λ a. a % 16) here ∙ place.2 in
    let whole : j / 16 ≡ k / 16 = ap (λ a. a / 16) here ∙ place.1 in
    let other : j % 16 ≢ 0 = λ none. c.if-digit-power.false (omega (arith, none, rest, is, (power_within (k % 16) (omega arith) some).0)) in
    let left = digit_multiple E (4 * (j / 16)) 4 (j % 16) P in
    let earlier : AreFor (size f) (value f c.at-x.result) (value f c.at-y.result) (value f c.at-z.result) left =
    subst (λ a. AreFor (size f) (value f a) (value f c.at-y.result) (value f c.at-z.result) left) (sym c.at-x.ensures)
    (subst (λ b. AreFor (size f) (value f (get_or c.args.rows.xs.now j [])) (value f b) (value f c.at-z.result) left) (sym c.at-y.ensures)
    (subst (λ z. AreFor (size f) (value f (get_or c.args.rows.xs.now j [])) (value f (get_or c.args.rows.ys.now j [])) (value f z) left) (sym c.at-z.ensures) (rough j within other))) in
    subst (λ o. Stands f c.add.result o)
    (ap (λ o. sum_of E o (doubled E (4 * (k / 16) + highest (k % 16)) P)) (ap₂ (λ a b. digit_multiple E (4 * a) 4 b P) whole rest)
    ∙ by_highest E (4 * (k / 16)) P (k % 16) (omega arith) some)
    (c.add.ensures.stands left (doubled E (4 * (k / 16) + highest (k % 16)) P) earlier at)
