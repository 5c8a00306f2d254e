use Rattle.std.proofs.Common.{◌≡◌, ◌+◌, ◌*◌, ◌%◌, ◌^◌, ap, sym, subst, ◌∙◌}
use Rattle.ecdsa.specs.Curve.{doubled}
use Rattle.ecdsa.specs.Domains.{domain}
use Rattle.ecdsa.specs.Stands.{Stands}
use Rattle.numbers.specs.Digits.{highest, doublings}
use Rattle.ecdsa.proofs.MultipleSteps.{twice}
use Rattle.numbers.proofs.Digits.{one_doubling, no_doubling}
use Rattle.ecdsa.proofs.windows.next_double.Goals as goal

pub returns-then-digit-highest_power-clause-stands : goal.returns-then-digit-highest_power-clause-stands
returns-then-digit-highest_power-clause-stands g c P at =
    let E = domain c.args.curve.now in
    let k = c.args.k in
    let last : k % 16 + 1 ≡ 2 * 2 ^ highest (k % 16) = c.if-digit-highest_power.true ∙ ap (λ a. 2 * a) c.highest_power.ensures in
    subst (λ o. Stands c.args.curve.now.field c.double.result o) (twice E (doublings k) P ∙ ap (λ n. doubled E n P) (one_doubling k last))
    (c.double.ensures.stands (doubled E (doublings k) P) at)

pub returns-clause-stands : goal.returns-clause-stands
returns-clause-stands g c P at =
    let k = c.args.k in
    subst (λ n. Stands c.args.curve.now.field c.args.p (doubled (domain c.args.curve.now) n P))
    (no_doubling k (λ last. c.if-digit-highest_power.false (last ∙ ap (λ a. 2 * a) (sym c.highest_power.ensures)))) at
