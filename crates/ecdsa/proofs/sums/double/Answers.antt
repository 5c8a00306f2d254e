use Rattle.std.proofs.Common.{ap, ◌∙◌}
use Rattle.ecdsa.specs.Curve.{sum_of}
use Rattle.ecdsa.specs.Domains.{domain}
use Rattle.ecdsa.proofs.FieldValues.{infinite}
use Rattle.ecdsa.proofs.Rules.{infinity_left}
use Rattle.ecdsa.proofs.sums.double.Goals as goal

pub returns-in-None-clause-stands : goal.returns-in-None-clause-stands
returns-in-None-clause-stands g c R at =
    let E = domain c.args.curve.now in
    let is = infinite c.args.curve.now.field c.args.p R c.in-None.is at in
    ap (λ o. sum_of E o R) is ∙ infinity_left E R ∙ is
