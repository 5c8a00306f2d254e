use Rattle.std.proofs.Common.{sym, ap, subst}
use Rattle.ecdsa.specs.Doubles.{IsTable}
use Rattle.ecdsa.specs.declared.p384_doubles.TheConstants.{P384_X, P384_Y}
use Rattle.ecdsa.proofs.Tables384.{is_table}
use Rattle.ecdsa.proofs.laws.p384_table.Goals as goal

pub returns : goal.returns
returns g c =
    let f = c.args.curve.now.field in
    subst (λ E. IsTable f E P384_X P384_Y) (sym c.requires) (is_table f (ap (λ E. E.p) c.requires))
