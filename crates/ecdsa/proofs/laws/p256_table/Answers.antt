use Rattle.std.proofs.Common.{sym, ap, subst}
use Rattle.ecdsa.specs.Doubles.{IsTable}
use Rattle.ecdsa.specs.declared.p256_doubles.TheConstants.{P256_X, P256_Y}
use Rattle.ecdsa.proofs.Tables256.{is_table}
use Rattle.ecdsa.proofs.laws.p256_table.Goals as goal

pub returns : goal.returns
returns g c =
    let f = c.args.curve.now.field in
    subst (λ E. IsTable f E P256_X P256_Y) (sym c.requires) (is_table f (ap (λ E. E.p) c.requires))
