use Rattle.std.proofs.Math.Bool.{Bool-set}
use Rattle.std.proofs.Math.Logic.{∥∥₁_elim}
use Rattle.ecdsa.proofs.prepared.verifies_by.Goals as goal

pub returns : goal.returns
returns g c =
    ∥∥₁_elim c.windows_of_base-base.ensures.are (Bool-set _ _)
    (λ base. ∥∥₁_elim c.windows_of-key.ensures.are (Bool-set _ _)
    (λ own. c.verifies.ensures base own))
