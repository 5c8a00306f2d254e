use Rattle.std.proofs.Common.{arith}
use Rattle.jwt_issue.proofs.header.spell.Goals as goal

pub returns-in-Ok-clause-octets : goal.returns-in-Ok-clause-octets
returns-in-Ok-clause-octets c = λ i. omega (arith, c.type_inv.octets i)

pub returns-in-Err-clause-octets : goal.returns-in-Err-clause-octets
returns-in-Err-clause-octets c = λ i. omega (arith, c.type_inv.octets i)
