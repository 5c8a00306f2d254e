use Rattle.std.proofs.Common.{arith}
use Rattle.jwt_jwk.proofs.Keys.{key_found, key_only}
use Rattle.jwt_jwk.proofs.der.public_key.read_public_key.Goals as goal

pub returns-clause-found : goal.returns-clause-found
returns-clause-found c = key_found c.args.octets.now c.read.result (λ i. omega (arith, c.type_inv.octets i)) c.read.ensures

pub returns-clause-only : goal.returns-clause-only
returns-clause-only c = key_only c.args.octets.now c.read.result c.read.ensures
