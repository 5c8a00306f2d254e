use Rattle.std.proofs.Common.{arith}
use Rattle.jwt_jwk.proofs.Keys.{rsa_found, rsa_only}
use Rattle.jwt_jwk.proofs.der.public_key.read_rsa_public_key.Goals as goal

pub returns-clause-found : goal.returns-clause-found
returns-clause-found c = rsa_found c.args.octets.now c.read_rsa.result (λ i. omega (arith, c.type_inv.octets i)) c.read_rsa.ensures

pub returns-clause-only : goal.returns-clause-only
returns-clause-only c = rsa_only c.args.octets.now c.read_rsa.result c.read_rsa.ensures
