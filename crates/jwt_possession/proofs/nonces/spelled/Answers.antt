use Rattle.std.proofs.Common.{refl, arith}
use Rattle.jwt_possession.proofs.Encoded.{spelled_in}
use Rattle.jwt_possession.proofs.nonces.spelled.Goals as goal

pub returns : goal.returns
returns c = spelled_in c.args.digest.now _ c.encode_slice.new.output (λ i. omega (arith, c.type_inv.digest i)) c.requires refl c.in-Ok.ensures.written
