use Rattle.jwt_jwk.proofs.Numbers.{written}
use Rattle.jwt_jwk.proofs.der.laws.numbers_are_written.Goals as goal

pub returns : goal.returns
returns c = written
