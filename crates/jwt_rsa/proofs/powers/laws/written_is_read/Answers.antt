use Rattle.jwt_rsa.proofs.Written.{reads_back}
use Rattle.jwt_rsa.proofs.powers.laws.written_is_read.Goals as goal

pub returns : goal.returns
returns c = reads_back
