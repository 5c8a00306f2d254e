use Rattle.jwt_verify.proofs.SameKeys.{more_keys_hold}
use Rattle.jwt_verify.proofs.laws.more_keys.Goals as goal

pub returns : goal.returns
returns c = more_keys_hold
