use Rattle.jwt_verify.proofs.SameKeys.{same_keys_hold}
use Rattle.jwt_verify.proofs.laws.same_keys.Goals as goal

pub returns : goal.returns
returns c = same_keys_hold
