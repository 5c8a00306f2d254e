use Rattle.jwt_possession.proofs.OneFault.{one_fault}
use Rattle.jwt_possession.proofs.laws.proofs_have_one_fault.Goals as goal

pub returns : goal.returns
returns c = one_fault c.tells_tokens.ensures.token c.tells_tokens.ensures.fault c.object_texts.ensures.object c.claims_hold.ensures
