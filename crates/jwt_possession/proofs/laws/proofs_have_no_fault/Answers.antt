use Rattle.jwt_possession.proofs.NoFault.{no_fault}
use Rattle.jwt_possession.proofs.laws.proofs_have_no_fault.Goals as goal

pub returns : goal.returns
returns c = no_fault c.tells_tokens.ensures.token c.tells_tokens.ensures.fault c.object_texts.ensures.object c.claims_hold.ensures
