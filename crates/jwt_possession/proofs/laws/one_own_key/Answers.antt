use Rattle.jwt_possession.proofs.OwnKeys.{same_signed}
use Rattle.jwt_possession.proofs.laws.one_own_key.Goals as goal

pub returns : goal.returns
returns c = same_signed c.tells_tokens.ensures.token c.object_texts.ensures.object
