use Rattle.jwt_possession.proofs.AllShown.{all_shown}
use Rattle.jwt_possession.proofs.laws.all_shown.Goals as goal

pub returns : goal.returns
returns c = all_shown
