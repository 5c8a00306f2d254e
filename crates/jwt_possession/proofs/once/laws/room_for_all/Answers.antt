use Rattle.jwt_possession.proofs.Shares.{room_for_all}
use Rattle.jwt_possession.proofs.once.laws.room_for_all.Goals as goal

pub returns : goal.returns
returns c = room_for_all
