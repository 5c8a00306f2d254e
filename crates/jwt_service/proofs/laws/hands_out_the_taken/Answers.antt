use Rattle.jwt_service.proofs.HandedOut.{handed_out}
use Rattle.jwt_service.proofs.laws.hands_out_the_taken.Goals as goal

pub returns : goal.returns
returns c = handed_out
