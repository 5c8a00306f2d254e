use Rattle.jwt_sources.proofs.Logs.{one_answer}
use Rattle.jwt_sources.proofs.laws.tickets_are_answered_once.Goals as goal

pub returns : goal.returns
returns g c = λ log at other ticket one two run came came_too. one_answer at other ticket one two log run came came_too
