use Rattle.jwt_sources.proofs.Runs.{stands_after}
use Rattle.jwt_sources.proofs.laws.any_calls_stand.Goals as goal

pub returns : goal.returns
returns g c = λ first last calls log run st. stands_after first last calls log run st
