use Rattle.jwt_request.proofs.Waiting.{four, apart}
use Rattle.jwt_request.proofs.renewal.laws.few_wait.Goals as goal

pub returns-clause-four : goal.returns-clause-four
returns-clause-four c = four

pub returns-clause-apart : goal.returns-clause-apart
returns-clause-apart c = apart
