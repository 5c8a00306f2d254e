use Rattle.jwt_verify.proofs.Memory.{tells_tokens, tells_faults}
use Rattle.jwt_verify.proofs.laws.tells_tokens.Goals as goal

pub returns-clause-token : goal.returns-clause-token
returns-clause-token c = tells_tokens c.signed_tokens.ensures

pub returns-clause-fault : goal.returns-clause-fault
returns-clause-fault c = tells_faults c.form_faults.ensures
