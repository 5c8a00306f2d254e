use Rattle.jwt_verify.proofs.Memory.{token_words, why_none}
use Rattle.jwt_verify.proofs.reading.read_token.Goals as goal

pub returns-clause-token : goal.returns-clause-token
returns-clause-token c = token_words c.signed_tokens.ensures c.args.policy.now c.args.octets.now c.read_with.result c.read_with.ensures.value

pub returns-clause-fault : goal.returns-clause-fault
returns-clause-fault c = why_none c.form_faults.ensures c.args.policy.now c.args.octets.now c.read_with.result c.read_with.ensures.value
