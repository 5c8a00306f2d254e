use Rattle.jwt_memory.proofs.Payloads.{hands_out_read}
use Rattle.jwt_memory.proofs.laws.read_payloads.Goals as goal

pub returns : goal.returns
returns c = hands_out_read c.tells_tokens.ensures.token
