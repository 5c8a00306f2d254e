use Rattle.jwt_jws.specs.Views.{token}
use Rattle.jwt_memory.proofs.Blank.{takes_memory}
use Rattle.jwt_memory.proofs.unread.fault_of.Goals as goal

pub returns-in-Ok-clause-memory : goal.returns-in-Ok-clause-memory
returns-in-Ok-clause-memory c _ = takes_memory c.args.policy.now c.args.octets.now (token c.in-Ok._signed) c.in-Ok.ensures.token
