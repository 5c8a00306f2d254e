use Rattle.jwt_jws.proofs.Periods.{first_is_position}
use Rattle.jwt_jws.proofs.compact.first_period.Goals as goal

pub returns : goal.returns
returns c = first_is_position c.args.octets.now c.memchr.result c.memchr.ensures
