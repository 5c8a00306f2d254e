use Rattle.std.proofs.Common.{rules}
use Rattle.jwt_possession.proofs.Pairs.{tells_apart}
use Rattle.jwt_possession.proofs.once.mark.marks_tell_apart.Goals as goal

pub returns : goal.returns
returns c = tells_apart c.args.issuer.now c.args.jti.now c.args.other_issuer.now c.args.other_jti.now (search rules) (search rules)
