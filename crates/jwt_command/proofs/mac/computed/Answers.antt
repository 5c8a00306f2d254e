use Rattle.std.proofs.Common.{length, arith, ap, length-append}
use Rattle.jwt_mac.specs.Hmac.{all_octets}
use Rattle.jwt_command.proofs.CostLemmas.{cost_is_small}
use Rattle.jwt_command.proofs.mac.computed.Goals as goal

pub returns-in-Err : goal.returns-in-Err
returns-in-Err c =
    let small = cost_is_small c.args.alg (length c.args.key.now) (length (all_octets c.parts.result)) in
    let whole = simp length-append at (ap length c.parts.ensures.whole) in
    omega (arith, small, whole, c.in-Err.ensures.spent)
