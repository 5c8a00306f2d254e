use Rattle.std.proofs.Common.{length, arith}
use Rattle.jwt_mac.specs.Hmac.{all_octets}
use Rattle.jwt_mac.proofs.Costs.{message-le-cost}
use Rattle.jwt_mac.proofs.mac.hmac.Goals as goal

-- the message alone exceeds a `u64`, and so the ceiling
pub returns-in_err-message_len-clause-spent : goal.returns-in_err-message_len-clause-spent
returns-in_err-message_len-clause-spent g c =
    let least = message-le-cost c.args.alg c.requires.hmac (length c.args.key.now) (length (all_octets c.args.parts)) in
    let fits = g.met.B.Budget.ceiling_fits c.args.budget.now in
    grind (arith, least, fits)
