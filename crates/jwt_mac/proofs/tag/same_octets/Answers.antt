use Rattle.std.proofs.Common.{arith}
use Rattle.jwt_mac.proofs.Octets.{difference_more}
use Rattle.jwt_mac.proofs.tag.same_octets.Goals as goal

pub octets-preserved : goal.octets-preserved
octets-preserved c =
    difference_more c.args.a.now c.args.b.now c.octets.i c.octets.difference (omega arith) (omega arith) c.octets.invariant
