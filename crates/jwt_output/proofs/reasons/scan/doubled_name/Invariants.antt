use Rattle.std.proofs.Common.{length}
use Rattle.jwt_output.proofs.reasons.scan.doubled_name.Given as goal

abbrev pub invariant-tokens : goal.invariant-tokens
invariant-tokens l = Unit {0}

abbrev pub decreases-tokens : goal.decreases-tokens
decreases-tokens l = length l.reader
