use Rattle.std.proofs.Common.{◌≡◌, drop}
use Rattle.jwt_rsa.specs.powers.Octets.{without_zeros}
use Rattle.jwt_advice.proofs.rsa_keys.without_zeros.Given as goal

abbrev pub invariant-loop-i : goal.invariant-loop-i
invariant-loop-i l = without_zeros (drop l.i l.octets) ≡ without_zeros l.octets
