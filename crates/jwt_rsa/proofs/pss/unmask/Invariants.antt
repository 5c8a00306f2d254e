use Rattle.std.proofs.Common.{◌≡◌, ◌*◌, ◌++◌, take, drop, length, min}
use Rattle.jwt_rsa.specs.Pss.{xored, mgf1_blocks}
use Rattle.jwt_rsa.proofs.pss.unmask.Given as goal

abbrev pub invariant-counters : goal.invariant-counters
invariant-counters l = record {
  place : l.start ≡ min (l.counter * l.size) (length l.fn.octets);
  size : length (mgf1_blocks l.hash l.seed l.counter) ≡ l.counter * l.size;
  written : l.octets ≡ xored (take l.start l.fn.octets) (mgf1_blocks l.hash l.seed l.counter) ++ drop l.start l.fn.octets;
}
