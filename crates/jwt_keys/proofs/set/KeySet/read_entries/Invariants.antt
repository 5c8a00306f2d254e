use Rattle.std.proofs.Common.{◌≡◌, ◌++◌, drop}
use Rattle.std.specs.Prelude.{map}
use Rattle.jwt_keys.specs.Views.{key_parts}
use Rattle.jwt_keys.specs.KeySets.{keys_from, skips_from}
use Rattle.jwt_keys.proofs.set.KeySet.read_entries.Given as goal

abbrev pub invariant-loop-place : goal.invariant-loop-place
invariant-loop-place l = record {
  keys : map key_parts l.keys.items ++ keys_from l.place (drop l.place l.entries) ≡ keys_from 0 l.entries;
  skips : l.skipped.items ++ skips_from l.place (drop l.place l.entries) ≡ skips_from 0 l.entries;
}
