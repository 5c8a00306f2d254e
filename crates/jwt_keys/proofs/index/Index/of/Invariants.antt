use Rattle.std.proofs.Common.{◌≡◌, ℕ, List, take}
use Rattle.std.specs.Prelude.{map}
use Rattle.jwt_keys.specs.Views.{group, key_parts}
use Rattle.jwt_keys.specs.Keys.{has_kid, has_thumbprint}
use Rattle.jwt_keys.specs.Numbers.{numbers}
use Rattle.jwt_keys.proofs.index.Index.of.Given as goal

abbrev pub invariant-loop-number : goal.invariant-loop-number
invariant-loop-number l = record {
  kids : (q : List ℕ) → group l.index.by_kid q ≡ numbers (has_kid q) 0 (take l.number (map key_parts l.key-items));
  thumbprints : (q : List ℕ) → group l.index.by_thumbprint q ≡ numbers (has_thumbprint q) 0 (take l.number (map key_parts l.key-items));
}
