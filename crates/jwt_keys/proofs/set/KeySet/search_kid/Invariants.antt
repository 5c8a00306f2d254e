use Rattle.std.proofs.Common.{ℕ, ◌<◌, ◌≤◌}
use Rattle.std.specs.Prelude.{map}
use Rattle.jwt_keys.specs.Views.{key_parts}
use Rattle.jwt_keys.specs.Keys.{has_name}
use Rattle.jwt_keys.specs.Numbers.{PassesAt}
use Rattle.jwt_keys.proofs.set.KeySet.search_kid.Given as goal

abbrev pub invariant-loop-j : goal.invariant-loop-j
invariant-loop-j l = (i : ℕ) → l.from ≤ i → i < l.j → PassesAt (has_name l.kid l.thumb) (map key_parts l.self.keys.items) i → ⊥
