use Rattle.std.proofs.Common.{ℕ, ◌≤◌, ◌<◌, ◌-◌, length}
use Rattle.jwt_jws.specs.Views.{parts}
use Rattle.jwt_keys.specs.Numbers.{PassesAt}
use Rattle.jwt_keys.specs.KeySets.{key_set}
use Rattle.jwt_policy.specs.Eligible.{fits}
use Rattle.jwt_verify.proofs.next_key.next_named.Given as goal

abbrev pub invariant-named : goal.invariant-named
invariant-named g l = record {
  start : l.from ≤ l.start;
  none : (i : ℕ) → l.from ≤ i → i < l.start → PassesAt (fits l.terms.policy.now (parts l.live.signature.now)) (key_set l.terms.keys.now).keys i → ⊥;
}

abbrev pub decreases-named : goal.decreases-named
decreases-named g l = length (key_set l.terms.keys.now).keys - l.start
