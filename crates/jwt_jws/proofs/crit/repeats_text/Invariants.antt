use Rattle.std.proofs.Common.{◌≡◌, ℕ, List, false, drop, length, ◌≤◌}
use Rattle.std.specs.List.{list_any}
use Rattle.jwt_jws.specs.Crit.{has_text, repeats_text}
use Rattle.jwt_jws.proofs.crit.repeats_text.Given as goal
use Rattle.jwt_jws.proofs.Shapes.{is_text}

-- the texts from `place` on are those seen, and none of them stands twice
abbrev pub invariant-loop-place : goal.invariant-loop-place
invariant-loop-place l = record {
  within : l.place ≤ length l.list;
  seen : (text : List ℕ) → has_text l.seen text ≡ list_any (is_text text) (drop l.place l.list);
  once : repeats_text (drop l.place l.list) ≡ false;
}

abbrev pub decreases-loop-place : goal.decreases-loop-place
decreases-loop-place l = l.place
