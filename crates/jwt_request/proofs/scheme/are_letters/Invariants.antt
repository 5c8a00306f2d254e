use Rattle.std.proofs.Common.{◌≤◌, ◌<◌, ◌-◌, ◌+◌, ℕ, length}
use Rattle.std.specs.Prelude.{slice_index}
use Rattle.jwt_request.specs.Spelled.{IsLetter}
use Rattle.jwt_request.proofs.scheme.are_letters.Given as goal

abbrev pub invariant-loop-k : goal.invariant-loop-k
invariant-loop-k l = record { within : l.k ≤ length l.small; each : (n : ℕ) → n < l.k → IsLetter (slice_index l.small n) (slice_index l.value (l.at + n)) }

abbrev pub decreases-loop-k : goal.decreases-loop-k
decreases-loop-k l = length l.small - l.k
