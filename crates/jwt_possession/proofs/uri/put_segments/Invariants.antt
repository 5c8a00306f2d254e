-- What is added, with the segments that are left, is all.
use Rattle.std.proofs.Common.{◌≡◌, ◌++◌, drop, map}
use Rattle.jwt_possession.specs.Uris.{joined}
use Rattle.jwt_possession.proofs.uri.put_segments.Given as goal

abbrev pub invariant-loop-segment : goal.invariant-loop-segment
invariant-loop-segment l = l.text.items ++ joined (map (λ s. s.now) (drop l.segment-index l.segments)) ≡ l.initial.text.items ++ joined (map (λ s. s.now) l.segments)
