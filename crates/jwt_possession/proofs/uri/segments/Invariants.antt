-- The segments that are left of the rest, behind those that are done, are those of the path.
use Rattle.std.proofs.Common.{◌≡◌, ◌==◌, [], length, map}
use Rattle.std.specs.List.{position_or_len, slice_split}
use Rattle.jwt_possession.specs.Uris.{left}
use Rattle.jwt_possession.proofs.uri.segments.Given as goal

abbrev pub invariant-segments : goal.invariant-segments
invariant-segments l = record {
  segments : left [] (slice_split (λ x. x == 47) l.path) ≡ left (map (λ s. s.now) l.done.items) (slice_split (λ x. x == 47) l.rest);
  place : l.at ≡ position_or_len (λ x. x == 47) l.rest;
}

abbrev pub decreases-segments : goal.decreases-segments
decreases-segments l = length l.rest
