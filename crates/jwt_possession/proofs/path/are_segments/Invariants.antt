-- The segments of the path are good where those of the rest are.
use Rattle.std.proofs.Common.{◌≡◌, ◌==◌, length}
use Rattle.std.specs.List.{list_all, position_or_len, slice_split}
use Rattle.jwt_possession.specs.Paths.{is_segment}
use Rattle.jwt_possession.proofs.path.are_segments.Given as goal

abbrev pub invariant-segments : goal.invariant-segments
invariant-segments l = record {
  segments : list_all is_segment (slice_split (λ x. x == 47) l.path) ≡ list_all is_segment (slice_split (λ x. x == 47) l.rest);
  place : l.at ≡ position_or_len (λ x. x == 47) l.rest;
}

abbrev pub decreases-segments : goal.decreases-segments
decreases-segments l = length l.rest
