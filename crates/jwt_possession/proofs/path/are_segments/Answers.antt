use Rattle.std.proofs.Common.{◌≡◌, ◌+◌, ◌==◌, ◌&&◌, true, false, drop, take, ap, sym, ◌∙◌, rules}
use Rattle.std.specs.List.{list_all, slice_split}
use Rattle.jwt_possession.specs.Paths.{is_segment}
use Rattle.jwt_possession.proofs.Segments.{next_part, last_part}
use Rattle.jwt_possession.proofs.path.are_segments.Goals as goal

pub returns-then-not-is_segment : goal.returns-then-not-is_segment
returns-then-not-is_segment c =
    let l = c.segments in
    let rest = l.rest.now in
    let bad : c.is_segment.result ≡ false = search rules in
    let test : is_segment (take l.at rest) ≡ false = ap is_segment (sym c.split_at.ensures.front) ∙ sym c.is_segment.ensures ∙ bad in
    sym (l.invariant.segments ∙ next_part is_segment rest l.at l.invariant.place c.segments-test.true
    ∙ ap (λ t. t && list_all is_segment (slice_split (λ x. x == 47) (drop (l.at + 1) rest))) test)

pub segments-preserved : goal.segments-preserved
segments-preserved c =
    let l = c.segments in
    let rest = l.rest.now in
    let good : c.is_segment.result ≡ true = search rules in
    let test : is_segment (take l.at rest) ≡ true = ap is_segment (sym c.split_at.ensures.front) ∙ sym c.is_segment.ensures ∙ good in
    record {
      segments = l.invariant.segments ∙ next_part is_segment rest l.at l.invariant.place c.segments-test.true
          ∙ ap (λ t. t && list_all is_segment (slice_split (λ x. x == 47) (drop (l.at + 1) rest))) test
          ∙ ap (λ r. list_all is_segment (slice_split (λ x. x == 47) r)) (sym c.behind_place-rest.ensures);
      place = c.place_of-at-in-segments.ensures.value;
    }

pub returns : goal.returns
returns c =
    let l = c.segments in
    c.is_segment-2.ensures ∙ sym (l.invariant.segments ∙ last_part is_segment l.rest.now l.at l.invariant.place c.segments-test.false)
