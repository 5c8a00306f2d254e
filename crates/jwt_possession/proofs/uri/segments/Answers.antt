use Rattle.std.proofs.Common.{◌≡◌, ℕ, ◌+◌, ◌==◌, drop, map, take, ap, sym, ◌∙◌}
use Rattle.std.specs.List.{slice_split}
use Rattle.jwt_possession.specs.Uris.{gone_on, left}
use Rattle.jwt_possession.proofs.Segments.{next_segment, last_segment}
use Rattle.jwt_possession.proofs.uri.segments.Goals as goal

pub segments-preserved : goal.segments-preserved
segments-preserved c =
    let l = c.segments in
    let done = map (λ s. s.now) l.done.items in
    let rest = l.rest.now in
    let p = λ (x : ℕ). x == 47 in
    let new : map (λ s. s.now) c.go_on.new.done.items ≡ gone_on done (take l.at rest) = c.in_ok-go_on.ensures ∙ ap (gone_on done) c.split_at.ensures.front in
    record {
      segments = l.invariant.segments ∙ next_segment done rest l.at l.invariant.place c.segments-test.true
          ∙ ap (λ d. left d (slice_split p (drop (l.at + 1) rest))) (sym new)
          ∙ ap (λ r. left (map (λ s. s.now) c.go_on.new.done.items) (slice_split p r)) (sym c.behind_place-rest.ensures);
      place = c.place_of-at-in-segments.ensures.value;
    }

pub returns : goal.returns
returns c =
    let l = c.segments in
    let done = map (λ s. s.now) l.done.items in
    c.in_ok-end.ensures ∙ sym (l.invariant.segments ∙ last_segment done l.rest.now l.at l.invariant.place c.segments-test.false)
