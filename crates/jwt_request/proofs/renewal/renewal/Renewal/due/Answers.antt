use Rattle.std.proofs.Common.{arith, ◌≤◌}
use Rattle.jwt_request.proofs.renewal.renewal.Renewal.due.Goals as goal

pub returns : goal.returns
returns c = λ h more s.
    let stale = c.fresh_for.ensures h more s in
    let cool = c.cool_in.ensures h more s in
    let over = c.over_in.ensures h more s in (
      λ late. (
        stale.0 (omega (arith, late, c.max.ensures, c.max-2.ensures)),
        (over.0 (omega (arith, late, c.max.ensures, c.max-2.ensures)), cool.0 (omega (arith, late, c.max.ensures, c.max-2.ensures))),
      ),
      λ all.
          let by_stale : c.fresh_for.result ≤ more = stale.1 all.0 in
          let by_over : c.over_in.result ≤ more = over.1 all.1.0 in
          let by_cool : c.cool_in.result ≤ more = cool.1 all.1.1 in
          omega (arith, by_stale, by_over, by_cool, c.max.ensures, c.max-2.ensures),
    )
