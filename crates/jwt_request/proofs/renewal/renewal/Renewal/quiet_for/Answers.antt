use Rattle.std.proofs.Common.{arith, ◌<◌, ◌≤◌, inl, inr}
use Rattle.std.proofs.lemmas.Bool.{cases_lt}
use Rattle.jwt_request.proofs.renewal.renewal.Renewal.quiet_for.Goals as goal

pub returns : goal.returns
returns c = λ h more s.
    let due = c.due.ensures h more s in
    let usable = c.usable_for.ensures h more s in (
      λ soon. (
        usable.0 (omega (arith, soon, c.min.ensures)),
        λ both. let late : c.due.result ≤ more = due.1 both in omega (arith, soon, late, c.min.ensures),
      ),
      λ (fine, none).
          let young : more < c.usable_for.result = usable.1 fine in
          elim (cases_lt more c.due.result) [
            | inl early ↦ omega (arith, young, early, c.min.ensures)
            | inr late ↦ absurd (none (due.0 late))
          ],
    )
