use Rattle.std.proofs.Common.{w64}
use Rattle.std.proofs.lemmas.Int.{to_z-of_z}
use Rattle.std.proofs.lemmas.Option.{IfSome_then}
use Rattle.jwt_tests.proofs.small_service.report_on.Goals as goal

pub returns : goal.returns
returns g c =
    let said = rw (to_z-of_z w64 c.args.now c.ranges.now) at c.validate.ensures.report in
    let here = simp (c.budget-budget.ensures.ceiling) at said in
    IfSome_then (g.R.Source.remaining c.args.source.now) here (λ x report works found. (report works).verdict found)
