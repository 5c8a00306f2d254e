use Rattle.std.proofs.Common.{arith, refl}
use Rattle.jwt_access.proofs.Standings.{met_more, all_met, reached}
use Rattle.jwt_access.proofs.OneUnmet.{none}
use Rattle.jwt_access.specs.declared.expected.expected.Unmet.TheVariants.{Absent, Other}
use Rattle.jwt_access.proofs.expected.expected.first_unmet.Goals as goal

pub returns-in-Absent-clause-first : goal.returns-in-Absent-clause-first
returns-in-Absent-clause-first c =
    let l = c.loop-place in
    (_, reached c.args.alg c.args.claims.now c.args.expected.now l.place _ (omega arith) l.invariant, c.in-Absent.ensures)

pub returns-in-Absent-clause-met : goal.returns-in-Absent-clause-met
returns-in-Absent-clause-met c = (λ no. absurd cc, λ all. absurd (none c.paths_are_spelled.ensures c.args.alg c.args.claims.now c.args.expected.now (Absent c.loop-place.place) (returns-in-Absent-clause-first c) all))

pub returns-in-Other-clause-first : goal.returns-in-Other-clause-first
returns-in-Other-clause-first c =
    let l = c.loop-place in
    (_, reached c.args.alg c.args.claims.now c.args.expected.now l.place _ (omega arith) l.invariant, c.in-Other.ensures)

pub returns-in-Other-clause-met : goal.returns-in-Other-clause-met
returns-in-Other-clause-met c = (λ no. absurd cc, λ all. absurd (none c.paths_are_spelled.ensures c.args.alg c.args.claims.now c.args.expected.now (Other c.loop-place.place) (returns-in-Other-clause-first c) all))

pub loop-place-preserved : goal.loop-place-preserved
loop-place-preserved c = met_more c.args.alg c.args.claims.now c.args.expected.now c.loop-place.place _ c.loop-place-test.true c.in-Met.ensures c.loop-place.invariant

pub returns-clause-met : goal.returns-clause-met
returns-clause-met c = (λ yes. all_met c.args.alg c.args.claims.now c.args.expected.now c.loop-place.place (omega (arith, c.loop-place-test.false)) c.loop-place.invariant, λ all. refl)
