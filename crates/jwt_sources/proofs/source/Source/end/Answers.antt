use Rattle.std.proofs.Common.{◌-◌, ◌∷◌, is_some, refl, sym, ap, subst}
use Rattle.jwt_request.specs.renewal.History.{passed}
use Rattle.jwt_request.specs.renewal.Rules.{IsUnderWay}
use Rattle.jwt_sources.specs.Steps.{came_of}
use Rattle.jwt_sources.proofs.source.Source.end.Goals as goal

pub returns-else-not-is_under_way-clause-came : goal.returns-else-not-is_under_way-clause-came
returns-else-not-is_under_way-clause-came g c = λ h s.
    let under = subst (λ times. IsUnderWay times (passed (c.args.now - c.args.self.now.renewal.heard) ∷ h)) c.hear.ensures.times
    ((c.is_under_way.ensures.told _ (c.hear.ensures.stands h s)).0 c.if-not-is_under_way.false) in
    (λ yes. sym (ap (λ it. came_of it (is_some c.args.brought)) c.in-Step.is), λ no. absurd (no under))

pub returns-then-not-is_under_way-clause-came : goal.returns-then-not-is_under_way-clause-came
returns-then-not-is_under_way-clause-came g c = λ h s. (
  λ yes.
      let under = subst (λ times. IsUnderWay times (passed (c.args.now - c.args.self.now.renewal.heard) ∷ h)) (sym c.hear.ensures.times) yes in
      let told = (c.is_under_way.ensures.told _ (c.hear.ensures.stands h s)).1 under in
      let no = c.if-not-is_under_way.true in absurd cc,
  λ no. refl,
)
