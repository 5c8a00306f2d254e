use Rattle.std.proofs.Common.{◌≡◌, ◌↔◌, ◌<◌, ◌-◌, ◌∷◌, Some, true, inl, inr, subst, arith}
use Rattle.std.specs.List.{slice_get}
use Rattle.std.proofs.lemmas.Option.{slice_get_read}
use Rattle.jwt_request.specs.renewal.History.{passed}
use Rattle.jwt_request.specs.renewal.Rules.{IsUnderWay}
use Rattle.jwt_request.specs.renewal.Standing as Renewed
use Rattle.jwt_sources.specs.Steps.{is_due}
use Rattle.jwt_sources.proofs.Lists.{one_at, below_or_at}
use Rattle.jwt_sources.proofs.sources.Sources.first_due.Goals as goal

pub returns-then-within-gt0-clause-within : goal.returns-then-within-gt0-clause-within
returns-then-within-gt0-clause-within g c =
    let inside : c.loop-at.at < c.args.self.now.sources.len = omega (arith, c.loop-at-test.true, c.len-at-end.ensures) in
    let at : slice_get c.args.self.now.sources.items c.loop-at.at ≡ Some c.index.result.now =
    slice_get_read c.args.self.now.sources.items c.args.self.now.sources.len c.loop-at.at c.index.result.now c.args.self.now.sources.ok.0 inside c.index.ensures in
    λ source h more is. subst (λ x. Renewed.Stands x.renewal h → (more < c.due_for-within.result)
    ↔ IsUnderWay x.renewal.times (passed more ∷ passed (c.args.now - x.renewal.heard) ∷ h))
    (one_at c.args.self.now.sources.items c.loop-at.at c.index.result.now source at is) (λ s. c.due_for-within.ensures.within h more s c.if-within-gt0.true)

pub loop-at-preserved : goal.loop-at-preserved
loop-at-preserved g c =
    let inside : c.loop-at.at < c.args.self.now.sources.len = omega (arith, c.loop-at-test.true, c.len-at-end.ensures) in
    let at : slice_get c.args.self.now.sources.items c.loop-at.at ≡ Some c.index.result.now =
    slice_get_read c.args.self.now.sources.items c.args.self.now.sources.len c.loop-at.at c.index.result.now c.args.self.now.sources.ok.0 inside c.index.ensures in
    let zero : c.due_for-within.result ≡ 0 = omega (arith, c.if-within-gt0.false) in
    λ k source h below is. elim (below_or_at k c.loop-at.at below) [
      | inl before ↦ c.loop-at.invariant k source h before is
      | inr same ↦
          let here : slice_get c.args.self.now.sources.items c.loop-at.at ≡ Some source = subst (λ n. slice_get c.args.self.now.sources.items n ≡ Some source) same is in
          let one : c.index.result.now ≡ source = one_at c.args.self.now.sources.items c.loop-at.at c.index.result.now source at here in
          subst (λ x. is_due x.step ≡ true → Renewed.Stands x.renewal h → ¬ IsUnderWay x.renewal.times (passed 0 ∷ passed (c.args.now - x.renewal.heard) ∷ h)) one
          (λ due s. c.due_for-within.ensures.none h s zero due)
    ]
