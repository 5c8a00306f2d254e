use Rattle.std.proofs.Common.{◌≤◌, ◌-◌, ◌∷◌, arith, inl, inr}
use Rattle.std.proofs.lemmas.Bool.{cases_lt}
use Rattle.jwt_request.specs.renewal.History.{passed}
use Rattle.jwt_sources.proofs.Ways.{under_or_not}
use Rattle.jwt_sources.proofs.source.Source.due_for.Goals as goal

pub returns-in-Due-clause-within : goal.returns-in-Due-clause-within
returns-in-Due-clause-within g c = λ h more s some. (
  (λ early. elim (under_or_not c.args.self.now.renewal.times (passed more ∷ passed (c.args.now - c.args.self.now.renewal.heard) ∷ h)) [
    | inl under ↦ under
    | inr not_under ↦ let late : c.left.result ≤ more = (c.left.ensures h more s).1 not_under in absurd (omega (arith, late, early))
  ]),
  (λ under. elim (cases_lt more c.left.result) [
    | inl early ↦ early
    | inr late ↦ absurd ((c.left.ensures h more s).0 late under)
  ]),
)

pub returns-in-Due-clause-none : goal.returns-in-Due-clause-none
returns-in-Due-clause-none g c = λ h s none due. let late : c.left.result ≤ 0 = omega (arith, none) in (c.left.ensures h 0 s).0 late
