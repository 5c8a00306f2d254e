-- Who waits for a fetch.
use Rattle.std.proofs.Common.{◌≢◌, ◌≤◌, ℕ, List, [], ◌∷◌, length, arith}
use Rattle.std.specs.List.{AllPairs}
use Rattle.std.proofs.lemmas.List.{length-append}
use Rattle.std.proofs.lemmas.List.Quantifiers.{all_pairs_push}
use Rattle.jwt_request.specs.declared.renewal.times.Times.{Times}
use Rattle.jwt_request.specs.renewal.History.{Event, passed, began, took, failed, waits, waiting}
use Rattle.jwt_request.specs.renewal.Runs.{IsRun}

pub four : (times : Times) (h : List Event) → IsRun times h → length (waiting h) ≤ 4
four times [] run = omega arith
four times (passed d ∷ h) run = four times h run
four times (began a t ∷ h) run = omega arith
four times (took ∷ h) run = omega arith
four times (waits name ∷ h) run = let more = length-append (waiting h) (name ∷ []) in omega (arith, more, run.1)
four times (failed ∷ h) run = omega arith

none : AllPairs {X = ℕ} (λ one other. one ≢ other) []
none = λ i j d below inside. absurd (omega (arith, inside))

pub apart : (times : Times) (h : List Event) → IsRun times h → AllPairs (λ one other. one ≢ other) (waiting h)
apart times [] run = none
apart times (passed d ∷ h) run = apart times h run
apart times (began a t ∷ h) run = none
apart times (took ∷ h) run = none
apart times (waits name ∷ h) run = all_pairs_push (λ one other. one ≢ other) (waiting h) name (apart times h run.3) (λ k d inside. run.2 k d inside)
apart times (failed ∷ h) run = none
