-- How many fetches begin for tokens.
use Rattle.std.proofs.Common.{◌≡◌, ◌≤◌, ◌+◌, ◌-◌, ◌*◌, ℕ, List, [], ◌∷◌, arith, refl}
use Rattle.std.specs.List.{All}
use Rattle.std.proofs.lemmas.List.Elements.{All-head}
use Rattle.jwt_request.specs.declared.renewal.times.Times.{Times}
use Rattle.jwt_request.specs.declared.renewal.asker.Asker.TheVariants.{Token, Refused, Owner, Waited}
use Rattle.jwt_request.specs.renewal.History.{Event, passed, began, took, failed, waits, moment, beginnings}
use Rattle.jwt_request.specs.renewal.Runs.{IsRun, asked}
use Rattle.jwt_request.proofs.Moments.{Led, led}

-- so many fetches, a span apart, end with that one; none, where there is none
abbrev pub Bounded : ℕ → ℕ → List ℕ → Type 0
Bounded count span [] = count ≡ 0
Bounded count span (m ∷ ms) = count * span ≤ m + span

one_more : (ms : List ℕ) (now count span : ℕ) → Led ms now → All (λ b. span ≤ now - b) ms → Bounded count span ms → (count + 1) * span ≤ now + span
one_more [] now count span l ago b = rw b (omega arith)
one_more (m ∷ ms) now count span l ago b = omega (arith, l.0, b, All-head (λ b. span ≤ now - b) m ms ago)

no_more : (ms : List ℕ) (now count span : ℕ) → Led ms now → Bounded count span ms → count * span ≤ now + span
no_more [] now count span l b = rw b (omega arith)
no_more (m ∷ ms) now count span l b = omega (arith, l.0, b)

bounded : (times : Times) (h : List Event) → IsRun times h → Bounded (asked h) times.cool_down (beginnings h)
bounded times [] run = refl
bounded times (passed d ∷ h) run = bounded times h run
bounded times (began Token ticket ∷ h) run = one_more (beginnings h) (moment h) (asked h) times.cool_down (led h) run.1.1 (bounded times h run.3)
bounded times (began (Refused keys) ticket ∷ h) run = one_more (beginnings h) (moment h) (asked h) times.cool_down (led h) run.1.1 (bounded times h run.3)
bounded times (began Owner ticket ∷ h) run = no_more (beginnings h) (moment h) (asked h) times.cool_down (led h) (bounded times h run.3)
bounded times (began Waited ticket ∷ h) run = absurd run.0
bounded times (took ∷ h) run = bounded times h run.1
bounded times (waits name ∷ h) run = bounded times h run.3
bounded times (failed ∷ h) run = bounded times h run.1

pub few : (times : Times) (h : List Event) → IsRun times h → asked h * times.cool_down ≤ moment h + times.cool_down
few times h run = no_more (beginnings h) (moment h) (asked h) times.cool_down (led h) (bounded times h run)
