-- What the tries say decides the verdict.
use Rattle.std.proofs.Common.{◌≡◌, ℕ, Bool, true, List, refl, sym, ◌∙◌, ap, Option, None}
use Rattle.std.specs.Prelude.{ℤ}
use Rattle.jwt_policy.specs.Settings.{Settings}
use Rattle.jwt_verify.specs.declared.tries.End.{End}
use Rattle.jwt_verify.specs.declared.tries.End.TheVariants as end
use Rattle.jwt_verify.specs.Table.{Table, ending, states, states_at}
use Rattle.jwt_verify.specs.Verdict.{conclusion, unless_stopped, signing_of}
use Rattle.jwt_verify.proofs.SignedBy.{signing_by}
use Rattle.jwt_verify.specs.Laws.{with_valid, verdict_by, LeastTries}
use Rattle.jwt_verify.proofs.Least.{changed_states, same_run}
use Rattle.jwt_verify.proofs.Signing.{signing_is}
use Rattle.jwt_verify.proofs.Judged.{done_stop}

-- the same end, and under it the same conclusion, give the same verdict
ended_same : (t : Table) (v : ℕ → ℕ → Bool) (octets : ℕ) (calls : Option ℕ) (p : Settings) (now : ℤ) (payload : List ℕ) (r : End)
    → unless_stopped r (conclusion p now payload (signing_of (with_valid t v))) ≡ unless_stopped r (conclusion p now payload (signing_of t))
    → r ≡ ending t octets calls → ending (with_valid t v) octets calls ≡ ending t octets calls
    → verdict_by (with_valid t v) octets calls p now payload ≡ verdict_by t octets calls p now payload
ended_same t v octets calls p now payload r same here ends =
    ap (λ e. unless_stopped e (conclusion p now payload (signing_of (with_valid t v)))) (ends ∙ sym here)
    ∙ same ∙ ap (λ e. unless_stopped e (conclusion p now payload (signing_of t))) here

-- the signatures of a run that didn't stop come to what its states say
signing_same : (t : Table) (v : ℕ → ℕ → Bool) (octets : ℕ) (calls : Option ℕ) → ((i j : ℕ) → t.eligible i j ≡ true → t.bar i ≡ None)
    → end.Done ≡ ending t octets calls → ending (with_valid t v) octets calls ≡ ending t octets calls
    → states (with_valid t v) octets calls ≡ states t octets calls → signing_of (with_valid t v) ≡ signing_of t
signing_same t v octets calls unbarred done ends same =
    let u = with_valid t v in
    let mine : signing_by t.mode (states t octets calls) ≡ signing_of t = signing_is t (states t octets calls) unbarred (ap (states_at t) (done_stop t octets calls done)) in
    let theirs : signing_by t.mode (states u octets calls) ≡ signing_of u = signing_is u (states u octets calls) unbarred (ap (states_at u) (done_stop u octets calls (done ∙ sym ends))) in
    sym theirs ∙ ap (signing_by t.mode) same ∙ mine

verdict_same : (t : Table) (v : ℕ → ℕ → Bool) (octets : ℕ) (calls : Option ℕ) → ((i j : ℕ) → t.eligible i j ≡ true → t.bar i ≡ None)
    → states (with_valid t v) octets calls ≡ states t octets calls → ending (with_valid t v) octets calls ≡ ending t octets calls
    → (p : Settings) (now : ℤ) (payload : List ℕ) → verdict_by (with_valid t v) octets calls p now payload ≡ verdict_by t octets calls p now payload
verdict_same t v octets calls unbarred same ends p now payload = go (ending t octets calls) refl
  where
    go : (r : End) → r ≡ ending t octets calls → verdict_by (with_valid t v) octets calls p now payload ≡ verdict_by t octets calls p now payload
    go end.Done e = ended_same t v octets calls p now payload end.Done (ap (conclusion p now payload) (signing_same t v octets calls unbarred e ends same)) e ends
    go (end.WorkExceeded i j) e = ended_same t v octets calls p now payload (end.WorkExceeded i j) refl e ends
    go (end.CallsExceeded i j) e = ended_same t v octets calls p now payload (end.CallsExceeded i j) refl e ends
    go (end.VerifierMemory i j) e = ended_same t v octets calls p now payload (end.VerifierMemory i j) refl e ends

pub least_tries_hold : LeastTries
least_tries_hold t v octets calls unbarred = (
  λ agree. (
      let s = same_run t v octets calls agree in
      let sts : states (with_valid t v) octets calls ≡ states t octets calls = rw s.stop_same s.states_same in
      let ends : ending (with_valid t v) octets calls ≡ ending t octets calls = rw (s.paid_same, s.stop_same) refl in
      record { same_tries = s.paid_same; same_states = sts; same_ending = ends; same_verdict = λ p now payload. verdict_same t v octets calls unbarred sts ends p now payload }),
  λ i j paid_here differ same. changed_states t v octets calls unbarred i j paid_here differ.0 differ.1 same,
)
