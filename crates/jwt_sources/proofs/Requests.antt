-- What any calls hand out of one source.
use Rattle.std.proofs.Common.{◌≡◌, ◌≤◌, ◌+◌, ◌*◌, ℕ, List, [], ◌∷◌, inl, inr, ap, sym, ◌∙◌, subst, arith}
use Rattle.std.specs.List.{slice_get}
use Rattle.jwt_sources.specs.declared.source.Source.{Source}
use Rattle.jwt_sources.specs.declared.sources.Sources.{Sources}
use Rattle.jwt_sources.specs.declared.sources.Outcome.TheVariants.{Ended, Late}
use Rattle.jwt_sources.specs.Changes.{IsTold, IsLetGo}
use Rattle.jwt_sources.specs.Runs.{Call, tell, let_go, ask, wait, next, came, AreCalls, begins, fetches_at, handed_at}
use Rattle.jwt_sources.specs.Standing.{IsAt}
use Rattle.jwt_sources.proofs.Each.{each_at}
use Rattle.jwt_sources.proofs.Lists.{one_at}
use Rattle.jwt_sources.proofs.Ranks.{left_in, fewer, begun, handed}
use Rattle.jwt_sources.proofs.Runs.{which, same_place, other_place}

pub requests_after : {K : Type 0} (first last : Sources K) (calls : List (Call K)) (place : ℕ) (s t : Source K) → AreCalls first calls last → IsAt first place s → IsAt last place t
    → left_in s.step ≡ 0 → handed_at place calls + left_in t.step ≤ 18 * fetches_at place calls
requests_after first last [] place s t run is_s is_t none =
    let same : s ≡ t = one_at first.sources.items place s t is_s (subst (λ x. IsAt x place t) run is_t) in
    let zero : left_in t.step ≡ 0 = subst (λ x. left_in x.step ≡ 0) same none in omega (arith, zero)
requests_after first last (tell now ∷ calls) place s t run is_s is_t none =
    let was = each_at (λ one other. IsTold one now other) (slice_get run.0.sources.items place) (slice_get last.sources.items place) t (run.2.0 place) is_t in
    let before = requests_after first run.0 calls place s was.0 run.1 is_s was.1 none in
    let same : left_in t.step ≡ left_in was.0.step = ap left_in was.2.step in omega (arith, before, same)
requests_after first last (let_go now ∷ calls) place s t run is_s is_t none =
    let was = each_at (λ one other. IsLetGo one now other) (slice_get run.0.sources.items place) (slice_get last.sources.items place) t (run.2.0 place) is_t in
    let before = requests_after first run.0 calls place s was.0 run.1 is_s was.1 none in
    let over : left_in t.step ≡ 0 = ap left_in was.2.step in omega (arith, before, over)
requests_after first last (ask at asker now answer ∷ calls) place s t run is_s is_t none =
    let c = run.2.0 in
    elim (which at run.0 last c.1 c.5 c.3 place t is_t) [
      | inl same ↦
          let before = requests_after first run.0 calls place s c.0 run.1 is_s (subst (λ n. IsAt run.0 n c.0) (sym same.0) c.2) none in
          let is : left_in t.step ≡ left_in c.1.step = ap (λ x. left_in x.step) same.1 in
          let more = begun answer.fetch c.0.place c.0.step c.1.step c.4.step in
          let picks = same_place place at (begins answer.fetch) 0 same.0 in omega (arith, before, is, more, picks)
      | inr other ↦
          let before = requests_after first run.0 calls place s t run.1 is_s other.1 none in
          let picks = other_place place at (begins answer.fetch) 0 other.0 in omega (arith, before, picks)
    ]
requests_after first last (wait at number name now may ∷ calls) place s t run is_s is_t none =
    let c = run.2.0 in
    elim (which at run.0 last c.1 c.5 c.3 place t is_t) [
      | inl same ↦
          let before = requests_after first run.0 calls place s c.0 run.1 is_s (subst (λ n. IsAt run.0 n c.0) (sym same.0) c.2) none in
          let is : left_in t.step ≡ left_in c.0.step = ap (λ x. left_in x.step) same.1 ∙ ap left_in c.4.step in omega (arith, before, is)
      | inr other ↦ requests_after first run.0 calls place s t run.1 is_s other.1 none
    ]
requests_after first last (next stood job ∷ calls) place s t run is_s is_t none =
    let c = run.2.0 in
    elim (which job.source run.0 last c.1 c.5 c.3 place t is_t) [
      | inl same ↦
          let before = requests_after first run.0 calls place s c.0 run.1 is_s (subst (λ n. IsAt run.0 n c.0) (sym same.0) c.2) none in
          let is : left_in t.step ≡ left_in c.1.step = ap (λ x. left_in x.step) same.1 in
          let one = handed c.0.step c.1.step job.ticket c.4.1.step in
          let picks = same_place place job.source 1 0 same.0 in omega (arith, before, is, one, picks)
      | inr other ↦
          let before = requests_after first run.0 calls place s t run.1 is_s other.1 none in
          let picks = other_place place job.source 1 0 other.0 in omega (arith, before, picks)
    ]
requests_after first last (came stood ticket status location octets brought now (Ended at end) ∷ calls) place s t run is_s is_t none =
    let c = run.2.0 in
    elim (which at run.0 last c.1 c.5 c.3 place t is_t) [
      | inl same ↦
          let before = requests_after first run.0 calls place s c.0 run.1 is_s (subst (λ n. IsAt run.0 n c.0) (sym same.0) c.2) none in
          let f = c.4.2 in
          let is : left_in t.step ≡ left_in _ = ap (λ x. left_in x.step) same.1 ∙ ap left_in f.2 in
          let less = fewer c.0.place c.0.step status location octets end f.0 f.1 in omega (arith, before, is, less)
      | inr other ↦ requests_after first run.0 calls place s t run.1 is_s other.1 none
    ]
requests_after first last (came stood ticket status location octets brought now Late ∷ calls) place s t run is_s is_t none =
    requests_after first run.0 calls place s t run.1 is_s (subst (λ x. IsAt x place t) run.2.0.0 is_t) none
