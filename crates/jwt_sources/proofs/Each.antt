-- At each place of the list the source changes so: those before a place, step by step.
use Rattle.std.proofs.Common.{◌≡◌, ◌≢◌, ◌<◌, ◌≤◌, ◌+◌, ℕ, length, Option, Some, None, refl, inl, inr, sym, ◌∙◌, subst, arith}
use Rattle.std.proofs.lemmas.Bool.{cases_lt}
use Rattle.std.specs.Vec.{with_item}
use Rattle.std.specs.List.{slice_get}
use Rattle.std.proofs.Math.ListN.{set}
use Rattle.std.proofs.lemmas.Option.{slice_get_past}
use Rattle.jwt_sources.specs.declared.source.Source.{Source}
use Rattle.jwt_sources.specs.declared.sources.Sources.{Sources}
use Rattle.jwt_sources.specs.Standing.{ChangesEach, AllChange}
use Rattle.jwt_sources.proofs.Lists.{set_at, set_other, below_or_at}

-- those before this place have changed, and the others stay
pub record AreChanged {K : Type 0} (place : ℕ) (old new : Sources K) (R : Source K → Source K → Type 0) : Type 0 where
  pub len : new.sources.len ≡ old.sources.len
  pub tickets : new.tickets ≡ old.tickets
  pub changed : (k : ℕ) → k < place → ChangesEach (slice_get old.sources.items k) (slice_get new.sources.items k) R
  pub rest : (k : ℕ) → place ≤ k → slice_get new.sources.items k ≡ slice_get old.sources.items k

one_more : {K : Type 0} (o n : Option (Source K)) (R : Source K → Source K → Type 0) (x y : Source K) → o ≡ Some x → n ≡ Some y → R x y → ChangesEach o n R
one_more o n R x y e f r = subst (λ p. ChangesEach p n R) (sym e) (subst (λ q. ChangesEach (Some x) q R) (sym f) r)

pub more_changed : {K : Type 0} (place : ℕ) (old new : Sources K) (R : Source K → Source K → Type 0) (x y : Source K) → slice_get new.sources.items place ≡ Some x → R x y
    → AreChanged place old new R → AreChanged (place + 1) old (record { sources = with_item new.sources place y; tickets = new.tickets }) R
more_changed place old new R x y is r t = record {
  len = t.len;
  tickets = t.tickets;
  changed = λ k below. elim (below_or_at k place below) [
    | inl before ↦
        let apart : k ≢ place = omega (arith, before) in
        subst (λ q. ChangesEach (slice_get old.sources.items k) q R) (sym (set_other new.sources.items place k y apart)) (t.changed k before)
    | inr same ↦
        let here = one_more (slice_get old.sources.items place) (slice_get (set new.sources.items place y) place) R x y
        (sym (t.rest place (omega arith)) ∙ is) (set_at new.sources.items place x y is) r in
        subst (λ n. ChangesEach (slice_get old.sources.items n) (slice_get (set new.sources.items place y) n) R) (sym same) here
  ];
  rest = λ k above. let apart : k ≢ place = omega (arith, above) in set_other new.sources.items place k y apart ∙ t.rest k (omega (arith, above));
}

neither : {K : Type 0} (o n : Option (Source K)) (R : Source K → Source K → Type 0) → o ≡ None → n ≡ None → ChangesEach o n R
neither o n R e f = subst (λ p. ChangesEach p n R) (sym e) (subst (λ q. ChangesEach None q R) (sym f) tt)

pub all_changed : {K : Type 0} (place : ℕ) (old new : Sources K) (R : Source K → Source K → Type 0) → length old.sources.items ≤ place → length new.sources.items ≤ place
    → AreChanged place old new R → AllChange old new R
all_changed place old new R end end2 t = λ k. elim (cases_lt k place) [
  | inl before ↦ t.changed k before
  | inr past ↦ neither (slice_get old.sources.items k) (slice_get new.sources.items k) R
      (slice_get_past old.sources.items k (omega (arith, end, past))) (slice_get_past new.sources.items k (omega (arith, end2, past)))
]

from_each : {K : Type 0} (R : Source K → Source K → Type 0) (o : Option (Source K)) (s : Source K) → ChangesEach o (Some s) R → (x : Source K) × (o ≡ Some x) × R x s
from_each R None s each = absurd each
from_each R (Some x) s each = (x, refl, each)

-- what stood at a place before
pub each_at : {K : Type 0} (R : Source K → Source K → Type 0) (o n : Option (Source K)) (s : Source K) → ChangesEach o n R → n ≡ Some s → (x : Source K) × (o ≡ Some x) × R x s
each_at R o n s each e = from_each R o s (subst (λ m. ChangesEach o m R) e each)
