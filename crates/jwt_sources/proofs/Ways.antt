-- Whether a fetch is under way.
use Rattle.std.proofs.Common.{◌≡◌, ◌⊎◌, ◌-◌, ℕ, Bool, true, false, List, Option, None, Some, OnSome, arith, refl, inl, inr}
use Rattle.std.proofs.lemmas.Bool.{cases_lt}
use Rattle.jwt_request.specs.declared.renewal.times.Times.{Times}
use Rattle.jwt_request.specs.renewal.History.{Event, moment, beginnings, newest, is_open}
use Rattle.jwt_request.specs.renewal.Rules.{IsWithin, IsUnderWay}

within_or_not : (span : ℕ) (o : Option ℕ) (now : ℕ) → IsWithin span o now ⊎ (¬ IsWithin span o now)
within_or_not span None now = inr (λ never. never)
within_or_not span (Some since) now = elim (cases_lt (now - since) span) [ inl young ↦ inl young | inr old ↦ inr (λ young. omega (arith, young, old)) ]

both_or_not : (b : Bool) (P : Type 0) → P ⊎ (¬ P) → ((b ≡ true) × P) ⊎ (¬ ((b ≡ true) × P))
both_or_not true P (inl p) = inl (refl, p)
both_or_not true P (inr n) = inr (λ x. n x.1)
both_or_not false P d = inr (λ x. let never : false ≡ true = x.0 in cc)

pub under_or_not : (times : Times) (h : List Event) → IsUnderWay times h ⊎ (¬ IsUnderWay times h)
under_or_not times h = both_or_not (is_open h) (IsWithin times.timeout (newest (beginnings h)) (moment h)) (within_or_not times.timeout (newest (beginnings h)) (moment h))

pub on_some : {A : Type 0} (o : Option A) (P : Type 0) → P → OnSome o P
on_some None P p = tt
on_some (Some x) P p = p
