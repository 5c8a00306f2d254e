-- One expectation alone: it is met, or the first that isn't.
use Rattle.std.proofs.Common.{◌≡◌, ◌≢◌, ℕ, ◌<◌, inl, [], ◌∷◌, Some, refl, subst, slice_get, arith}
use Rattle.std.proofs.lemmas.Option.{slice_get_within, get_or_from_slice_get}
use Rattle.serde_json.specs.Data.{Members}
use Rattle.jwt_mac.specs.declared.algorithm.Alg.{Alg}
use Rattle.jwt_access.specs.expected.Expected.{AreMet, IsMet, expected_text}
use Rattle.jwt_access.specs.expected.Unmet.{IsAbsent, IsOther, IsFirstUnmet}
use Rattle.jwt_access.specs.declared.expected.expected.Expected.{Expected}
use Rattle.jwt_access.specs.declared.expected.expected.Unmet.{Unmet}
use Rattle.jwt_access.specs.declared.expected.expected.Unmet.TheVariants.{Absent, Other}
use Rattle.jwt_handles.specs.Expecting.{SaysText}

at_front : (e x : Expected) (place : ℕ) → place ≡ 0 → slice_get (e ∷ []) place ≡ Some x → x ≡ e
at_front e x place front is = let first : slice_get (e ∷ []) 0 ≡ Some x = subst (λ p. slice_get (e ∷ []) p ≡ Some x) front is in cc

only : (e x : Expected) (place : ℕ) → slice_get (e ∷ []) place ≡ Some x → x ≡ e
only e x place is = at_front e x place (let within : place < 1 = slice_get_within (e ∷ []) place x is in omega arith) is

pub met : (alg : Alg) (ms : Members) (e : Expected) → AreMet alg ms (e ∷ []) → IsMet alg ms e
met alg ms e all = all e (0, slice_get_within (e ∷ []) 0 e refl, get_or_from_slice_get (e ∷ []) 0 e e refl)

pub absent : (alg : Alg) (ms : Members) (e : Expected) (place : ℕ) → IsFirstUnmet alg ms (e ∷ []) (Absent place) → IsAbsent ms e
absent alg ms e place h = subst (λ x. IsAbsent ms x) (only e h.0 place (let r = h.1 in r.is)) h.2

-- what is said of an absent claim
pub absent_said : (alg : Alg) (ms : Members) (e : Expected) (place : ℕ) → IsFirstUnmet alg ms (e ∷ []) (Absent place) → SaysText (Some ms) e.claim.now (expected_text alg e.wanted) 9 1
absent_said alg ms e place h = ((λ (ok : 9 ≡ 0). absurd (let no : 9 ≡ 0 = ok in cc)), (λ (bad : 9 ≢ 0). (refl, inl (refl, absent alg ms e place h))))

pub absent_as : (alg : Alg) (ms : Members) (e : Expected) (u : Unmet) (place : ℕ) → u ≡ Absent place → IsFirstUnmet alg ms (e ∷ []) u → SaysText (Some ms) e.claim.now (expected_text alg e.wanted) 9 1
absent_as alg ms e u place is h = absent_said alg ms e place (subst (λ (v : Unmet). IsFirstUnmet alg ms (e ∷ []) v) is h)

pub other : (alg : Alg) (ms : Members) (e : Expected) (place : ℕ) → IsFirstUnmet alg ms (e ∷ []) (Other place) → IsOther alg ms e
other alg ms e place h = subst (λ x. IsOther alg ms x) (only e h.0 place (let r = h.1 in r.is)) h.2
