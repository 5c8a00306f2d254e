-- There is at most one first expectation that isn't met.
use Rattle.std.proofs.Common.{◌≡◌, ℕ, nat_lt, List, slice_get, Bool, true, false, Some, refl, sym, ap, ◌∙◌, subst, arith}
use Rattle.std.specs.List.{Contains}
use Rattle.std.proofs.lemmas.Bool.{ltb-true, ltb-false}
use Rattle.std.proofs.lemmas.Option.{slice_get_within, get_or_from_slice_get}
use Rattle.serde_json.specs.Data.{string, Members}
use Rattle.jwt_mac.specs.declared.algorithm.Alg.{Alg}
use Rattle.jwt_access.specs.Granted.{IsClaim}
use Rattle.jwt_access.specs.expected.Expected.{expected_text, IsMet, AreMet}
use Rattle.jwt_access.specs.expected.Unmet.{IsAbsent, IsOther, IsReached, IsFirstUnmet}
use Rattle.jwt_access.specs.declared.expected.expected.Expected.{Expected}
use Rattle.jwt_access.specs.declared.expected.expected.Unmet.{Unmet}
use Rattle.jwt_access.specs.declared.expected.expected.Unmet.TheVariants.{Absent, Other}
use Rattle.jwt_access.proofs.Tokens.{PathsAreSpelled}
use Rattle.jwt_access.proofs.Standings.{is_claim}

absent_is_unmet : (alg : Alg) (ms : Members) (e : Expected) → IsAbsent ms e → ¬ IsMet alg ms e
absent_is_unmet alg ms e none met = none (string (expected_text alg e.wanted)) met

other_is_unmet : PathsAreSpelled → (alg : Alg) (ms : Members) (e : Expected) → IsOther alg ms e → ¬ IsMet alg ms e
other_is_unmet law alg ms e another met =
    let wanted = is_claim law e.claim.now ms (string (expected_text alg e.wanted)) met in
    let found = is_claim law e.claim.now ms another.0 another.1 in
    let both : Some another.0 ≡ Some (string (expected_text alg e.wanted)) = sym found ∙ wanted in
    another.2 (let same : another.0 ≡ string (expected_text alg e.wanted) = cc in same)

same_place : (alg : Alg) (ms : Members) (list : List Expected) (j k : ℕ) (x y : Expected) → IsReached alg ms list j x → ¬ IsMet alg ms x → IsReached alg ms list k y → ¬ IsMet alg ms y → j ≡ k
same_place alg ms list j k x y h unmet g other = by (nat_lt j k) refl (nat_lt k j) refl
  where
    by : (a : Bool) → nat_lt j k ≡ a → (b : Bool) → nat_lt k j ≡ b → j ≡ k
    by true is b else = absurd (unmet (g.before j x (ltb-true j k is) h.is))
    by false is true else = absurd (other (h.before k y (ltb-true k j else) g.is))
    by false is false else = let le = ltb-false j k is in let ge = ltb-false k j else in omega arith

same_one : (alg : Alg) (ms : Members) (list : List Expected) (j k : ℕ) (x y : Expected) → IsReached alg ms list j x → IsReached alg ms list k y → j ≡ k → x ≡ y
same_one alg ms list j k x y h g e = let both : Some x ≡ Some y = sym h.is ∙ ap (slice_get list) e ∙ g.is in cc

-- what is absent is no other
not_both : (alg : Alg) (ms : Members) (x y : Expected) → x ≡ y → IsAbsent ms x → ¬ IsOther alg ms y
not_both alg ms x y same none another = none another.0 (subst (λ (e : Expected). IsClaim e.claim.now ms another.0) (sym same) another.1)

pub one : PathsAreSpelled → (alg : Alg) (ms : Members) (list : List Expected) (a b : Unmet) → IsFirstUnmet alg ms list a → IsFirstUnmet alg ms list b → a ≡ b
one law alg ms list (Absent j) (Absent k) h g = ap Absent (same_place alg ms list j k h.0 g.0 h.1 (absent_is_unmet alg ms h.0 h.2) g.1 (absent_is_unmet alg ms g.0 g.2))
one law alg ms list (Other j) (Other k) h g = ap Other (same_place alg ms list j k h.0 g.0 h.1 (other_is_unmet law alg ms h.0 h.2) g.1 (other_is_unmet law alg ms g.0 g.2))
one law alg ms list (Absent j) (Other k) h g =
    let e = same_place alg ms list j k h.0 g.0 h.1 (absent_is_unmet alg ms h.0 h.2) g.1 (other_is_unmet law alg ms g.0 g.2) in
    absurd (not_both alg ms h.0 g.0 (same_one alg ms list j k h.0 g.0 h.1 g.1 e) h.2 g.2)
one law alg ms list (Other j) (Absent k) h g =
    let e = same_place alg ms list k j g.0 h.0 g.1 (absent_is_unmet alg ms g.0 g.2) h.1 (other_is_unmet law alg ms h.0 h.2) in
    absurd (not_both alg ms g.0 h.0 (same_one alg ms list k j g.0 h.0 g.1 h.1 e) g.2 h.2)

contains_at : (list : List Expected) (place : ℕ) (e : Expected) → slice_get list place ≡ Some e → Contains list e
contains_at list place e is = (place, slice_get_within list place e is, get_or_from_slice_get list place e e is)

pub none : PathsAreSpelled → (alg : Alg) (ms : Members) (list : List Expected) (a : Unmet) → IsFirstUnmet alg ms list a → ¬ AreMet alg ms list
none law alg ms list (Absent place) h all = absent_is_unmet alg ms h.0 h.2 (all h.0 (let r = h.1 in contains_at list place h.0 r.is))
none law alg ms list (Other place) h all = other_is_unmet law alg ms h.0 h.2 (all h.0 (let r = h.1 in contains_at list place h.0 r.is))
