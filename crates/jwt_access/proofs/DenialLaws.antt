-- The table's answer is the denial in words.
use Rattle.std.proofs.Common.{◌≡◌, ℕ, zero, suc, ◌<◌, List, [], ◌∷◌, map, slice_get, Bool, true, false, not, Option, Some, None, is_none, IsNone, IfSome, refl, sym, ap, ◌∙◌, subst, arith, ◌⊎◌, inl, inr, ⊎_elim, nat_lt}
use Rattle.std.specs.Option.{option_or}
use Rattle.std.specs.List.{Contains}
use Rattle.std.proofs.lemmas.Bool.{ltb-true, ltb-false}
use Rattle.serde_json.specs.Data.{Data, Members}
use Rattle.jwt_text.specs.Rows.{◌⇒◌, first_row}
use Rattle.jwt_policy.specs.Texts.{some_passes}
use Rattle.jwt_access.specs.Rules.{Demand, Further, Rule, further_of}
use Rattle.jwt_access.specs.Pointers.{claim_at}
use Rattle.jwt_access.specs.Denials.{scope_row, demands_rows, claims_denial_of, first_unasked, denial_of}
use Rattle.jwt_access.specs.Granted.{IsClaim, IsMet, IsGranted}
use Rattle.jwt_access.specs.DenialWords.{IsReached, IsClaimsDenial, IsUnmet, IsReachedFurther, IsDenial}
use Rattle.jwt_access.specs.declared.denial.Denial.{Denial}
use Rattle.jwt_access.specs.declared.denial.Denial.TheVariants.{ScopeMissing, ClaimMissing, ClaimNotAllowed, ClaimPresent, ClaimHasOther, ClaimNotObject, ClaimNotDate, ClaimLater, ClaimTooOld, ClaimNotAscii}
use Rattle.jwt_access.specs.declared.moment.Moment.{Moment}
use Rattle.jwt_access.proofs.AskedLaws.{unmet, is_unmet, met, is_met_so, none_unasked, unasked_none, IsFirst, unasked_first, first_is_unasked}
use Rattle.jwt_access.proofs.RowsLemmas.{first_of_both}
use Rattle.jwt_access.proofs.GrantedLaws.{MeetsClaims, claims_granted, claims_undenied, none_both, is_granted, is_met, is_allowed_by, scope_decides, met_decides, claim_is, is_claim, scopes_none}

-- ---- scopes

-- the first scope that isn't granted
abbrev FirstScope : List ℕ → Members → List (List ℕ) → Denial → Type 0
FirstScope claim ms scopes denial = (k : ℕ) × (s : List ℕ) × (denial ≡ ScopeMissing s) × (slice_get scopes k ≡ Some s) × (is_granted claim ms s ≡ false) × ((j : ℕ) (t : List ℕ) → j < k → slice_get scopes j ≡ Some t → is_granted claim ms t ≡ true)

scope_step : (claim : List ℕ) (ms : Members) (s : List ℕ) (ss : List (List ℕ)) (denial : Denial) → (first_row (map (scope_row claim ms) ss) ≡ Some denial → FirstScope claim ms ss denial) → (b : Bool) → is_granted claim ms s ≡ b → first_row ((not b ⇒ ScopeMissing s) ∷ map (scope_row claim ms) ss) ≡ Some denial → FirstScope claim ms (s ∷ ss) denial
scope_step claim ms s ss denial more false is e = (0, s, (let told : ScopeMissing s ≡ denial = cc in sym told), refl, is, λ j t lt at. absurd (omega arith))
scope_step claim ms s ss denial more true is e = let h = more e in (suc h.0, h.1, h.2, h.3, h.4, before h.0 h.5)
  where
    before : (k : ℕ) → ((j : ℕ) (t : List ℕ) → j < k → slice_get ss j ≡ Some t → is_granted claim ms t ≡ true) → (j : ℕ) (t : List ℕ) → j < suc k → slice_get (s ∷ ss) j ≡ Some t → is_granted claim ms t ≡ true
    before k earlier zero t lt at = let same : s ≡ t = cc in ap (is_granted claim ms) (sym same) ∙ is
    before k earlier (suc j) t lt at = earlier j t (omega arith) at

scopes_first : (claim : List ℕ) (ms : Members) (scopes : List (List ℕ)) (denial : Denial) → first_row (map (scope_row claim ms) scopes) ≡ Some denial → FirstScope claim ms scopes denial
scopes_first claim ms [] denial e = absurd cc
scopes_first claim ms (s ∷ ss) denial e = scope_step claim ms s ss denial (scopes_first claim ms ss denial) (is_granted claim ms s) refl e

-- ---- demands

-- the demand's claim is absent, or there and not allowed
abbrev Unmet : List ℕ → Members → Demand → Denial → Type 0
Unmet claim ms x denial =
    ((denial ≡ ClaimMissing x.name) × (claim_at x.name ms ≡ None))
    ⊎ ((d : Data) × (denial ≡ ClaimNotAllowed x.name) × (claim_at x.name ms ≡ Some d) × (is_met claim ms x ≡ false))

abbrev FirstDemand : List ℕ → Members → List Demand → Denial → Type 0
FirstDemand claim ms ds denial = (k : ℕ) × (x : Demand) × (slice_get ds k ≡ Some x) × Unmet claim ms x denial × ((j : ℕ) (y : Demand) → j < k → slice_get ds j ≡ Some y → is_met claim ms y ≡ true)

demand_step : (claim : List ℕ) (ms : Members) (x : Demand) (xs : List Demand) (denial : Denial) → (first_row (demands_rows claim ms xs) ≡ Some denial → FirstDemand claim ms xs denial) → (o : Option Data) → claim_at x.name ms ≡ o → (b : Bool) → some_passes (is_allowed_by claim x) o ≡ b → first_row ((is_none o ⇒ ClaimMissing x.name) ∷ (not b ⇒ ClaimNotAllowed x.name) ∷ demands_rows claim ms xs) ≡ Some denial → FirstDemand claim ms (x ∷ xs) denial
demand_step claim ms x xs denial more None is b met e = (0, x, refl, inl ((let told : ClaimMissing x.name ≡ denial = cc in sym told), is), λ j y lt at. absurd (omega arith))
demand_step claim ms x xs denial more (Some d) is false met e = (0, x, refl, inr (d, (let told : ClaimNotAllowed x.name ≡ denial = cc in sym told), is, ap (some_passes (is_allowed_by claim x)) is ∙ met), λ j y lt at. absurd (omega arith))
demand_step claim ms x xs denial more (Some d) is true met e = let h = more e in (suc h.0, h.1, h.2, h.3, before h.0 h.4)
  where
    before : (k : ℕ) → ((j : ℕ) (y : Demand) → j < k → slice_get xs j ≡ Some y → is_met claim ms y ≡ true) → (j : ℕ) (y : Demand) → j < suc k → slice_get (x ∷ xs) j ≡ Some y → is_met claim ms y ≡ true
    before k earlier zero y lt at = let same : x ≡ y = cc in ap (is_met claim ms) (sym same) ∙ ap (some_passes (is_allowed_by claim x)) is ∙ met
    before k earlier (suc j) y lt at = earlier j y (omega arith) at

demands_first : (claim : List ℕ) (ms : Members) (ds : List Demand) (denial : Denial) → first_row (demands_rows claim ms ds) ≡ Some denial → FirstDemand claim ms ds denial
demands_first claim ms [] denial e = absurd cc
demands_first claim ms (x ∷ xs) denial e = demand_step claim ms x xs denial (demands_first claim ms xs denial) (claim_at x.name ms) refl (is_met claim ms x) refl e

-- ---- in words

off : {P : Type 0} (b : Bool) → b ≡ false → (P → b ≡ true) → ¬ P
off b is back h = let wrong : false ≡ true = sym is ∙ back h in cc

by_scope : (rule : Rule) (ms : Members) (denial : Denial) → FirstScope rule.scope_claim ms rule.scopes denial → IsClaimsDenial rule ms denial
by_scope rule ms denial h =
    subst (IsClaimsDenial rule ms) (sym h.2)
    (h.0, h.3, off (is_granted rule.scope_claim ms h.1) h.4 (scope_decides rule.scope_claim ms h.1).1, λ j t lt at. (scope_decides rule.scope_claim ms t).0 (h.5 j t lt at))

contains_at : {A : Type 0} (xs : List A) (j : ℕ) (x : A) → slice_get xs j ≡ Some x → Contains xs x
contains_at [] j x e = absurd cc
contains_at (y ∷ ys) zero x e = let same : y ≡ x = cc in (0, omega arith, same)
contains_at (y ∷ ys) (suc j) x e = let h = contains_at ys j x e in (suc h.0, (let lt = h.1 in omega arith), h.2)

by_demand : (rule : Rule) (ms : Members) (denial : Denial) → first_row (map (scope_row rule.scope_claim ms) rule.scopes) ≡ None → FirstDemand rule.scope_claim ms rule.claims denial → IsClaimsDenial rule ms denial
by_demand rule ms denial all h = ⊎_elim absent other h.3
  where
    reached : IsReached rule ms h.0 h.1
    reached = record {
      is = h.2;
      scopes = λ j scope at. (scope_decides rule.scope_claim ms scope).0 (scopes_none rule.scope_claim ms rule.scopes all scope (contains_at rule.scopes j scope at));
      before = λ j y lt at. (met_decides rule.scope_claim ms y).0 (h.4 j y lt at);
    }

    absent : (denial ≡ ClaimMissing h.1.name) × (claim_at h.1.name ms ≡ None) → IsClaimsDenial rule ms denial
    absent a = subst (IsClaimsDenial rule ms) (sym a.0) (h.0, h.1, reached, refl, λ d is. (let there = is_claim h.1.name ms d is in let none = a.1 in cc))

    other : (d : Data) × (denial ≡ ClaimNotAllowed h.1.name) × (claim_at h.1.name ms ≡ Some d) × (is_met rule.scope_claim ms h.1 ≡ false) → IsClaimsDenial rule ms denial
    other a = subst (IsClaimsDenial rule ms) (sym a.1) (h.0, h.1, a.0, reached, refl, claim_is h.1.name ms a.0 a.2, off (is_met rule.scope_claim ms h.1) a.3 (met_decides rule.scope_claim ms h.1).1)

either : (rule : Rule) (ms : Members) (denial : Denial) (o : Option Denial) → first_row (map (scope_row rule.scope_claim ms) rule.scopes) ≡ o → option_or o (first_row (demands_rows rule.scope_claim ms rule.claims)) ≡ Some denial → IsClaimsDenial rule ms denial
either rule ms denial None all e = by_demand rule ms denial all (demands_first rule.scope_claim ms rule.claims denial e)
either rule ms denial (Some d) some e =
    let same : d ≡ denial = cc in
    by_scope rule ms denial (scopes_first rule.scope_claim ms rule.scopes denial (some ∙ ap Some same))

claims_denial_is : (rule : Rule) (ms : Members) (denial : Denial) → claims_denial_of rule ms ≡ Some denial → IsClaimsDenial rule ms denial
unfolding claims_denial_of
claims_denial_is rule ms denial e =
    either rule ms denial (first_row (map (scope_row rule.scope_claim ms) rule.scopes)) refl
    (sym (first_of_both (map (scope_row rule.scope_claim ms) rule.scopes) (demands_rows rule.scope_claim ms rule.claims)) ∙ e)

-- ---- there is one

order : {P : Type 0} (j k : ℕ) → (j < k → P) → (j ≡ k → P) → (k < j → P) → P
order {P = P} j k below same above = by (nat_lt j k) refl (nat_lt k j) refl
  where
    by : (a : Bool) → nat_lt j k ≡ a → (b : Bool) → nat_lt k j ≡ b → P
    by true is b other = below (ltb-true j k is)
    by false is true other = above (ltb-true k j other)
    by false is false other = same (let le = ltb-false j k is in let ge = ltb-false k j other in omega arith)

at_same : {A : Type 0} (xs : List A) (j k : ℕ) (x y : A) → j ≡ k → slice_get xs j ≡ Some x → slice_get xs k ≡ Some y → x ≡ y
at_same xs j k x y e is other = let both : Some x ≡ Some y = sym is ∙ ap (slice_get xs) e ∙ other in cc

same_scope : (rule : Rule) (ms : Members) (s t : List ℕ) → IsClaimsDenial rule ms (ScopeMissing s) → IsClaimsDenial rule ms (ScopeMissing t) → s ≡ t
same_scope rule ms s t h g = order h.0 g.0 (λ lt. absurd (h.2 (g.3 h.0 s lt h.1))) (λ e. at_same rule.scopes h.0 g.0 s t e h.1 g.1) (λ lt. absurd (g.2 (h.3 g.0 t lt g.1)))

same_demand : (rule : Rule) (ms : Members) (j k : ℕ) (x y : Demand) → IsReached rule ms j x → ¬ IsMet rule.scope_claim ms x → IsReached rule ms k y → ¬ IsMet rule.scope_claim ms y → x ≡ y
same_demand rule ms j k x y h unmet g other = order j k (λ lt. absurd (unmet (g.before j x lt h.is))) (λ e. at_same rule.claims j k x y e h.is g.is) (λ lt. absurd (other (h.before k y lt g.is)))

-- where the claim is absent, the demand isn't met
absent_unmet : (claim : List ℕ) (ms : Members) (x : Demand) (name : List ℕ) → name ≡ x.name → ((d : Data) → ¬ IsClaim name ms d) → ¬ IsMet claim ms x
absent_unmet claim ms x name e none met = none met.0 (subst (λ n. IsClaim n ms met.0) (sym e) met.1)

absent_or_other : (rule : Rule) (ms : Members) (m n : List ℕ) → IsClaimsDenial rule ms (ClaimMissing m) → IsClaimsDenial rule ms (ClaimNotAllowed n) → ⊥
absent_or_other rule ms m n h g =
    let same : h.1 ≡ g.1 = same_demand rule ms h.0 g.0 h.1 g.1 h.2 (absent_unmet rule.scope_claim ms h.1 m h.3 h.4) g.3 g.6 in
    h.4 g.2 (subst (λ name. IsClaim name ms g.2) (g.4 ∙ sym (ap (λ (x : Demand). x.name) same) ∙ sym h.3) g.5)

one_claims_denial : (rule : Rule) (ms : Members) (a b : Denial) → IsClaimsDenial rule ms a → IsClaimsDenial rule ms b → a ≡ b
one_claims_denial rule ms (ScopeMissing s) (ScopeMissing t) h g = ap ScopeMissing (same_scope rule ms s t h g)
one_claims_denial rule ms (ScopeMissing s) (ClaimMissing n) h g = absurd (h.2 (let r = g.2 in r.scopes h.0 s h.1))
one_claims_denial rule ms (ScopeMissing s) (ClaimNotAllowed n) h g = absurd (h.2 (let r = g.3 in r.scopes h.0 s h.1))
one_claims_denial rule ms (ClaimMissing m) (ScopeMissing t) h g = absurd (g.2 (let r = h.2 in r.scopes g.0 t g.1))
one_claims_denial rule ms (ClaimMissing m) (ClaimMissing n) h g =
    let same : h.1 ≡ g.1 = same_demand rule ms h.0 g.0 h.1 g.1 h.2 (absent_unmet rule.scope_claim ms h.1 m h.3 h.4) g.2 (absent_unmet rule.scope_claim ms g.1 n g.3 g.4) in
    ap ClaimMissing (h.3 ∙ ap (λ (x : Demand). x.name) same ∙ sym g.3)
one_claims_denial rule ms (ClaimMissing m) (ClaimNotAllowed n) h g = absurd (absent_or_other rule ms m n h g)
one_claims_denial rule ms (ClaimNotAllowed m) (ScopeMissing t) h g = absurd (g.2 (let r = h.3 in r.scopes g.0 t g.1))
one_claims_denial rule ms (ClaimNotAllowed m) (ClaimMissing n) h g = absurd (absent_or_other rule ms n m g h)
one_claims_denial rule ms (ClaimNotAllowed m) (ClaimNotAllowed n) h g =
    let same : h.1 ≡ g.1 = same_demand rule ms h.0 g.0 h.1 g.1 h.3 h.6 g.3 g.6 in
    ap ClaimNotAllowed (h.4 ∙ ap (λ (x : Demand). x.name) same ∙ sym g.4)
one_claims_denial rule ms (ScopeMissing s) (ClaimPresent m) h g = absurd g
one_claims_denial rule ms (ClaimMissing n) (ClaimPresent m) h g = absurd g
one_claims_denial rule ms (ClaimNotAllowed n) (ClaimPresent m) h g = absurd g
one_claims_denial rule ms (ClaimPresent m) b h g = absurd h
one_claims_denial rule ms (ScopeMissing s) (ClaimHasOther m) h g = absurd g
one_claims_denial rule ms (ClaimMissing n) (ClaimHasOther m) h g = absurd g
one_claims_denial rule ms (ClaimNotAllowed n) (ClaimHasOther m) h g = absurd g
one_claims_denial rule ms (ClaimHasOther m) b h g = absurd h
one_claims_denial rule ms (ScopeMissing s) (ClaimNotObject m) h g = absurd g
one_claims_denial rule ms (ClaimMissing n) (ClaimNotObject m) h g = absurd g
one_claims_denial rule ms (ClaimNotAllowed n) (ClaimNotObject m) h g = absurd g
one_claims_denial rule ms (ClaimNotObject m) b h g = absurd h
one_claims_denial rule ms (ScopeMissing s) (ClaimNotDate m) h g = absurd g
one_claims_denial rule ms (ClaimMissing n) (ClaimNotDate m) h g = absurd g
one_claims_denial rule ms (ClaimNotAllowed n) (ClaimNotDate m) h g = absurd g
one_claims_denial rule ms (ClaimNotDate m) b h g = absurd h
one_claims_denial rule ms (ScopeMissing s) (ClaimLater m) h g = absurd g
one_claims_denial rule ms (ClaimMissing n) (ClaimLater m) h g = absurd g
one_claims_denial rule ms (ClaimNotAllowed n) (ClaimLater m) h g = absurd g
one_claims_denial rule ms (ClaimLater m) b h g = absurd h
one_claims_denial rule ms (ScopeMissing s) (ClaimTooOld m) h g = absurd g
one_claims_denial rule ms (ClaimMissing n) (ClaimTooOld m) h g = absurd g
one_claims_denial rule ms (ClaimNotAllowed n) (ClaimTooOld m) h g = absurd g
one_claims_denial rule ms (ClaimTooOld m) b h g = absurd h
one_claims_denial rule ms (ScopeMissing s) (ClaimNotAscii m) h g = absurd g
one_claims_denial rule ms (ClaimMissing n) (ClaimNotAscii m) h g = absurd g
one_claims_denial rule ms (ClaimNotAllowed n) (ClaimNotAscii m) h g = absurd g
one_claims_denial rule ms (ClaimNotAscii m) b h g = absurd h

-- what is denied isn't granted
claims_ungranted : (rule : Rule) (ms : Members) (a : Denial) → IsClaimsDenial rule ms a → ¬ MeetsClaims rule ms
claims_ungranted rule ms (ScopeMissing s) h g = h.2 (g.0 s (contains_at rule.scopes h.0 s h.1))
claims_ungranted rule ms (ClaimMissing n) h g = absent_unmet rule.scope_claim ms h.1 n h.3 h.4 (g.1 h.1 (let r = h.2 in contains_at rule.claims h.0 h.1 r.is))
claims_ungranted rule ms (ClaimNotAllowed n) h g = h.6 (g.1 h.1 (let r = h.3 in contains_at rule.claims h.0 h.1 r.is))
claims_ungranted rule ms (ClaimPresent n) h g = absurd h
claims_ungranted rule ms (ClaimHasOther n) h g = absurd h
claims_ungranted rule ms (ClaimNotObject n) h g = absurd h
claims_ungranted rule ms (ClaimNotDate n) h g = absurd h
claims_ungranted rule ms (ClaimLater n) h g = absurd h
claims_ungranted rule ms (ClaimTooOld n) h g = absurd h
claims_ungranted rule ms (ClaimNotAscii n) h g = absurd h

-- the denial in words is the table's answer
is_claims_denial : (rule : Rule) (ms : Members) (denial : Denial) → IsClaimsDenial rule ms denial → claims_denial_of rule ms ≡ Some denial
is_claims_denial rule ms denial h = go (claims_denial_of rule ms) refl
  where
    go : (o : Option Denial) → claims_denial_of rule ms ≡ o → claims_denial_of rule ms ≡ Some denial
    go None is = absurd (claims_ungranted rule ms denial h (claims_granted rule ms is))
    go (Some d) is = is ∙ ap Some (one_claims_denial rule ms d denial (claims_denial_is rule ms d is) h)

-- ---- with what else is asked

from_further : (rule : Rule) (at : Moment) (ms : Members) (denial : Denial) → claims_denial_of rule ms ≡ None → IsFirst at ms (further_of rule) denial → IsDenial rule at ms denial
from_further rule at ms denial none h =
    let claims = claims_granted rule ms none in
    let reached : IsReachedFurther rule at ms h.0 h.1 = record { is = h.2; scopes = claims.0; claims = claims.1; before = λ j g lt there. met at ms g.name g.asked (h.4 j g lt there) } in
    inr (h.0, h.1, reached, unmet at ms h.1.name h.1.asked denial h.3)

pub denial_is : (rule : Rule) (at : Moment) (ms : Members) (denial : Denial) → denial_of rule at ms ≡ Some denial → IsDenial rule at ms denial
unfolding denial_of
denial_is rule at ms denial e = by (claims_denial_of rule ms) refl e
  where
    by : (o : Option Denial) → claims_denial_of rule ms ≡ o → option_or o (first_unasked at ms (further_of rule)) ≡ Some denial → IsDenial rule at ms denial
    by None is h = from_further rule at ms denial is (unasked_first at ms (further_of rule) denial h)
    by (Some d) is h = inl (claims_denial_is rule ms denial (is ∙ h))

pub is_denial : (rule : Rule) (at : Moment) (ms : Members) (denial : Denial) → IsDenial rule at ms denial → denial_of rule at ms ≡ Some denial
unfolding denial_of
is_denial rule at ms denial h = ⊎_elim early late h
  where
    early : IsClaimsDenial rule ms denial → option_or (claims_denial_of rule ms) (first_unasked at ms (further_of rule)) ≡ Some denial
    early g = ap (λ o. option_or o (first_unasked at ms (further_of rule))) (is_claims_denial rule ms denial g)

    late : (k : ℕ) × (f : Further) × IsReachedFurther rule at ms k f × IsUnmet at ms f.name f.asked denial → option_or (claims_denial_of rule ms) (first_unasked at ms (further_of rule)) ≡ Some denial
    late g =
        let r = g.2 in
        ap (λ o. option_or o (first_unasked at ms (further_of rule))) (claims_undenied rule ms (r.scopes, r.claims))
        ∙ first_is_unasked at ms (further_of rule) denial g.0 g.1 r.is (is_unmet at ms g.1.name g.1.asked denial g.3) (λ j f lt there. is_met_so at ms f.name f.asked (r.before j f lt there))

pub granted : (rule : Rule) (at : Moment) (ms : Members) → denial_of rule at ms ≡ None → IsGranted rule at ms
unfolding denial_of
granted rule at ms e =
    let parts = none_both (claims_denial_of rule ms) (first_unasked at ms (further_of rule)) e in
    let claims = claims_granted rule ms parts.0 in
    record { scopes = claims.0; claims = claims.1; further = λ f is. met at ms f.name f.asked (none_unasked at ms (further_of rule) parts.1 f is) }

pub undenied : (rule : Rule) (at : Moment) (ms : Members) → IsGranted rule at ms → denial_of rule at ms ≡ None
unfolding denial_of
undenied rule at ms h =
    ap (λ o. option_or o (first_unasked at ms (further_of rule))) (claims_undenied rule ms (h.scopes, h.claims))
    ∙ unasked_none at ms (further_of rule) (λ f is. is_met_so at ms f.name f.asked (h.further f is))

-- an answer that is the table's
pub told : (rule : Rule) (at : Moment) (ms : Members) (o : Option Denial) → o ≡ denial_of rule at ms → IfSome o (IsDenial rule at ms)
told rule at ms None e = tt
told rule at ms (Some d) e = denial_is rule at ms d (sym e)

-- an answer that is the table's, and no answer
pub denied : (rule : Rule) (at : Moment) (ms : Members) (o : Option Denial) → o ≡ denial_of rule at ms → (IsNone o → IsGranted rule at ms) × (IsGranted rule at ms → IsNone o)
denied rule at ms None e = (λ _. granted rule at ms (sym e), λ _. refl)
denied rule at ms (Some d) e = (λ h. absurd cc, λ h. absurd (let none = undenied rule at ms h in cc))

pub one_denial : (rule : Rule) (at : Moment) (ms : Members) (a b : Denial) → IsDenial rule at ms a → IsDenial rule at ms b → a ≡ b
one_denial rule at ms a b h g = let same : Some a ≡ Some b = sym (is_denial rule at ms a h) ∙ is_denial rule at ms b g in cc

-- what is denied isn't granted
pub denied_ungranted : (rule : Rule) (at : Moment) (ms : Members) (a : Denial) → IsDenial rule at ms a → ¬ IsGranted rule at ms
denied_ungranted rule at ms a h g = let wrong : None ≡ Some a = sym (undenied rule at ms g) ∙ is_denial rule at ms a h in cc
