-- Claims meet a rule in words exactly where its table has no answer.
use Rattle.std.proofs.Common.{◌≡◌, ◌≢◌, ℕ, ◌==◌, ℤ, List, [], ◌∷◌, map, length, Bool, true, false, not, ◌&&◌, ◌||◌, codes, Option, Some, None, is_none, option_map, option_and_then, refl, sym, ap, ◌∙◌, subst, inl, inr, ⊎_elim, arith, Decides}
use Rattle.std.specs.Option.{option_or}
use Rattle.std.specs.Bool.{beq}
use Rattle.std.specs.Ordering.{int_eq}
use Rattle.std.specs.Cmp.{signed_Decides, booleans_Decides}
use Rattle.std.specs.Str.{bytes_eq}
use Rattle.std.specs.List.{Contains, list_all, list_any, join_with_byte, AllByRecursion}
use Rattle.std.proofs.lemmas.Bool.{eqb-true}
use Rattle.std.proofs.lemmas.Bool.Decides.{Decides-or}
use Rattle.std.proofs.lemmas.List.Elements.{All-nil, All-cons}
use Rattle.std.proofs.lemmas.List.Splits.{join_with_byte-slice_split}
use Rattle.std.proofs.lemmas.Slice.Eq.{bytes_eq-Decides}
use Rattle.serde_json.specs.Data.{Data, null, boolean, number, string, array, object, Items, Members}
use Rattle.serde_json.specs.Find.{get_member, as_str, as_bool, as_number, as_i64, as_array}
use Rattle.jwt_text.specs.Members.{elements, are_texts}
use Rattle.jwt_text.specs.Rows.{Row, ◌⇒◌, first_row}
use Rattle.jwt_policy.specs.Texts.{some_passes, is_among, any_text}
use Rattle.jwt_access.specs.Rules.{Allowed, text, flag, whole, Demand, Rule}
use Rattle.jwt_access.specs.Pointers.{value_at, path_of, claim_at}
use Rattle.jwt_access.specs.Scopes.{is_scope_character, is_scope, words, text_grants, list_grants, grants}
use Rattle.jwt_access.specs.Claims.{is_value, has_value, has_word, meets, is_allowed}
use Rattle.jwt_access.specs.Denials.{scope_row, demands_rows, claims_denial_of}
use Rattle.jwt_access.specs.Granted.{IsClaim, Grants, IsValue, HasValue, HasWord, Meets, HasScope, IsMet, IsGranted, AsksNoMore}
use Rattle.jwt_access.specs.declared.denial.Denial.TheVariants.{ScopeMissing, ClaimMissing, ClaimNotAllowed}
use Rattle.jwt_access.specs.declared.moment.Moment.{Moment}
use Rattle.jwt_access.proofs.RowsLemmas.{first_of_both}
use Rattle.jwt_access.proofs.Splits.{Lacks, cut_joined}
use Rattle.jwt_access.proofs.PointerLaws.{path_is, is_path}
use Rattle.jwt_access.proofs.TestLemmas.{decides_some, later, first, cases_of, any_decides, both, and_true, all_at, all_from, among_decides, text_is, flag_is}

-- ---- the claim of a name

pub claim_is : (name : List ℕ) (ms : Members) (d : Data) → claim_at name ms ≡ Some d → IsClaim name ms d
claim_is name ms d e = by (path_of name) refl e
  where
    by : (o : Option (List (List ℕ))) → path_of name ≡ o → option_and_then (λ path. value_at path ms) o ≡ Some d → IsClaim name ms d
    by None is at = absurd cc
    by (Some path) is at = (path, path_is name path is, at)

pub is_claim : (name : List ℕ) (ms : Members) (d : Data) → IsClaim name ms d → claim_at name ms ≡ Some d
is_claim name ms d h = ap (λ o. option_and_then (λ path. value_at path ms) o) (is_path name h.0 h.1) ∙ h.2

claim_decides : (name : List ℕ) (ms : Members) (test : Data → Bool) (P : Data → Type 0) → ((d : Data) → Decides (test d) (P d)) → Decides (some_passes test (claim_at name ms)) ((d : Data) × IsClaim name ms d × P d)
claim_decides name ms test P each =
    let found = decides_some test (claim_at name ms) P each in
    (λ e. let h = found.0 e in (h.0, claim_is name ms h.0 h.1, h.2), λ h. found.1 (h.0, is_claim name ms h.0 h.1, h.2))

-- ---- scopes

no_space : (c : ℕ) → is_scope_character c ≡ true → (c == 32) ≡ false
no_space c e = by (c == 32) refl
  where
    by : (b : Bool) → (c == 32) ≡ b → b ≡ false
    by true is = let wrong : is_scope_character 32 ≡ true = subst (λ k. is_scope_character k ≡ true) (eqb-true c 32 is) e in absurd cc
    by false is = refl

characters_lack : (t : List ℕ) → list_all is_scope_character t ≡ true → Lacks 32 t
characters_lack [] e = All-nil (λ x. (x == 32) ≡ false)
characters_lack (c ∷ t) e = let parts = both (is_scope_character c) (list_all is_scope_character t) e in All-cons (λ x. (x == 32) ≡ false) c t (no_space c parts.0) (characters_lack t parts.1)

scope_lacks : (t : List ℕ) → is_scope t ≡ true → Lacks 32 t
scope_lacks t e = characters_lack t (both (not (length t == 0)) (list_all is_scope_character t) e).1

each_lacks : (ts : List (List ℕ)) → ((t : List ℕ) → Contains ts t → is_scope t ≡ true) → AllByRecursion (Lacks 32) ts
each_lacks [] h = tt
each_lacks (t ∷ ts) h = (scope_lacks t (h t (first t ts)), each_lacks ts (λ u in_rest. h u (later t ts u in_rest)))

text_decides : (scope t : List ℕ) → Decides (text_grants scope t) ((tokens : List (List ℕ)) × (t ≡ join_with_byte 32 tokens) × ((u : List ℕ) → Contains tokens u → is_scope u ≡ true) × Contains tokens scope)
text_decides scope t = (there, λ h. back h.0 h.1 h.2 h.3)
  where
    there : text_grants scope t ≡ true → (tokens : List (List ℕ)) × (t ≡ join_with_byte 32 tokens) × ((u : List ℕ) → Contains tokens u → is_scope u ≡ true) × Contains tokens scope
    there e = let parts = both (list_all is_scope (words t)) (is_among (words t) scope) e in (words t, sym (join_with_byte-slice_split 32 t), all_at is_scope (words t) parts.0, (among_decides (words t) scope).0 parts.1)

    back : (tokens : List (List ℕ)) → t ≡ join_with_byte 32 tokens → ((u : List ℕ) → Contains tokens u → is_scope u ≡ true) → Contains tokens scope → text_grants scope t ≡ true
    back [] is each has = absurd (let lt = has.1 in omega arith)
    back (u ∷ us) is each has =
        let are : words t ≡ u ∷ us = ap words is ∙ cut_joined 32 u us (each_lacks (u ∷ us) each) in
        and_true (list_all is_scope (words t)) (is_among (words t) scope) (ap (list_all is_scope) are ∙ all_from is_scope (u ∷ us) each) (ap (λ ts. is_among ts scope) are ∙ (among_decides (u ∷ us) scope).1 has)

element_decides : (scope : List ℕ) (d : Data) → Decides (some_passes (λ t. bytes_eq t scope) (as_str d)) (d ≡ string scope)
element_decides scope d =
    let found = decides_some (λ t. bytes_eq t scope) (as_str d) (λ t. t ≡ scope) (λ t. bytes_eq-Decides t scope) in
    (λ e. let h = found.0 e in text_is d h.0 h.1 ∙ ap string h.2, λ is. found.1 (scope, ap as_str is, refl))

list_decides : (scope : List ℕ) (ds : List Data) → Decides (list_grants scope ds) ((are_texts ds ≡ true) × Contains ds (string scope))
list_decides scope ds =
    let found = any_decides (λ d. some_passes (λ t. bytes_eq t scope) (as_str d)) (λ d. d ≡ string scope) (element_decides scope) ds in (
      λ e. let parts = both (are_texts ds) (any_text (λ t. bytes_eq t scope) ds) e in let h = found.0 parts.1 in (parts.0, subst (Contains ds) h.2 h.1),
      λ h. and_true (are_texts ds) (any_text (λ t. bytes_eq t scope) ds) h.0 (found.1 (string scope, h.1, refl)),
    )

or_false : (b : Bool) → (b || false) ≡ b
or_false true = refl
or_false false = refl

same_text : (t u : List ℕ) → string t ≡ string u → t ≡ u
same_text t u e = let same : Some t ≡ Some u = ap as_str e in cc

pub same_list : (ds es : Items) → array ds ≡ array es → ds ≡ es
same_list ds es e = let same : Some ds ≡ Some es = ap as_array e in cc

-- neither a text nor a list
grants_nothing : (scope : List ℕ) (d : Data) → grants scope d ≡ false → ((t : List ℕ) → d ≢ string t) → ((items : Items) → d ≢ array items) → Decides (grants scope d) (Grants d scope)
grants_nothing scope d off no_text no_list = (λ e. absurd (let wrong : true ≡ false = sym e ∙ off in cc), λ h. absurd (⊎_elim (λ t. no_text (join_with_byte 32 t.0) t.1) (λ l. no_list l.0 l.1) h))

pub grants_decides : (scope : List ℕ) (d : Data) → Decides (grants scope d) (Grants d scope)
grants_decides scope null = grants_nothing scope null refl (λ t e. cc) (λ items e. cc)
grants_decides scope (boolean b) = grants_nothing scope (boolean b) refl (λ t e. cc) (λ items e. cc)
grants_decides scope (number n) = grants_nothing scope (number n) refl (λ t e. cc) (λ items e. cc)
grants_decides scope (object ms) = grants_nothing scope (object ms) refl (λ t e. cc) (λ items e. cc)
grants_decides scope (string t) = (
  λ e. let h = (text_decides scope t).0 (sym (or_false (text_grants scope t)) ∙ e) in inl (h.0, ap string h.1, h.2, h.3),
  λ h. or_false (text_grants scope t) ∙ (text_decides scope t).1 (⊎_elim (λ g. (g.0, same_text t (join_with_byte 32 g.0) g.1, g.2, g.3)) (λ l. absurd (let is = l.1 in cc)) h),
)
grants_decides scope (array ds) = (
  λ e. let h = (list_decides scope (elements ds)).0 e in inr (ds, refl, h.0, h.1),
  λ h. (list_decides scope (elements ds)).1 (⊎_elim (λ g. absurd (let is = g.1 in cc)) (λ l. subst (λ items. (are_texts (elements items) ≡ true) × Contains (elements items) (string scope)) (sym (same_list ds l.0 l.1)) (l.2, l.3)) h),
)

-- ---- values

abbrev whole_of : Data → Option ℤ
whole_of d = option_and_then as_i64 (as_number d)

pub value_decides : (v : Allowed) (d : Data) → Decides (is_value v d) (IsValue v d)
value_decides (text t) d =
    let found = decides_some (λ s. bytes_eq s t) (as_str d) (λ s. s ≡ t) (λ s. bytes_eq-Decides s t) in
    (λ e. let h = found.0 e in text_is d h.0 h.1 ∙ ap string h.2, λ is. found.1 (t, ap as_str is, refl))
value_decides (flag b) d =
    let found = decides_some (λ c. beq c b) (as_bool d) (λ c. c ≡ b) (λ c. booleans_Decides c b) in
    (λ e. let h = found.0 e in flag_is d h.0 h.1 ∙ ap boolean h.2, λ is. found.1 (b, ap as_bool is, refl))
value_decides (whole z) d =
    let found = decides_some (λ w. int_eq w z) (whole_of d) (λ w. w ≡ z) (λ w. signed_Decides w z) in
    (λ e. let h = found.0 e in h.1 ∙ ap Some h.2, λ is. found.1 (z, is, refl))

-- an element of a list is the value
abbrev Holds : Allowed → Data → Type 0
Holds v d = (items : Items) × (e : Data) × (d ≡ array items) × Contains (elements items) e × IsValue v e

holds_nothing : (v : Allowed) (d : Data) → some_passes (list_any (is_value v)) (option_map elements (as_array d)) ≡ false → ((items : Items) → d ≢ array items) → Decides (some_passes (list_any (is_value v)) (option_map elements (as_array d))) (Holds v d)
holds_nothing v d off no_list = (λ e. absurd (let wrong : true ≡ false = sym e ∙ off in cc), λ h. absurd (no_list h.0 h.2))

holds_decides : (v : Allowed) (d : Data) → Decides (some_passes (list_any (is_value v)) (option_map elements (as_array d))) (Holds v d)
holds_decides v null = holds_nothing v null refl (λ items e. cc)
holds_decides v (boolean b) = holds_nothing v (boolean b) refl (λ items e. cc)
holds_decides v (number n) = holds_nothing v (number n) refl (λ items e. cc)
holds_decides v (string t) = holds_nothing v (string t) refl (λ items e. cc)
holds_decides v (object ms) = holds_nothing v (object ms) refl (λ items e. cc)
holds_decides v (array ds) =
    let found = any_decides (is_value v) (IsValue v) (value_decides v) (elements ds) in (
      λ e. let h = found.0 e in (ds, h.0, refl, h.1, h.2),
      λ h. found.1 (h.1, subst (λ items. Contains (elements items) h.1) (sym (same_list ds h.0 h.2)) h.3, h.4),
    )

has_decides : (v : Allowed) (d : Data) → Decides (has_value v d) (HasValue v d)
has_decides v d = Decides-or (is_value v d) (some_passes (list_any (is_value v)) (option_map elements (as_array d))) (value_decides v d) (holds_decides v d)

word_decides : (v : Allowed) (d : Data) → Decides (has_word v d) (HasWord v d)
word_decides (text t) d = grants_decides t d
word_decides (flag b) d = (λ e. absurd cc, λ h. absurd h)
word_decides (whole z) d = (λ e. absurd cc, λ h. absurd h)

pub and_decides : {P Q : Type 0} (a b : Bool) → Decides a P → Decides b Q → Decides (a && b) (P × Q)
and_decides a b p q = (λ e. let parts = both a b e in (p.0 parts.0, q.0 parts.1), λ h. and_true a b (p.1 h.0) (q.1 h.1))

meets_decides : (claim : List ℕ) (x : Demand) (v : Allowed) (d : Data) → Decides (meets (bytes_eq x.name claim) v d) (Meets claim x v d)
meets_decides claim x v d = Decides-or (has_value v d) (bytes_eq x.name claim && has_word v d) (has_decides v d) (and_decides (bytes_eq x.name claim) (has_word v d) (bytes_eq-Decides x.name claim) (word_decides v d))

-- one of the values that a demand allows
abbrev HasOne : List ℕ → Demand → Data → Type 0
HasOne claim x d = (v : Allowed) × Contains x.allowed v × Meets claim x v d

-- the test of a demand on a value
abbrev pub is_allowed_by : List ℕ → Demand → Data → Bool
is_allowed_by claim x = is_allowed (bytes_eq x.name claim) x.allowed

allowed_decides : (claim : List ℕ) (x : Demand) (d : Data) → Decides (is_allowed_by claim x d) (HasOne claim x d)
allowed_decides claim x d = any_decides (λ v. meets (bytes_eq x.name claim) v d) (λ v. Meets claim x v d) (λ v. meets_decides claim x v d) x.allowed

-- ---- the table

row_none : {A : Type 0} (b : Bool) (a : A) (rs : List (Row A)) → first_row ((b ⇒ a) ∷ rs) ≡ None → (b ≡ false) × (first_row rs ≡ None)
row_none true a rs e = absurd cc
row_none false a rs e = (refl, e)

row_from : {A : Type 0} (b : Bool) (a : A) (rs : List (Row A)) → b ≡ false → first_row rs ≡ None → first_row ((b ⇒ a) ∷ rs) ≡ None
row_from true a rs off e = absurd cc
row_from false a rs off e = e

not_false : (b : Bool) → not b ≡ false → b ≡ true
not_false true e = refl
not_false false e = absurd cc

abbrev pub is_granted : List ℕ → Members → List ℕ → Bool
is_granted claim ms scope = some_passes (grants scope) (claim_at claim ms)

pub scopes_none : (claim : List ℕ) (ms : Members) (scopes : List (List ℕ)) → first_row (map (scope_row claim ms) scopes) ≡ None → (scope : List ℕ) → Contains scopes scope → is_granted claim ms scope ≡ true
scopes_none claim ms [] e scope h = absurd (let lt = h.1 in omega arith)
scopes_none claim ms (s ∷ ss) e scope h =
    let parts = row_none (not (is_granted claim ms s)) (ScopeMissing s) (map (scope_row claim ms) ss) e in
    cases_of s ss scope h (λ same. ap (is_granted claim ms) (sym same) ∙ not_false (is_granted claim ms s) parts.0) (λ in_rest. scopes_none claim ms ss parts.1 scope in_rest)

scopes_from : (claim : List ℕ) (ms : Members) (scopes : List (List ℕ)) → ((scope : List ℕ) → Contains scopes scope → is_granted claim ms scope ≡ true) → first_row (map (scope_row claim ms) scopes) ≡ None
scopes_from claim ms [] h = refl
scopes_from claim ms (s ∷ ss) h = row_from (not (is_granted claim ms s)) (ScopeMissing s) (map (scope_row claim ms) ss) (ap not (h s (first s ss))) (scopes_from claim ms ss (λ scope in_rest. h scope (later s ss scope in_rest)))

abbrev pub is_met : List ℕ → Members → Demand → Bool
is_met claim ms d = some_passes (is_allowed_by claim d) (claim_at d.name ms)

-- a claim that has a value is there
there : (test : Data → Bool) (o : Option Data) → some_passes test o ≡ true → is_none o ≡ false
there test None e = absurd cc
there test (Some d) e = refl

demands_none : (claim : List ℕ) (ms : Members) (ds : List Demand) → first_row (demands_rows claim ms ds) ≡ None → (d : Demand) → Contains ds d → is_met claim ms d ≡ true
demands_none claim ms [] e d h = absurd (let lt = h.1 in omega arith)
demands_none claim ms (x ∷ xs) e d h =
    let rest = (not (is_met claim ms x) ⇒ ClaimNotAllowed x.name) ∷ demands_rows claim ms xs in
    let here = row_none (is_none (claim_at x.name ms)) (ClaimMissing x.name) rest e in
    let more = row_none (not (is_met claim ms x)) (ClaimNotAllowed x.name) (demands_rows claim ms xs) here.1 in
    cases_of x xs d h (λ same. ap (is_met claim ms) (sym same) ∙ not_false (is_met claim ms x) more.0) (λ in_rest. demands_none claim ms xs more.1 d in_rest)

demands_from : (claim : List ℕ) (ms : Members) (ds : List Demand) → ((d : Demand) → Contains ds d → is_met claim ms d ≡ true) → first_row (demands_rows claim ms ds) ≡ None
demands_from claim ms [] h = refl
demands_from claim ms (x ∷ xs) h =
    let met = h x (first x xs) in
    row_from (is_none (claim_at x.name ms)) (ClaimMissing x.name) ((not (is_met claim ms x) ⇒ ClaimNotAllowed x.name) ∷ demands_rows claim ms xs) (there (is_allowed_by claim x) (claim_at x.name ms) met)
    (row_from (not (is_met claim ms x)) (ClaimNotAllowed x.name) (demands_rows claim ms xs) (ap not met) (demands_from claim ms xs (λ d in_rest. h d (later x xs d in_rest))))

-- ---- the rule

-- what one demand is asked, in words
pub met_decides : (claim : List ℕ) (ms : Members) (demand : Demand) → Decides (is_met claim ms demand) (IsMet claim ms demand)
met_decides claim ms demand = claim_decides demand.name ms (is_allowed_by claim demand) (HasOne claim demand) (allowed_decides claim demand)

pub none_both : {A : Type 0} (a b : Option A) → option_or a b ≡ None → (a ≡ None) × (b ≡ None)
none_both None b e = (refl, e)
none_both (Some x) b e = absurd cc

-- each scope is granted, and each demand is met
abbrev pub MeetsClaims : Rule → Members → Type 0
MeetsClaims rule ms =
    ((scope : List ℕ) → Contains rule.scopes scope → HasScope rule.scope_claim ms scope) × ((demand : Demand) → Contains rule.claims demand → IsMet rule.scope_claim ms demand)

pub claims_granted : (rule : Rule) (ms : Members) → claims_denial_of rule ms ≡ None → MeetsClaims rule ms
unfolding claims_denial_of
claims_granted rule ms e =
    let parts = none_both (first_row (map (scope_row rule.scope_claim ms) rule.scopes)) (first_row (demands_rows rule.scope_claim ms rule.claims)) (sym (first_of_both (map (scope_row rule.scope_claim ms) rule.scopes) (demands_rows rule.scope_claim ms rule.claims)) ∙ e) in (
      λ scope h. (claim_decides rule.scope_claim ms (grants scope) (λ d. Grants d scope) (grants_decides scope)).0 (scopes_none rule.scope_claim ms rule.scopes parts.0 scope h),
      λ demand h. (met_decides rule.scope_claim ms demand).0 (demands_none rule.scope_claim ms rule.claims parts.1 demand h),
    )

pub claims_undenied : (rule : Rule) (ms : Members) → MeetsClaims rule ms → claims_denial_of rule ms ≡ None
unfolding claims_denial_of
claims_undenied rule ms h =
    first_of_both (map (scope_row rule.scope_claim ms) rule.scopes) (demands_rows rule.scope_claim ms rule.claims)
    ∙ ap (λ o. option_or o (first_row (demands_rows rule.scope_claim ms rule.claims))) (scopes_from rule.scope_claim ms rule.scopes (λ scope is. (claim_decides rule.scope_claim ms (grants scope) (λ d. Grants d scope) (grants_decides scope)).1 (h.0 scope is)))
    ∙ demands_from rule.scope_claim ms rule.claims (λ demand is. (met_decides rule.scope_claim ms demand).1 (h.1 demand is))

-- what one scope is asked, in words
pub scope_decides : (claim : List ℕ) (ms : Members) (scope : List ℕ) → Decides (is_granted claim ms scope) (HasScope claim ms scope)
scope_decides claim ms scope = claim_decides claim ms (grants scope) (λ d. Grants d scope) (grants_decides scope)

-- a rule that asks for less grants no less
pub less_asked : (less more : Rule) (at : Moment) (ms : Members) → AsksNoMore less more → IsGranted more at ms → IsGranted less at ms
less_asked less more at ms asks h = record {
  scopes = λ scope is. subst (λ claim. HasScope claim ms scope) (sym asks.scope_claim) (h.scopes scope (asks.scopes scope is));
  claims = λ demand is. subst (λ claim. IsMet claim ms demand) (sym asks.scope_claim) (h.claims demand (asks.claims demand is));
  further = λ f is. h.further f (asks.further f is);
}

-- the claim `scope` is the member of that name
pub scope_member : (ms : Members) → claim_at (codes "scope") ms ≡ get_member (codes "scope") ms
unfolding path_of
scope_member ms = refl
