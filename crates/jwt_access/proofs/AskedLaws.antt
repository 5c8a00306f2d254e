-- A claim is as is asked further, in words, exactly where the table of that has no answer; else the answer says why it isn't.
use Rattle.std.proofs.Common.{◌≡◌, ◌≢◌, ℕ, zero, suc, ℤ, ◌+ℤ◌, ◌+◌, pos, ◌≤◌, ◌<◌, List, [], ◌∷◌, length, Bool, true, false, not, cond, nat_lt, nat_le, slice_get, Option, Some, None, is_none, option_map, refl, sym, ap, ◌∙◌, subst, ◌⊎◌, inl, inr, ⊎_elim, arith, Decides, ◌<ℤ◌, ◌≤ℤ◌, T, int_lt}
use Rattle.std.specs.Option.{option_or}
use Rattle.std.specs.Int.Signed.{lt_z_yes, lt_z_no, <ℤ_irrefl, <ℤ-≤ℤ_trans}
use Rattle.std.specs.List.{Contains, list_all}
use Rattle.std.proofs.lemmas.Bool.{ltb-true, ltb-false}
use Rattle.std.proofs.lemmas.Bool.Decides.{Decides-or, leb_tells}
use Rattle.serde_json.specs.Data.{Data, null, boolean, number, string, array, object, Items, Members}
use Rattle.serde_json.specs.Find.{as_str, as_array}
use Rattle.jwt_text.specs.Members.{elements}
use Rattle.jwt_text.specs.Rows.{◌⇒◌, first_row}
use Rattle.jwt_policy.specs.Checks.{is_later}
use Rattle.jwt_policy.specs.Texts.{some_passes}
use Rattle.jwt_access.specs.Rules.{Allowed, Asked, absent, only, an_object, aged, ascii, Further}
use Rattle.jwt_access.specs.Pointers.{claim_at}
use Rattle.jwt_access.specs.Claims.{is_one_of, has_only, is_object, is_short_ascii, is_ascii, date_in, is_value, is_older}
use Rattle.jwt_access.specs.Granted.{IsClaim, IsValue, IsOneOf, HasOnly, IsObject, IsAscii, IsDate, IsReachedBy, IsWithin, IsRecent, IsAsked}
use Rattle.jwt_access.specs.Denials.{asked_rows, first_unasked}
use Rattle.jwt_access.specs.DenialWords.{IsAmiss, IsLacked, IsUnmet}
use Rattle.jwt_access.specs.declared.denial.Denial.{Denial}
use Rattle.jwt_access.specs.declared.denial.Denial.TheVariants.{ClaimMissing, ClaimPresent, ClaimHasOther, ClaimNotObject, ClaimNotDate, ClaimLater, ClaimTooOld, ClaimNotAscii}
use Rattle.jwt_access.specs.declared.moment.Moment.{Moment}
use Rattle.jwt_access.proofs.GrantedLaws.{claim_is, is_claim, same_list, value_decides, and_decides, none_both}
use Rattle.jwt_access.proofs.TestLemmas.{decides_some, any_decides, all_at, all_from, text_is, first, later, cases_of}

-- ---- values

one_of_decides : (vs : List Allowed) (d : Data) → Decides (is_one_of vs d) (IsOneOf vs d)
one_of_decides vs d = any_decides (λ v. is_value v d) (λ v. IsValue v d) (λ v. value_decides v d) vs

-- each element is one of the values
abbrev Each : List Allowed → List Data → Type 0
Each vs ds = (e : Data) → Contains ds e → IsOneOf vs e

each_decides : (vs : List Allowed) (ds : List Data) → Decides (list_all (is_one_of vs) ds) (Each vs ds)
each_decides vs ds =
    (λ h e is. (one_of_decides vs e).0 (all_at (is_one_of vs) ds h e is), λ h. all_from (is_one_of vs) ds (λ e is. (one_of_decides vs e).1 (h e is)))

abbrev IsListOf : List Allowed → Data → Type 0
IsListOf vs d = (items : Items) × (d ≡ array items) × Each vs (elements items)

no_list : (vs : List Allowed) (d : Data) → some_passes (list_all (is_one_of vs)) (option_map elements (as_array d)) ≡ false → ((items : Items) → d ≢ array items) → Decides (some_passes (list_all (is_one_of vs)) (option_map elements (as_array d))) (IsListOf vs d)
no_list vs d off none = (λ e. absurd (let wrong : true ≡ false = sym e ∙ off in cc), λ h. absurd (none h.0 h.1))

list_decides : (vs : List Allowed) (d : Data) → Decides (some_passes (list_all (is_one_of vs)) (option_map elements (as_array d))) (IsListOf vs d)
list_decides vs null = no_list vs null refl (λ items e. cc)
list_decides vs (boolean b) = no_list vs (boolean b) refl (λ items e. cc)
list_decides vs (number n) = no_list vs (number n) refl (λ items e. cc)
list_decides vs (string t) = no_list vs (string t) refl (λ items e. cc)
list_decides vs (object ms) = no_list vs (object ms) refl (λ items e. cc)
list_decides vs (array ds) =
    (λ h. (ds, refl, (each_decides vs (elements ds)).0 h), λ h. (each_decides vs (elements ds)).1 (subst (λ items. Each vs (elements items)) (sym (same_list ds h.0 h.1)) h.2))

only_decides : (vs : List Allowed) (d : Data) → Decides (has_only vs d) (HasOnly vs d)
only_decides vs d = Decides-or (is_one_of vs d) (some_passes (list_all (is_one_of vs)) (option_map elements (as_array d))) (one_of_decides vs d) (list_decides vs d)

object_decides : (d : Data) → Decides (is_object d) (IsObject d)
object_decides null = (λ e. absurd cc, λ h. absurd (let is = h.1 in cc))
object_decides (boolean b) = (λ e. absurd cc, λ h. absurd (let is = h.1 in cc))
object_decides (number n) = (λ e. absurd cc, λ h. absurd (let is = h.1 in cc))
object_decides (string t) = (λ e. absurd cc, λ h. absurd (let is = h.1 in cc))
object_decides (array ds) = (λ e. absurd cc, λ h. absurd (let is = h.1 in cc))
object_decides (object ms) = (λ e. (ms, refl), λ h. refl)

le_decides : (n m : ℕ) → Decides (nat_le n m) (n ≤ m)
le_decides n m = ⊎_elim (λ p. (λ _. p.1, λ _. p.0)) (λ p. (λ e. absurd (let wrong : true ≡ false = sym e ∙ p.0 in cc), λ h. absurd (let lt = p.1 in omega arith))) (leb_tells n m)

lt_decides : (n m : ℕ) → Decides (nat_lt n m) (n < m)
lt_decides n m = (λ e. ltb-true n m e, λ h. by (nat_lt n m) refl h)
  where
    by : (b : Bool) → nat_lt n m ≡ b → n < m → nat_lt n m ≡ true
    by true is h = is
    by false is h = absurd (let le = ltb-false n m is in omega arith)

octets_decide : (t : List ℕ) → Decides (list_all (λ octet. nat_lt octet 128) t) ((octet : ℕ) → Contains t octet → octet < 128)
octets_decide t =
    (λ h o is. (lt_decides o 128).0 (all_at (λ octet. nat_lt octet 128) t h o is), λ h. all_from (λ octet. nat_lt octet 128) t (λ o is. (lt_decides o 128).1 (h o is)))

abbrev IsShort : ℕ → List ℕ → Type 0
IsShort most t = (length t ≤ most) × ((octet : ℕ) → Contains t octet → octet < 128)

short_decides : (most : ℕ) (t : List ℕ) → Decides (is_short_ascii most t) (IsShort most t)
short_decides most t = and_decides (nat_le (length t) most) (list_all (λ octet. nat_lt octet 128) t) (le_decides (length t) most) (octets_decide t)

ascii_decides : (most : ℕ) (d : Data) → Decides (is_ascii most d) (IsAscii most d)
ascii_decides most d =
    let found = decides_some (is_short_ascii most) (as_str d) (IsShort most) (short_decides most) in
    (λ e. let h = found.0 e in let k = h.2 in (h.0, text_is d h.0 h.1, k.0, k.1), λ h. found.1 (h.0, ap as_str h.1, (h.2, h.3)))

-- ---- a test of a value, as a row

fails : {P : Type 0} (b : Bool) → Decides b P → ¬ P → b ≡ false
fails true d not_one = absurd (not_one (d.0 refl))
fails false d not_one = refl

not_so : {P : Type 0} (b : Bool) → Decides b P → b ≡ false → ¬ P
not_so b d is h = let wrong : false ≡ true = sym is ∙ d.1 h in cc

module _ {P : Type 0} (b : Bool) (d : Decides b P) (why : Denial) where
  tested : (denial : Denial) → cond (not b) (Some why) None ≡ Some denial → (denial ≡ why) × ¬ P
  tested denial e = by b refl e
    where
      by : (c : Bool) → b ≡ c → cond (not c) (Some why) None ≡ Some denial → (denial ≡ why) × ¬ P
      by true is h = absurd cc
      by false is h = ((let same : why ≡ denial = cc in sym same), not_so b d is)

  is_tested : (denial : Denial) → denial ≡ why → ¬ P → cond (not b) (Some why) None ≡ Some denial
  is_tested denial same not_one = ap (λ c. cond (not c) (Some why) None) (fails b d not_one) ∙ ap Some (sym same)

  passes : cond (not b) (Some why) None ≡ None → P
  passes e = by b refl e
    where
      by : (c : Bool) → b ≡ c → cond (not c) (Some why) None ≡ None → P
      by true is h = d.0 is
      by false is h = absurd cc

  is_passed : P → cond (not b) (Some why) None ≡ None
  is_passed h = ap (λ c. cond (not c) (Some why) None) (d.1 h)

-- ---- dates

-- a test fails exactly where this holds
abbrev Fails : Bool → Type 0 → Type 0
Fails b P = (b ≡ false → P) × (P → b ≡ false)

below : (x y : ℤ) → int_lt x y ≡ true → x <ℤ y
below x y e = lt_z_yes (subst T (sym e) tt)

lt_fails : (x y : ℤ) → Fails (int_lt x y) (y ≤ℤ x)
lt_fails x y = (λ e. lt_z_no (subst (λ b. T (not b)) (sym e) tt), λ h. by (int_lt x y) refl h)
  where
    by : (b : Bool) → int_lt x y ≡ b → y ≤ℤ x → b ≡ false
    by false e h = refl
    by true e h = let less : x <ℤ y = below x y e in absurd (<ℤ_irrefl (<ℤ-≤ℤ_trans less h))

-- whether a date is later, then whether it is older
abbrev dated : Bool → Bool → List ℕ → Option Denial
dated l o name = cond l (Some (ClaimLater name)) (cond o (Some (ClaimTooOld name)) None)

module _ {R W : Type 0} (l o : Bool) (r : Fails l R) (w : Fails o W) (name : List ℕ) where
  abbrev IsOff : Denial → Type 0
  IsOff denial = ((denial ≡ ClaimLater name) × ¬ R) ⊎ ((denial ≡ ClaimTooOld name) × R × ¬ W)

  on : {P : Type 0} (b : Bool) → Fails b P → b ≡ true → ¬ P
  on b f is h = let wrong : true ≡ false = sym is ∙ f.1 h in cc

  is_true : {P : Type 0} (b : Bool) → Fails b P → ¬ P → b ≡ true
  is_true true f not_one = refl
  is_true false f not_one = absurd (not_one (f.0 refl))

  off_date : (denial : Denial) → dated l o name ≡ Some denial → IsOff denial
  off_date denial e = by l refl o refl e
    where
      by : (a : Bool) → l ≡ a → (b : Bool) → o ≡ b → dated a b name ≡ Some denial → IsOff denial
      by true is b other h = inl ((let same : ClaimLater name ≡ denial = cc in sym same), on l r is)
      by false is true other h = inr ((let same : ClaimTooOld name ≡ denial = cc in sym same), r.0 is, on o w other)
      by false is false other h = absurd cc

  is_off : (denial : Denial) → IsOff denial → dated l o name ≡ Some denial
  is_off denial h = ⊎_elim late old h
    where
      late : (denial ≡ ClaimLater name) × ¬ R → dated l o name ≡ Some denial
      late p = ap (λ a. dated a o name) (is_true l r p.1) ∙ ap Some (sym p.0)

      old : (denial ≡ ClaimTooOld name) × R × ¬ W → dated l o name ≡ Some denial
      old p = ap (λ a. dated a o name) (r.1 p.1) ∙ ap (λ b. dated false b name) (is_true o w p.2) ∙ ap Some (sym p.0)

  in_time : dated l o name ≡ None → R × W
  in_time e = by l refl o refl e
    where
      by : (a : Bool) → l ≡ a → (b : Bool) → o ≡ b → dated a b name ≡ None → R × W
      by true is b other h = absurd cc
      by false is true other h = absurd cc
      by false is false other h = (r.0 is, w.0 other)

  is_in_time : R → W → dated l o name ≡ None
  is_in_time h k = ap (λ a. dated a o name) (r.1 h) ∙ ap (λ b. dated false b name) (w.1 k)

reached_fails : (at : Moment) (z : ℤ) → Fails (is_later at.now at.leeway z) (IsReachedBy at z)
reached_fails at z = lt_fails (at.now +ℤ pos at.leeway) z

within_fails : (at : Moment) (age : ℕ) (z : ℤ) → Fails (is_older at age z) (IsWithin at age z)
within_fails at age z = lt_fails (z +ℤ pos (age + at.leeway)) at.now

-- the table's answer of a claim that is there, by the date that it is
abbrev by_date : Moment → List ℕ → ℕ → Option ℤ → Option Denial
by_date at name age o =
    first_row ((is_none o ⇒ ClaimNotDate name) ∷ (some_passes (is_later at.now at.leeway) o ⇒ ClaimLater name) ∷ (some_passes (is_older at age) o ⇒ ClaimTooOld name) ∷ [])

no_date : (z : ℤ) (o : Option ℤ) → o ≡ None → o ≡ Some z → ⊥
no_date z o none some = let wrong : None ≡ Some z = sym none ∙ some in cc

date_amiss : (at : Moment) (name : List ℕ) (age : ℕ) (v : Data) (denial : Denial) (o : Option ℤ) → date_in v ≡ o → by_date at name age o ≡ Some denial → IsAmiss at name (aged age) v denial
date_amiss at name age v denial None is e = inl ((let same : ClaimNotDate name ≡ denial = cc in sym same), λ z some. no_date z (date_in v) is some)
date_amiss at name age v denial (Some z) is e =
    ⊎_elim (λ p. inr (inl (z, is, p.0, p.1))) (λ p. inr (inr (z, is, p.0, p.1, p.2))) (off_date (is_later at.now at.leeway z) (is_older at age z) (reached_fails at z) (within_fails at age z) name denial e)

none_of : (v : Data) → ((z : ℤ) → ¬ IsDate v z) → date_in v ≡ None
none_of v not_one = by (date_in v) refl
  where
    by : (o : Option ℤ) → date_in v ≡ o → date_in v ≡ None
    by None is = is
    by (Some z) is = absurd (not_one z is)

amiss_date : (at : Moment) (name : List ℕ) (age : ℕ) (v : Data) (denial : Denial) → IsAmiss at name (aged age) v denial → by_date at name age (date_in v) ≡ Some denial
amiss_date at name age v denial h = ⊎_elim none (λ k. ⊎_elim late old k) h
  where
    off : (z : ℤ) → IsDate v z → IsOff (is_later at.now at.leeway z) (is_older at age z) (reached_fails at z) (within_fails at age z) name denial → by_date at name age (date_in v) ≡ Some denial
    off z is k = ap (by_date at name age) is ∙ is_off (is_later at.now at.leeway z) (is_older at age z) (reached_fails at z) (within_fails at age z) name denial k

    none : (denial ≡ ClaimNotDate name) × ((z : ℤ) → ¬ IsDate v z) → by_date at name age (date_in v) ≡ Some denial
    none p = ap (by_date at name age) (none_of v p.1) ∙ ap Some (sym p.0)

    late : (z : ℤ) × IsDate v z × (denial ≡ ClaimLater name) × ¬ IsReachedBy at z → by_date at name age (date_in v) ≡ Some denial
    late p = off p.0 p.1 (inl (p.2, p.3))

    old : (z : ℤ) × IsDate v z × (denial ≡ ClaimTooOld name) × IsReachedBy at z × ¬ IsWithin at age z → by_date at name age (date_in v) ≡ Some denial
    old p = off p.0 p.1 (inr (p.2, p.3, p.4))

date_passes : (at : Moment) (name : List ℕ) (age : ℕ) (v : Data) (o : Option ℤ) → date_in v ≡ o → by_date at name age o ≡ None → IsRecent at age v
date_passes at name age v None is e = absurd cc
date_passes at name age v (Some z) is e =
    let p = in_time (is_later at.now at.leeway z) (is_older at age z) (reached_fails at z) (within_fails at age z) name e in
    (z, is, p.0, p.1)

passes_date : (at : Moment) (name : List ℕ) (age : ℕ) (v : Data) → IsRecent at age v → by_date at name age (date_in v) ≡ None
passes_date at name age v h =
    ap (by_date at name age) h.1 ∙ is_in_time (is_later at.now at.leeway h.0) (is_older at age h.0) (reached_fails at h.0) (within_fails at age h.0) name h.2 h.3

-- ---- a claim

abbrev answer : Moment → List ℕ → Asked → Option Data → Option Denial
answer at name asked o = first_row (asked_rows at name asked o)

-- the value that a claim has is not_one other
one_claim : (name : List ℕ) (ms : Members) (v w : Data) → claim_at name ms ≡ Some v → IsClaim name ms w → v ≡ w
one_claim name ms v w is h = let same : Some v ≡ Some w = sym is ∙ is_claim name ms w h in cc

no_claim : (name : List ℕ) (ms : Members) → claim_at name ms ≡ None → (v : Data) → ¬ IsClaim name ms v
no_claim name ms none v h = let wrong : None ≡ Some v = sym none ∙ is_claim name ms v h in cc

none_at : (name : List ℕ) (ms : Members) → ((v : Data) → ¬ IsClaim name ms v) → claim_at name ms ≡ None
none_at name ms not_one = by (claim_at name ms) refl
  where
    by : (o : Option Data) → claim_at name ms ≡ o → claim_at name ms ≡ None
    by None is = is
    by (Some v) is = absurd (not_one v (claim_is name ms v is))

-- why the table answers of a claim that is there
amiss : (at : Moment) (name : List ℕ) (asked : Asked) (v : Data) (denial : Denial) → answer at name asked (Some v) ≡ Some denial → IsAmiss at name asked v denial
amiss at name absent v denial e = let same : ClaimPresent name ≡ denial = cc in sym same
amiss at name (only vs) v denial e = tested (has_only vs v) (only_decides vs v) (ClaimHasOther name) denial e
amiss at name an_object v denial e = tested (is_object v) (object_decides v) (ClaimNotObject name) denial e
amiss at name (aged age) v denial e = date_amiss at name age v denial (date_in v) refl e
amiss at name (ascii most) v denial e = tested (is_ascii most v) (ascii_decides most v) (ClaimNotAscii name) denial e

is_amiss : (at : Moment) (name : List ℕ) (asked : Asked) (v : Data) (denial : Denial) → IsAmiss at name asked v denial → answer at name asked (Some v) ≡ Some denial
is_amiss at name absent v denial h = ap Some (sym h)
is_amiss at name (only vs) v denial h = is_tested (has_only vs v) (only_decides vs v) (ClaimHasOther name) denial h.0 h.1
is_amiss at name an_object v denial h = is_tested (is_object v) (object_decides v) (ClaimNotObject name) denial h.0 h.1
is_amiss at name (aged age) v denial h = amiss_date at name age v denial h
is_amiss at name (ascii most) v denial h = is_tested (is_ascii most v) (ascii_decides most v) (ClaimNotAscii name) denial h.0 h.1

-- why it answers of one that isn't
lacked : (at : Moment) (name : List ℕ) (asked : Asked) (denial : Denial) → answer at name asked None ≡ Some denial → IsLacked name asked denial
lacked at name absent denial e = absurd cc
lacked at name (only vs) denial e = let same : ClaimMissing name ≡ denial = cc in sym same
lacked at name an_object denial e = let same : ClaimMissing name ≡ denial = cc in sym same
lacked at name (aged age) denial e = let same : ClaimMissing name ≡ denial = cc in sym same
lacked at name (ascii most) denial e = let same : ClaimMissing name ≡ denial = cc in sym same

is_lacked : (at : Moment) (name : List ℕ) (asked : Asked) (denial : Denial) → IsLacked name asked denial → answer at name asked None ≡ Some denial
is_lacked at name absent denial h = absurd h
is_lacked at name (only vs) denial h = ap Some (sym h)
is_lacked at name an_object denial h = ap Some (sym h)
is_lacked at name (aged age) denial h = ap Some (sym h)
is_lacked at name (ascii most) denial h = ap Some (sym h)

unmet_by : (at : Moment) (ms : Members) (name : List ℕ) (asked : Asked) (denial : Denial) (o : Option Data) → claim_at name ms ≡ o → answer at name asked o ≡ Some denial → IsUnmet at ms name asked denial
unmet_by at ms name asked denial None is e = inl (no_claim name ms is, lacked at name asked denial e)
unmet_by at ms name asked denial (Some v) is e = inr (v, claim_is name ms v is, amiss at name asked v denial e)

-- the table's answer says why
pub unmet : (at : Moment) (ms : Members) (name : List ℕ) (asked : Asked) (denial : Denial) → answer at name asked (claim_at name ms) ≡ Some denial → IsUnmet at ms name asked denial
unmet at ms name asked denial e = unmet_by at ms name asked denial (claim_at name ms) refl e

-- what is so is the table's answer
pub is_unmet : (at : Moment) (ms : Members) (name : List ℕ) (asked : Asked) (denial : Denial) → IsUnmet at ms name asked denial → answer at name asked (claim_at name ms) ≡ Some denial
is_unmet at ms name asked denial h =
    ⊎_elim (λ p. ap (answer at name asked) (none_at name ms p.0) ∙ is_lacked at name asked denial p.1) (λ p. ap (answer at name asked) (is_claim name ms p.0 p.1) ∙ is_amiss at name asked p.0 denial p.2) h

met_by : (at : Moment) (ms : Members) (name : List ℕ) (asked : Asked) (o : Option Data) → claim_at name ms ≡ o → answer at name asked o ≡ None → IsAsked at ms name asked
met_by at ms name absent None is e = no_claim name ms is
met_by at ms name (only vs) None is e = absurd cc
met_by at ms name an_object None is e = absurd cc
met_by at ms name (aged age) None is e = absurd cc
met_by at ms name (ascii most) None is e = absurd cc
met_by at ms name absent (Some v) is e = absurd cc
met_by at ms name (only vs) (Some v) is e = (v, claim_is name ms v is, passes (has_only vs v) (only_decides vs v) (ClaimHasOther name) e)
met_by at ms name an_object (Some v) is e = (v, claim_is name ms v is, passes (is_object v) (object_decides v) (ClaimNotObject name) e)
met_by at ms name (aged age) (Some v) is e = (v, claim_is name ms v is, date_passes at name age v (date_in v) refl e)
met_by at ms name (ascii most) (Some v) is e = (v, claim_is name ms v is, passes (is_ascii most v) (ascii_decides most v) (ClaimNotAscii name) e)

-- where the table has no answer, the claim is as is asked
pub met : (at : Moment) (ms : Members) (name : List ℕ) (asked : Asked) → answer at name asked (claim_at name ms) ≡ None → IsAsked at ms name asked
met at ms name asked e = met_by at ms name asked (claim_at name ms) refl e

-- and the other way round
pub is_met_so : (at : Moment) (ms : Members) (name : List ℕ) (asked : Asked) → IsAsked at ms name asked → answer at name asked (claim_at name ms) ≡ None
is_met_so at ms name absent h = ap (answer at name absent) (none_at name ms h)
is_met_so at ms name (only vs) h = ap (answer at name (only vs)) (is_claim name ms h.0 h.1) ∙ is_passed (has_only vs h.0) (only_decides vs h.0) (ClaimHasOther name) h.2
is_met_so at ms name an_object h = ap (answer at name an_object) (is_claim name ms h.0 h.1) ∙ is_passed (is_object h.0) (object_decides h.0) (ClaimNotObject name) h.2
is_met_so at ms name (aged age) h = ap (answer at name (aged age)) (is_claim name ms h.0 h.1) ∙ passes_date at name age h.0 h.2
is_met_so at ms name (ascii most) h = ap (answer at name (ascii most)) (is_claim name ms h.0 h.1) ∙ is_passed (is_ascii most h.0) (ascii_decides most h.0) (ClaimNotAscii name) h.2

-- ---- all that is asked

-- the table's answer of one
abbrev pub lack : Moment → Members → Further → Option Denial
lack at ms f = answer at f.name f.asked (claim_at f.name ms)

pub none_unasked : (at : Moment) (ms : Members) (fs : List Further) → first_unasked at ms fs ≡ None → (f : Further) → Contains fs f → lack at ms f ≡ None
none_unasked at ms [] e f h = absurd (let lt = h.1 in omega arith)
none_unasked at ms (x ∷ xs) e f h =
    let parts = none_both (lack at ms x) (first_unasked at ms xs) e in
    cases_of x xs f h (λ same. ap (lack at ms) (sym same) ∙ parts.0) (λ in_rest. none_unasked at ms xs parts.1 f in_rest)

pub unasked_none : (at : Moment) (ms : Members) (fs : List Further) → ((f : Further) → Contains fs f → lack at ms f ≡ None) → first_unasked at ms fs ≡ None
unasked_none at ms [] h = refl
unasked_none at ms (x ∷ xs) h =
    ap (λ o. option_or o (first_unasked at ms xs)) (h x (first x xs)) ∙ unasked_none at ms xs (λ f in_rest. h f (later x xs f in_rest))

-- the first whose table answers
abbrev pub IsFirst : Moment → Members → List Further → Denial → Type 0
IsFirst at ms fs denial =
    (k : ℕ) × (f : Further) × (slice_get fs k ≡ Some f) × (lack at ms f ≡ Some denial) × ((j : ℕ) (g : Further) → j < k → slice_get fs j ≡ Some g → lack at ms g ≡ None)

first_step : (at : Moment) (ms : Members) (x : Further) (xs : List Further) (denial : Denial) → (first_unasked at ms xs ≡ Some denial → IsFirst at ms xs denial) → (o : Option Denial) → lack at ms x ≡ o → option_or o (first_unasked at ms xs) ≡ Some denial → IsFirst at ms (x ∷ xs) denial
first_step at ms x xs denial more (Some d) is e = (0, x, refl, is ∙ e, λ j g lt where_at. absurd (omega arith))
first_step at ms x xs denial more None is e = let h = more e in (suc h.0, h.1, h.2, h.3, before h.0 h.4)
  where
    before : (k : ℕ) → ((j : ℕ) (g : Further) → j < k → slice_get xs j ≡ Some g → lack at ms g ≡ None) → (j : ℕ) (g : Further) → j < suc k → slice_get (x ∷ xs) j ≡ Some g → lack at ms g ≡ None
    before k earlier zero g lt there = let same : x ≡ g = cc in ap (lack at ms) (sym same) ∙ is
    before k earlier (suc j) g lt there = earlier j g (omega arith) there

pub unasked_first : (at : Moment) (ms : Members) (fs : List Further) (denial : Denial) → first_unasked at ms fs ≡ Some denial → IsFirst at ms fs denial
unasked_first at ms [] denial e = absurd cc
unasked_first at ms (x ∷ xs) denial e = first_step at ms x xs denial (unasked_first at ms xs denial) (lack at ms x) refl e

pub first_is_unasked : (at : Moment) (ms : Members) (fs : List Further) (denial : Denial) (k : ℕ) (f : Further) → slice_get fs k ≡ Some f → lack at ms f ≡ Some denial → ((j : ℕ) (g : Further) → j < k → slice_get fs j ≡ Some g → lack at ms g ≡ None) → first_unasked at ms fs ≡ Some denial
first_is_unasked at ms [] denial k f there is before = absurd cc
first_is_unasked at ms (x ∷ xs) denial zero f there is before =
    let same : x ≡ f = cc in
    ap (λ o. option_or o (first_unasked at ms xs)) (ap (lack at ms) same ∙ is)
first_is_unasked at ms (x ∷ xs) denial (suc k) f there is before =
    ap (λ o. option_or o (first_unasked at ms xs)) (before 0 x (omega arith) refl)
    ∙ first_is_unasked at ms xs denial k f there is (λ j g lt where_at. before (suc j) g (omega arith) where_at)
