-- Claims that hold, in words.
use Rattle.std.proofs.Common.{◌≡◌, ℕ, zero, suc, ℤ, pos, ◌+◌, ◌+ℤ◌, ◌==◌, ◌<ℤ◌, ◌≤ℤ◌, List, [], ◌∷◌, drop, map, codes, Bool, true, false, int_lt, length, not, ◌&&◌, ◌||◌, ◌⊎◌, inl, inr, ⊎_elim, Option, Some, None, is_some, refl, sym, ap, ◌∙◌, subst, arith, Decides}
use Rattle.std.specs.Option.{option_or}
use Rattle.std.specs.List.{Contains}
use Rattle.std.proofs.lemmas.Bool.{eqb-true}
use Rattle.std.proofs.lemmas.Bool.Decides.{Decides-or}
use Rattle.serde_json.specs.Data.{Data, string, Members}
use Rattle.jwt_text.specs.Members.{has, text_at, list_at, whole_at}
use Rattle.jwt_text.specs.Rows.{Row, ◌⇒◌, first_row}
use Rattle.jwt_policy.specs.Settings.{Settings}
use Rattle.jwt_policy.specs.Texts.{some_passes, is_among, any_text}
use Rattle.jwt_policy.specs.Checks.{missing, is_expired, is_later, is_not_yet, is_issued_later, is_too_old, later_rows, check_of}
use Rattle.jwt_policy.specs.Laws.{ClaimsHold}
use Rattle.jwt_policy.specs.declared.claim_fault.ClaimFault.TheVariants.{ClaimMissing, Issuer, Audience, Expired, NotYet, IssuedLater, TooOld}
use Rattle.jwt_policy.proofs.RowsLemmas.{first_of_both}
use Rattle.jwt_policy.proofs.TestLemmas.{Fails, fails_not, fails_every, fails_where, decides_some, lt_decides, lt_fails, among_decides, any_text_decides}

-- ---- the rows, one by one

abbrev lacks_iat : Settings → Members → Bool
lacks_iat p ms = is_some p.claims.max_age && not (has (codes "iat") ms)

abbrev is_other_issuer : Settings → Members → Bool
is_other_issuer p ms = not (length p.claims.issuers == 0) && not (some_passes (is_among p.claims.issuers) (text_at (codes "iss") ms))

-- a text of `aud` is among these
abbrev names_audience : List (List ℕ) → Members → Bool
names_audience audiences ms =
    some_passes (is_among audiences) (text_at (codes "aud") ms)
    || some_passes (any_text (is_among audiences)) (list_at (codes "aud") ms)

abbrev is_other_audience : Settings → Members → Bool
is_other_audience p ms = has (codes "aud") ms && not (names_audience p.claims.audiences ms)

abbrev is_before_expiry : ℤ → ℕ → ℤ → Bool
is_before_expiry now leeway exp = int_lt now (exp +ℤ pos leeway)

abbrev is_older : ℤ → ℕ → ℤ → ℕ → Bool
is_older now leeway iat age = int_lt (iat +ℤ pos (age + leeway)) now

-- a text is an audience: it is `aud`, or stands in the list `aud`
abbrev IsAudience : List ℕ → Members → Type 0
IsAudience name ms = (text_at (codes "aud") ms ≡ Some name) ⊎ ((ds : List Data) × (list_at (codes "aud") ms ≡ Some ds) × Contains ds (string name))

-- ---- rows that don't hold

row_none : {A : Type 0} (b : Bool) (a : A) (rs : List (Row A)) → first_row ((b ⇒ a) ∷ rs) ≡ None → (b ≡ false) × (first_row rs ≡ None)
row_none true a rs e = absurd cc
row_none false a rs e = (refl, e)

row_from : {A : Type 0} (b : Bool) (a : A) (rs : List (Row A)) → b ≡ false → first_row rs ≡ None → first_row ((b ⇒ a) ∷ rs) ≡ None
row_from true a rs off e = absurd cc
row_from false a rs off e = e

none_both : {A : Type 0} (a b : Option A) → option_or a b ≡ None → (a ≡ None) × (b ≡ None)
none_both None b e = (refl, e)
none_both (Some x) b e = absurd cc

-- ---- the required claims

is_there : (b : Bool) → not b ≡ false → b ≡ true
is_there true e = refl
is_there false e = absurd cc

there : (ms : Members) (names : List (List ℕ)) → first_row (map (missing ms) names) ≡ None → (name : List ℕ) → Contains names name → has name ms ≡ true
there ms [] e name h = absurd (let lt = h.1 in omega arith)
there ms (n ∷ ns) e name (zero, lt, is) = subst (λ t. has t ms ≡ true) is (is_there (has n ms) (row_none (not (has n ms)) (ClaimMissing n) (map (missing ms) ns) e).0)
there ms (n ∷ ns) e name (suc k, lt, is) = there ms ns (row_none (not (has n ms)) (ClaimMissing n) (map (missing ms) ns) e).1 name (k, omega arith, is)

all_there : (ms : Members) (names : List (List ℕ)) → ((name : List ℕ) → Contains names name → has name ms ≡ true) → first_row (map (missing ms) names) ≡ None
all_there ms [] h = refl
all_there ms (n ∷ ns) h = row_from (not (has n ms)) (ClaimMissing n) (map (missing ms) ns) (ap not (h n (0, omega arith, refl))) (all_there ms ns (λ name at. h name (suc at.0, (let lt = at.1 in omega arith), at.2)))

-- ---- the issuer and the audience

-- a list that has an element isn't empty
not_empty : (n : ℕ) (b : Bool) → (suc n == 0) ≡ b → not b ≡ true
not_empty n true e = absurd (let none : suc n ≡ 0 = eqb-true (suc n) 0 e in omega arith)
not_empty n false e = refl

some_named : (n : ℕ) (b : Bool) → (not (suc n == 0) && b) ≡ b
some_named n b = ap (λ c. c && b) (not_empty n (suc n == 0) refl)

issuer_fails : (issuers : List (List ℕ)) (iss : Option (List ℕ)) → Fails (not (length issuers == 0) && not (some_passes (is_among issuers) iss)) ((issuers ≡ []) ⊎ ((name : List ℕ) × (iss ≡ Some name) × Contains issuers name))
issuer_fails [] iss = (λ _. inl refl, λ _. refl)
issuer_fails (i ∷ is) iss = (λ e. inr (named.0 (sym (some_named (length is) _) ∙ e)), λ h. some_named (length is) _ ∙ ⊎_elim (λ none. absurd cc) named.1 h)
  where
    named : Fails (not (some_passes (is_among (i ∷ is)) iss)) ((name : List ℕ) × (iss ≡ Some name) × Contains (i ∷ is) name)
    named = fails_not (some_passes (is_among (i ∷ is)) iss) (decides_some (is_among (i ∷ is)) iss (λ name. Contains (i ∷ is) name) (among_decides (i ∷ is)))

names_decides : (audiences : List (List ℕ)) (ms : Members) → Decides (names_audience audiences ms) ((name : List ℕ) × IsAudience name ms × Contains audiences name)
names_decides audiences ms = (λ e. ⊎_elim (λ h. (h.0, inl h.1, h.2)) (λ h. (h.2.0, inr (h.0, h.1, h.2.1), h.2.2)) (both.0 e), λ h. both.1 (⊎_elim (λ is. inl (h.0, is, h.2)) (λ l. inr (l.0, l.1, (h.0, l.2, h.2))) h.1))
  where
    both : Decides (names_audience audiences ms) (((name : List ℕ) × (text_at (codes "aud") ms ≡ Some name) × Contains audiences name) ⊎ ((ds : List Data) × (list_at (codes "aud") ms ≡ Some ds) × ((name : List ℕ) × Contains ds (string name) × Contains audiences name)))
    both = Decides-or (some_passes (is_among audiences) (text_at (codes "aud") ms)) (some_passes (any_text (is_among audiences)) (list_at (codes "aud") ms))
        (decides_some (is_among audiences) (text_at (codes "aud") ms) (λ name. Contains audiences name) (among_decides audiences))
        (decides_some (any_text (is_among audiences)) (list_at (codes "aud") ms) (λ ds. (name : List ℕ) × Contains ds (string name) × Contains audiences name) (any_text_decides (is_among audiences) (λ name. Contains audiences name) (among_decides audiences)))

implied_fails : {P : Type 0} (a b : Bool) → Decides b P → Fails (a && not b) (a ≡ true → P)
implied_fails true b d = (λ e _. (fails_not b d).0 e, λ h. (fails_not b d).1 (h refl))
implied_fails false b d = (λ _ e. absurd cc, λ _. refl)

-- ---- the dates

expired : (p : Settings) (ms : Members) (now : ℤ) → Fails (is_expired p ms now) ((exp : ℤ) → whole_at (codes "exp") ms ≡ Some exp → now <ℤ (exp +ℤ pos p.claims.leeway))
unfolding is_expired
expired p ms now = fails_every (λ exp. not (is_before_expiry now p.claims.leeway exp)) (whole_at (codes "exp") ms) (λ exp. now <ℤ (exp +ℤ pos p.claims.leeway)) (λ exp. fails_not (is_before_expiry now p.claims.leeway exp) (lt_decides now (exp +ℤ pos p.claims.leeway)))

not_yet : (p : Settings) (ms : Members) (now : ℤ) → Fails (is_not_yet p ms now) ((nbf : ℤ) → whole_at (codes "nbf") ms ≡ Some nbf → nbf ≤ℤ (now +ℤ pos p.claims.leeway))
unfolding is_not_yet
not_yet p ms now = fails_every (is_later now p.claims.leeway) (whole_at (codes "nbf") ms) (λ nbf. nbf ≤ℤ (now +ℤ pos p.claims.leeway)) (λ nbf. lt_fails (now +ℤ pos p.claims.leeway) nbf)

issued_later : (p : Settings) (ms : Members) (now : ℤ) → Fails (is_issued_later p ms now) ((age : ℕ) (iat : ℤ) → p.claims.max_age ≡ Some age → whole_at (codes "iat") ms ≡ Some iat → iat ≤ℤ (now +ℤ pos p.claims.leeway))
unfolding is_issued_later
issued_later p ms now = (λ e age iat is at. each.0 (where_age.0 e age is) iat at, λ h. where_age.1 (λ age is. each.1 (λ iat at. h age iat is at)))
  where
    where_age : Fails (is_some p.claims.max_age && some_passes (is_later now p.claims.leeway) (whole_at (codes "iat") ms)) ((age : ℕ) → p.claims.max_age ≡ Some age → some_passes (is_later now p.claims.leeway) (whole_at (codes "iat") ms) ≡ false)
    where_age = fails_where p.claims.max_age (some_passes (is_later now p.claims.leeway) (whole_at (codes "iat") ms))

    each : Fails (some_passes (is_later now p.claims.leeway) (whole_at (codes "iat") ms)) ((iat : ℤ) → whole_at (codes "iat") ms ≡ Some iat → iat ≤ℤ (now +ℤ pos p.claims.leeway))
    each = fails_every (is_later now p.claims.leeway) (whole_at (codes "iat") ms) (λ iat. iat ≤ℤ (now +ℤ pos p.claims.leeway)) (λ iat. lt_fails (now +ℤ pos p.claims.leeway) iat)

too_old : (p : Settings) (ms : Members) (now : ℤ) → Fails (is_too_old p ms now) ((age : ℕ) (iat : ℤ) → p.claims.max_age ≡ Some age → whole_at (codes "iat") ms ≡ Some iat → now ≤ℤ (iat +ℤ pos (age + p.claims.leeway)))
unfolding is_too_old
too_old p ms now = (λ e age iat is at. each.0 e iat at age is, λ h. each.1 (λ iat at age is. h age iat is at))
  where
    each : Fails (some_passes (λ iat. some_passes (is_older now p.claims.leeway iat) p.claims.max_age) (whole_at (codes "iat") ms)) ((iat : ℤ) → whole_at (codes "iat") ms ≡ Some iat → (age : ℕ) → p.claims.max_age ≡ Some age → now ≤ℤ (iat +ℤ pos (age + p.claims.leeway)))
    each = fails_every (λ iat. some_passes (is_older now p.claims.leeway iat) p.claims.max_age) (whole_at (codes "iat") ms) (λ iat. (age : ℕ) → p.claims.max_age ≡ Some age → now ≤ℤ (iat +ℤ pos (age + p.claims.leeway)))
        (λ iat. fails_every (is_older now p.claims.leeway iat) p.claims.max_age (λ age. now ≤ℤ (iat +ℤ pos (age + p.claims.leeway))) (λ age. lt_fails (iat +ℤ pos (age + p.claims.leeway)) now))

iat_there : (p : Settings) (ms : Members) → Fails (lacks_iat p ms) ((age : ℕ) → p.claims.max_age ≡ Some age → has (codes "iat") ms ≡ true)
iat_there p ms = (λ e age is. is_there (has (codes "iat") ms) (where_age.0 e age is), λ h. where_age.1 (λ age is. ap not (h age is)))
  where
    where_age : Fails (is_some p.claims.max_age && not (has (codes "iat") ms)) ((age : ℕ) → p.claims.max_age ≡ Some age → not (has (codes "iat") ms) ≡ false)
    where_age = fails_where p.claims.max_age (not (has (codes "iat") ms))

-- ---- the table

other_audience : (p : Settings) (ms : Members) → Fails (is_other_audience p ms) (has (codes "aud") ms ≡ true → (name : List ℕ) × IsAudience name ms × Contains p.claims.audiences name)
other_audience p ms = implied_fails (has (codes "aud") ms) (names_audience p.claims.audiences ms) (names_decides p.claims.audiences ms)

pub claims_hold : (p : Settings) (ms : Members) (now : ℤ) → check_of p ms now ≡ None → ClaimsHold p ms now
unfolding check_of later_rows
claims_hold p ms now e =
    let both = none_both (first_row (map (missing ms) p.claims.required)) (first_row (later_rows p ms now)) (sym (first_of_both (map (missing ms) p.claims.required) (later_rows p ms now)) ∙ e) in
    let r1 = row_none (lacks_iat p ms) (ClaimMissing (codes "iat")) (drop 1 (later_rows p ms now)) both.1 in
    let r2 = row_none (is_other_issuer p ms) Issuer (drop 2 (later_rows p ms now)) r1.1 in
    let r3 = row_none (is_other_audience p ms) Audience (drop 3 (later_rows p ms now)) r2.1 in
    let r4 = row_none (is_expired p ms now) Expired (drop 4 (later_rows p ms now)) r3.1 in
    let r5 = row_none (is_not_yet p ms now) NotYet (drop 5 (later_rows p ms now)) r4.1 in
    let r6 = row_none (is_issued_later p ms now) IssuedLater (drop 6 (later_rows p ms now)) r5.1 in
    let r7 = row_none (is_too_old p ms now) TooOld [] r6.1 in
    record {
      required = there ms p.claims.required both.0;
      issuer = (issuer_fails p.claims.issuers (text_at (codes "iss") ms)).0 r2.0;
      audience = (other_audience p ms).0 r3.0;
      exp = (expired p ms now).0 r4.0;
      nbf = (not_yet p ms now).0 r5.0;
      iat_is_there = (iat_there p ms).0 r1.0;
      iat_least = (issued_later p ms now).0 r6.0;
      iat_most = (too_old p ms now).0 r7.0;
    }

pub holds_unrefused : (p : Settings) (ms : Members) (now : ℤ) → ClaimsHold p ms now → check_of p ms now ≡ None
unfolding check_of later_rows
holds_unrefused p ms now h =
    first_of_both (map (missing ms) p.claims.required) (later_rows p ms now)
    ∙ ap (λ o. option_or o (first_row (later_rows p ms now))) (all_there ms p.claims.required h.required)
    ∙ row_from (lacks_iat p ms) (ClaimMissing (codes "iat")) (drop 1 (later_rows p ms now)) ((iat_there p ms).1 h.iat_is_there)
    (row_from (is_other_issuer p ms) Issuer (drop 2 (later_rows p ms now)) ((issuer_fails p.claims.issuers (text_at (codes "iss") ms)).1 h.issuer)
    (row_from (is_other_audience p ms) Audience (drop 3 (later_rows p ms now)) ((other_audience p ms).1 h.audience)
    (row_from (is_expired p ms now) Expired (drop 4 (later_rows p ms now)) ((expired p ms now).1 h.exp)
    (row_from (is_not_yet p ms now) NotYet (drop 5 (later_rows p ms now)) ((not_yet p ms now).1 h.nbf)
    (row_from (is_issued_later p ms now) IssuedLater (drop 6 (later_rows p ms now)) ((issued_later p ms now).1 h.iat_least)
    (row_from (is_too_old p ms now) TooOld [] ((too_old p ms now).1 h.iat_most) refl))))))
