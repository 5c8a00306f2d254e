-- The verdict is an acceptance exactly where the token is accepted.
use Rattle.std.proofs.Common.{◌≡◌, ℕ, ℤ, zero, suc, ◌+◌, ◌-◌, ◌<◌, Bool, true, false, List, length, Option, Some, None, Result, Ok, Err, arith, add-one, refl, sym, ◌∙◌, ap, subst, inl, inr}
use Rattle.std.specs.Prelude.{◌↔◌, ◌&&◌}
use Rattle.std.specs.Option.{option_map_or}
use Rattle.std.specs.List.{list_any, find}
use Rattle.std.proofs.lemmas.Bool.{cases_Bool, cases_lt, lt-ltb, le-ltb, false≢true}
use Rattle.serde_json.specs.Data.{Members}
use Rattle.jwt_jws.specs.declared.fault.FormFault.{FormFault}
use Rattle.jwt_jws.specs.Token.{Token}
use Rattle.jwt_jws.specs.Forms.{form_of}
use Rattle.jwt_policy.specs.declared.mode.Mode.{Mode}
use Rattle.jwt_policy.specs.declared.mode.Mode.TheVariants.{Any, All}
use Rattle.jwt_policy.specs.declared.sig_fault.SigFault.{SigFault}
use Rattle.jwt_policy.specs.declared.claim_fault.ClaimFault.{ClaimFault}
use Rattle.jwt_policy.specs.Settings.{Settings}
use Rattle.jwt_policy.specs.ClaimKinds.{claims_of}
use Rattle.jwt_policy.specs.Checks.{check_of}
use Rattle.jwt_verify.specs.declared.tries.End.{End}
use Rattle.jwt_verify.specs.declared.tries.End.TheVariants as end
use Rattle.jwt_verify.specs.declared.report.Fault.{Fault}
use Rattle.jwt_verify.specs.declared.report.Verdict.{Verdict}
use Rattle.jwt_verify.specs.declared.report.Verdict.TheVariants.{Accepted}
use Rattle.jwt_verify.specs.Table.{Table, below, verifies, verified, outcome, stop, ending}
use Rattle.jwt_verify.specs.Trying.{table_of}
use Rattle.jwt_verify.specs.Verdict.{Terms, Signing, VerifiedBy, Unverified, first_in, key_at, fault_at, unverified, verified_or, signing_in, signing_of, checked, claims_verdict, conclusion, unless_stopped, token_verdict, formed, token_of, decided, verdict_of, table, without_line_feed}
use Rattle.jwt_verify.specs.Accepted.{IsLeastKey, Counts, IsVerifiedBy}
use Rattle.jwt_verify.proofs.First.{first_zero, first_here, first_more, first_none_at, first-below, or_else}
use Rattle.jwt_verify.proofs.Walking.{find-below}
use Rattle.jwt_verify.proofs.Least.{least_found}
use Rattle.jwt_verify.proofs.Signing.{none_below, found_any, key_none, fault_none}
use Rattle.jwt_verify.proofs.Judged.{unbarred_by, done_stop, table_of_token}
use Rattle.jwt_verify.proofs.Stepwise.{IsReadToken, IsAcceptedStepwise, AcceptsStepwise}

-- ---- the least number that passes, and the first that has an answer

pub any_true : (p : ℕ → Bool) (n k : ℕ) → k < n → p k ≡ true → list_any p (below n) ≡ true
any_true p n k l y = elim (cases_Bool (list_any p (below k))) [
  | inl t ↦ (let q = least_found p k t in let e : (q.0 + 1) + (n - (q.0 + 1)) ≡ n = omega (arith, q.1, l) in found_any p (below n) q.0 (ap (λ m. find p (below m)) (sym e) ∙ find-below p q.0 (n - (q.0 + 1)) q.3 q.2))
  | inr f ↦ (let e : (k + 1) + (n - (k + 1)) ≡ n = omega (arith, l) in found_any p (below n) k (ap (λ m. find p (below m)) (sym e) ∙ find-below p k (n - (k + 1)) f y))
]

pub any_at : (p : ℕ → Bool) (n k : ℕ) → list_any p (below n) ≡ false → k < n → p k ≡ false
any_at p n k h l = elim (cases_Bool (p k)) [
  | inl y ↦ absurd (false≢true (sym h ∙ any_true p n k l y))
  | inr f ↦ f
]

pub find_least : (p : ℕ → Bool) (n j : ℕ) → j < n → p j ≡ true → ((k : ℕ) → k < j → p k ≡ false) → find p (below n) ≡ Some j
find_least p n j l y h = let e : (j + 1) + (n - (j + 1)) ≡ n = omega (arith, l) in ap (λ m. find p (below m)) (sym e) ∙ find-below p j (n - (j + 1)) (none_below p j h) y

pub least_find : (p : ℕ → Bool) (n j : ℕ) → find p (below n) ≡ Some j → (j < n) × (p j ≡ true) × ((k : ℕ) → k < j → p k ≡ false)
least_find p n j h =
    let q = least_found p n (found_any p (below n) j h) in
    let before = any_at p q.0 in
    let e : Some q.0 ≡ Some j = sym (find_least p n q.0 q.1 q.2 (λ k l. before k q.3 l)) ∙ h in
    let s : q.0 ≡ j = cc in
    subst (λ m. (m < n) × (p m ≡ true) × ((k : ℕ) → k < m → p k ≡ false)) s (q.1, q.2, λ k l. before k q.3 l)

pub none_first : {A : Type 0} (f : ℕ → Option A) (n : ℕ) → ((k : ℕ) → k < n → f k ≡ None) → first_in f (below n) ≡ None
none_first f zero h = first_zero f
none_first f (suc n) h = rw (sym (add-one n)) (first_more f n (h n (omega arith)) (none_first f n (λ k l. h k (omega arith))))

abbrev pair : ℕ → ℕ → Option (ℕ × ℕ)
pair i j = Some (i, j)

abbrev numbered : {A : Type 0} → ℕ → A → Option (ℕ × A)
numbered n a = Some (n, a)

parts_of : {A : Type 0} (n i : ℕ) (b a : A) → numbered n b ≡ numbered i a → (n ≡ i) × (b ≡ a)
parts_of n i b a h = (ap (λ o. option_map_or (λ p. p.0) o n) h, ap (λ o. option_map_or (λ p. p.1) o b) h)

pub first_is : {A : Type 0} (f : ℕ → Option A) (n i : ℕ) (a : A) → first_in f (below n) ≡ Some (i, a) → (i < n) × (f i ≡ Some a) × ((k : ℕ) → k < i → f k ≡ None)
first_is f zero i a h = let z = sym (first_zero f) ∙ h in cc
first_is {A} f (suc n) i a h =
    let e = rw (sym (add-one n)) at h in
    let ih = first_is f n i a in
    go (first_in f (below n)) refl (f n) refl (sym (first-below f n) ∙ e) ih
  where
    go : (o : Option (ℕ × A)) → o ≡ first_in f (below n) → (q : Option A) → q ≡ f n → or_else o (option_map_or (λ a. Some (n, a)) q None) ≡ Some (i, a)
        → (first_in f (below n) ≡ Some (i, a) → (i < n) × (f i ≡ Some a) × ((k : ℕ) → k < i → f k ≡ None)) → (i < suc n) × (f i ≡ Some a) × ((k : ℕ) → k < i → f k ≡ None)
    go (Some p) e q u h ih = let r = ih (sym e ∙ h) in (omega (arith, r.0), r.1, r.2)
    go None e None u h ih = cc
    go None e (Some b) u h ih =
        let r = parts_of n i b a h in
        subst (λ m. (m < suc n) × (f m ≡ Some a) × ((k : ℕ) → k < m → f k ≡ None)) r.0 (omega arith, sym u ∙ ap Some r.1, λ k l. first_none_at f n k l (sym e))

-- ---- the signatures

pub not_verified : (t : Table) (i : ℕ) → verified t i ≡ false → key_at t i ≡ None
unfolding verified
not_verified t i h = find_none_of (verifies t i) (below t.keys) h
  where
    find_none_of : (p : ℕ → Bool) (xs : List ℕ) → list_any p xs ≡ false → find p xs ≡ None
    find_none_of p xs h = go (find p xs) refl
      where
        go : (o : Option ℕ) → o ≡ find p xs → find p xs ≡ None
        go None e = sym e
        go (Some j) e = absurd (false≢true (sym h ∙ found_any p xs j (sym e)))

pub verified_key : (t : Table) (i j : ℕ) → key_at t i ≡ Some j → verified t i ≡ true
unfolding verified
verified_key t i j h = found_any (verifies t i) (below t.keys) j h

pub verified_none : (t : Table) (i : ℕ) → ((j : ℕ) → t.eligible i j ≡ true → t.bar i ≡ None) → verified t i ≡ true → fault_at t i ≡ None
unfolding verified outcome verifies
verified_none t i barred v =
    let l = least_found (verifies t i) t.keys v in
    let both = and_left (t.eligible i l.0) (t.valid i l.0) l.2 in
    let free : t.bar i ≡ None = barred l.0 both in
    let found : find (verifies t i) (below t.keys) ≡ Some l.0 = find_least (verifies t i) t.keys l.0 l.1 l.2 (λ k m. any_at (verifies t i) l.0 k l.3 m) in
    rw (free, found) refl
  where
    and_left : (a b : Bool) → (a && b) ≡ true → a ≡ true
    and_left true b h = refl
    and_left false b h = cc

unverified_not : (f : Option (ℕ × SigFault)) (i j : ℕ) → unverified f ≡ VerifiedBy i j → ⊥
unverified_not None i j h = cc
unverified_not (Some f) i j h = cc

verified_is : (f : Option (ℕ × SigFault)) (v : Option (ℕ × ℕ)) (i j : ℕ) → verified_or f v ≡ VerifiedBy i j → v ≡ pair i j
verified_is f None i j h = absurd (unverified_not f i j h)
verified_is f (Some v) i j h = same v.0 v.1 h
  where
    same : (a b : ℕ) → VerifiedBy a b ≡ VerifiedBy i j → pair a b ≡ pair i j
    same a b h = let x : a ≡ i = cc in let y : b ≡ j = cc in rw (x, y) refl

all_is : (v : Option (ℕ × ℕ)) (f : Option (ℕ × SigFault)) (i j : ℕ) → signing_in All v f ≡ VerifiedBy i j → (f ≡ None) × (v ≡ pair i j)
all_is v (Some f) i j h = cc
all_is v None i j h = (refl, verified_is None v i j h)

module _ (t : Table) (barred : (i j : ℕ) → t.eligible i j ≡ true → t.bar i ≡ None) where
  by_mode : (m : Mode) (i j : ℕ) → signing_in m (first_in (key_at t) (below t.signatures)) (first_in (fault_at t) (below t.signatures)) ≡ VerifiedBy i j
      → (i < t.signatures) × Counts m t i × IsLeastKey t i j
  by_mode Any i j h =
      let r = first_is (key_at t) t.signatures i j (verified_is _ _ i j h) in
      (r.0, λ k l. key_none t k (r.2 k l), least_find (verifies t i) t.keys j r.1)
  by_mode All i j h =
      let both = all_is _ _ i j h in
      let r = first_is (key_at t) t.signatures i j both.1 in
      let each : (k : ℕ) → k < t.signatures → verified t k ≡ true = λ k l. fault_none t k (first_none_at (fault_at t) t.signatures k l both.0) in
      let first : i ≡ 0 = elim (cases_lt 0 i) [
        | inl l ↦ absurd (false≢true (sym (key_none t 0 (r.2 0 l)) ∙ each 0 (omega (arith, r.0))))
        | inr l ↦ omega (arith, l)
      ] in
      (r.0, (first, each), least_find (verifies t i) t.keys j r.1)

  to_mode : (m : Mode) (i j : ℕ) → i < t.signatures → Counts m t i → IsLeastKey t i j
      → signing_in m (first_in (key_at t) (below t.signatures)) (first_in (fault_at t) (below t.signatures)) ≡ VerifiedBy i j
  to_mode Any i j l c k =
      let key : key_at t i ≡ Some j = find_least (verifies t i) t.keys j k.0 k.1 k.2 in
      rw (first_here (key_at t) i t.signatures j key (none_first (key_at t) i (λ n m. not_verified t n (c n m))) l) refl
  to_mode All i j l c k =
      let key : key_at t i ≡ Some j = find_least (verifies t i) t.keys j k.0 k.1 k.2 in
      let none : (n : ℕ) → n < i → key_at t n ≡ None = λ n m. absurd (omega (arith, m, c.0)) in
      rw (
        none_first (fault_at t) t.signatures (λ n m. verified_none t n (barred n) (c.1 n m)),
        first_here (key_at t) i t.signatures j key (none_first (key_at t) i none) l,
      ) refl

  pub signing_by_words : (i j : ℕ) → (signing_of t ≡ VerifiedBy i j) ↔ IsVerifiedBy t i j
  unfolding signing_of
  signing_by_words i j = (λ h. by_mode t.mode i j h, λ h. to_mode t.mode i j h.0 h.1 h.2)

-- ---- the claims

checked_is : (i j a b : ℕ) (ms claims : Members) (o : Option ClaimFault) → checked a b ms o ≡ Accepted i j claims → (a ≡ i) × (b ≡ j) × (ms ≡ claims) × (o ≡ None)
checked_is i j a b ms claims (Some f) h = cc
checked_is i j a b ms claims None h = let x : a ≡ i = cc in let y : b ≡ j = cc in let z : ms ≡ claims = cc in (x, y, z, refl)

claimed_is : (p : Settings) (now : ℤ) (i j a b : ℕ) (claims : Members) (r : Result Members ClaimFault) → claims_verdict p now a b r ≡ Accepted i j claims
    → (a ≡ i) × (b ≡ j) × (r ≡ Ok claims) × (check_of p claims now ≡ None)
claimed_is p now i j a b claims (Err f) h = cc
claimed_is p now i j a b claims (Ok ms) h =
    let q = checked_is i j a b ms claims (check_of p ms now) h in
    (q.0, q.1, ap Ok q.2, ap (λ ms. check_of p ms now) (sym q.2) ∙ q.3)

concluded_is : (p : Settings) (now : ℤ) (payload : List ℕ) (i j : ℕ) (claims : Members) (s : Signing) → conclusion p now payload s ≡ Accepted i j claims
    → (s ≡ VerifiedBy i j) × (claims_of payload ≡ Ok claims) × (check_of p claims now ≡ None)
concluded_is p now payload i j claims (Unverified a f) h = cc
concluded_is p now payload i j claims (VerifiedBy a b) h =
    let q = claimed_is p now i j a b claims (claims_of payload) h in
    (rw (q.0, q.1) refl, q.2, q.3)

ended_is : (r : End) (v : Verdict) (i j : ℕ) (claims : Members) → unless_stopped r v ≡ Accepted i j claims → (r ≡ end.Done) × (v ≡ Accepted i j claims)
ended_is end.Done v i j claims h = (refl, h)
ended_is (end.WorkExceeded a b) v i j claims h = cc
ended_is (end.CallsExceeded a b) v i j claims h = cc
ended_is (end.VerifierMemory a b) v i j claims h = cc

pub stop_done : (t : Table) (w : ℕ) (calls : Option ℕ) → stop t w calls ≡ None → ending t w calls ≡ end.Done
stop_done t w calls h = rw h refl

-- ---- the token

formed_is : (r : Result Token FormFault) (t : Token) → formed r ≡ Ok t → r ≡ Ok t
formed_is (Err f) t h = cc
formed_is (Ok s) t h = let e : s ≡ t = cc in ap Ok e

pub token_is : (q : Terms) (x : List ℕ) (t : Token) → token_of q.policy x ≡ Ok t → IsReadToken q x t
unfolding token_of
token_is q x t h = elim (cases_lt q.policy.run.limit (length x)) [
  | inl l ↦ (let e = rw (lt-ltb q.policy.run.limit (length x) l) at h in cc)
  | inr m ↦ (let e = rw (le-ltb q.policy.run.limit (length x) m) at h in (m, formed_is (form_of q.policy.run.max_signatures (without_line_feed q.policy.run.line_feed x)) t e))
]

pub is_token : (q : Terms) (x : List ℕ) (t : Token) → IsReadToken q x t → token_of q.policy x ≡ Ok t
unfolding token_of
is_token q x t h = rw (le-ltb q.policy.run.limit (length x) h.0, h.1) refl

-- ---- the whole

accepted_words : (q : Terms) (x : List ℕ) (w i j : ℕ) (claims : Members) (r : Result Token Fault) → r ≡ token_of q.policy x → decided q w r ≡ Accepted i j claims → IsAcceptedStepwise q x w i j claims
unfolding token_verdict
accepted_words q x w i j claims (Err f) e h = cc
accepted_words q x w i j claims (Ok t) e h =
    let T = table_of q.policy q.verifiers q.keys t in
    let same : T ≡ table q x = table_of_token q x t (sym e) in
    let a = ended_is (ending T w q.policy.max_calls) (conclusion q.policy q.now t.payload (signing_of T)) i j claims h in
    let b = concluded_is q.policy q.now t.payload i j claims (signing_of T) a.1 in
    record {
      token = t;
      signed = token_is q x t (sym e);
      unstopped = subst (λ t. stop t w q.policy.max_calls ≡ None) same (done_stop T w q.policy.max_calls (sym a.0));
      verified_by = subst (λ t. IsVerifiedBy t i j) same ((signing_by_words T (unbarred_by q.policy q.verifiers q.keys t) i j).0 b.0);
      read = b.1;
      hold = b.2;
    }

words_accepted : (q : Terms) (x : List ℕ) (w i j : ℕ) (claims : Members) → IsAcceptedStepwise q x w i j claims → verdict_of q x w ≡ Accepted i j claims
unfolding verdict_of token_verdict
words_accepted q x w i j claims a =
    let t = a.token in
    let T = table_of q.policy q.verifiers q.keys t in
    let e : token_of q.policy x ≡ Ok t = is_token q x t a.signed in
    let same : table q x ≡ T = sym (table_of_token q x t e) in
    let none : stop T w q.policy.max_calls ≡ None = subst (λ t. stop t w q.policy.max_calls ≡ None) same a.unstopped in
    let by : signing_of T ≡ VerifiedBy i j = (signing_by_words T (unbarred_by q.policy q.verifiers q.keys t) i j).1 (subst (λ t. IsVerifiedBy t i j) same a.verified_by) in
    ap (decided q w) e ∙ ap (λ r. unless_stopped r (conclusion q.policy q.now t.payload (signing_of T))) (stop_done T w q.policy.max_calls none)
    ∙ ap (conclusion q.policy q.now t.payload) by ∙ ap (claims_verdict q.policy q.now i j) a.read ∙ ap (checked i j claims) a.hold

pub accepts_exactly_holds : AcceptsStepwise
unfolding verdict_of
accepts_exactly_holds q x w i j claims = (λ h. accepted_words q x w i j claims (token_of q.policy x) refl h, λ h. words_accepted q x w i j claims h)
