-- Each refusal is for the first fault that holds.
use Rattle.std.proofs.Common.{◌≡◌, ℕ, ◌+◌, ◌<◌, ◌≤◌, Bool, true, false, List, [], length, Option, Some, None, Result, Ok, Err, arith, refl, sym, ◌∙◌, ap, subst, inl, inr}
use Rattle.std.specs.Prelude.{if◌then◌else◌}
use Rattle.std.specs.Option.{option_map_or}
use Rattle.std.specs.List.{AllZip}
use Rattle.std.proofs.lemmas.Slice.Zip.{AllZip-long}
use Rattle.std.proofs.lemmas.Bool.{cases_Bool, cases_lt, lt-ltb, le-ltb, false≢true}
use Rattle.serde_json.specs.Data.{Members}
use Rattle.jwt_jws.specs.declared.fault.FormFault.{FormFault}
use Rattle.jwt_jws.specs.Token.{Token}
use Rattle.jwt_jws.specs.Forms.{SpelledToken, form_of}
use Rattle.jwt_jws.specs.SignedToken.{IsSpelledToken, IsSignature, ReadsSignedTokens}
use Rattle.jwt_policy.specs.declared.mode.Mode.{Mode}
use Rattle.jwt_policy.specs.declared.mode.Mode.TheVariants.{Any, All}
use Rattle.jwt_policy.specs.declared.sig_fault.SigFault.{SigFault}
use Rattle.jwt_policy.specs.declared.claim_fault.ClaimFault.{ClaimFault}
use Rattle.jwt_policy.specs.ClaimKinds.{claims_of}
use Rattle.jwt_policy.specs.Checks.{check_of}
use Rattle.jwt_verify.specs.declared.tries.End.TheVariants as end
use Rattle.jwt_verify.specs.declared.report.Try.{Try}
use Rattle.jwt_verify.specs.declared.report.InputFault.TheVariants.{Read, TooLong}
use Rattle.jwt_verify.specs.declared.report.Fault.{Fault}
use Rattle.jwt_verify.specs.declared.report.Fault.TheVariants.{OutOfMemory, Text, Form, WorkExceeded, CallsExceeded, VerifierMemory, Signature, Claim}
use Rattle.jwt_verify.specs.declared.report.Verdict.TheVariants.{Refused}
use Rattle.jwt_verify.specs.Table.{Table, below, verified, pairs, tries, paid, stop, ending, is_within}
use Rattle.jwt_verify.specs.Trying.{table_of}
use Rattle.jwt_verify.specs.Verdict.{Terms, Signing, VerifiedBy, Unverified, first_in, key_at, fault_at, unverified, verified_or, signing_in, signing_of, checked, claims_verdict, conclusion, unless_stopped, token_verdict, formed, token_of, decided, verdict_of, table, token_or_none, without_line_feed}
use Rattle.jwt_verify.specs.Accepted.{IsVerifiedBy, IsFirstUnverified}
use Rattle.jwt_verify.proofs.Below.{below-zero}
use Rattle.jwt_verify.proofs.First.{first_here, first_none_at}
use Rattle.jwt_verify.proofs.Signing.{key_none, fault_none}
use Rattle.jwt_verify.proofs.Judged.{unbarred_by, table_of_token, too_long}
use Rattle.jwt_verify.proofs.Accepting.{first_is, none_first, not_verified, verified_none, signing_by_words, stop_done, token_is, is_token}
use Rattle.jwt_verify.proofs.Stepwise.{StopsStepwise, IsClaimFaultStepwise, IsFaultStepwise, RefusesStepwise}

refusal : (f g : Fault) → Refused f ≡ Refused g → f ≡ g
refusal f g h = cc

-- ---- what is no token

form_words : (q : Terms) (x : List ℕ) (w : ℕ) (f : Fault) → length x ≤ q.policy.run.limit → (r : Result Token FormFault)
    → r ≡ form_of q.policy.run.max_signatures (without_line_feed q.policy.run.line_feed x) → formed r ≡ Err f → IsFaultStepwise q x w f
form_words q x w f l (Ok t) e h = cc
form_words q x w f l (Err g) e h = let s : Form g ≡ f = cc in subst (IsFaultStepwise q x w) s (l, sym e)

token_words : (q : Terms) (x : List ℕ) (w : ℕ) (f : Fault) → token_of q.policy x ≡ Err f → IsFaultStepwise q x w f
unfolding token_of
token_words q x w f h = elim (cases_lt q.policy.run.limit (length x)) [
  | inl l ↦ (let e = rw (lt-ltb q.policy.run.limit (length x) l) at h in let s : Text TooLong ≡ f = cc in subst (IsFaultStepwise q x w) s l)
  | inr m ↦ form_words q x w f m (form_of q.policy.run.max_signatures (without_line_feed q.policy.run.line_feed x)) refl (rw (le-ltb q.policy.run.limit (length x) m) at h)
]

-- ---- a token has a signature

zip_some : {X Y : Type 0} (P : X → Y → Type 0) (xs : List X) (ys : List Y) → AllZip P xs ys → 0 < length xs → 0 < length ys
zip_some P xs ys h l = omega (arith, AllZip-long P xs ys h, l)

spelled_some : (most : ℕ) (z : List ℕ) (w : SpelledToken) → IsSpelledToken most z w → 0 < length w.signatures
spelled_some most z w (inl h) = rw h.4 (omega arith)
spelled_some most z w (inr h) = elim h.shape [
  | inl g ↦ g.some
  | inr f ↦ rw f.signature.1 (omega arith)
]

pub some_signature : ReadsSignedTokens → (most : ℕ) (z : List ℕ) (t : Token) → form_of most z ≡ Ok t → 0 < length t.signatures
some_signature reads most z t h =
    let s = (reads most z t).0 h in
    zip_some (IsSignature s.texts.0.form) s.texts.0.signatures t.signatures s.texts.4 (spelled_some most z s.texts.0 s.texts.1)

-- ---- the signatures

any_unverified : (f : Option (ℕ × SigFault)) (v : Option (ℕ × ℕ)) (i : ℕ) (g : SigFault) → verified_or f v ≡ Unverified i g → (v ≡ None) × (unverified f ≡ Unverified i g)
any_unverified f None i g h = (refl, h)
any_unverified f (Some v) i g h = cc

abbrev numbered : ℕ → SigFault → Option (ℕ × SigFault)
numbered i g = Some (i, g)

same_fault : (a i : ℕ) (b g : SigFault) → Unverified a b ≡ Unverified i g → numbered a b ≡ numbered i g
same_fault a i b g h = let x : a ≡ i = cc in let y : b ≡ g = cc in rw (x, y) refl

module _ (t : Table) (barred : (i j : ℕ) → t.eligible i j ≡ true → t.bar i ≡ None) (some : 0 < t.signatures) where
  -- none has a key, or none has a fault, but not both
  not_both : first_in (key_at t) (below t.signatures) ≡ None → first_in (fault_at t) (below t.signatures) ≡ None → ⊥
  not_both v f = false≢true (sym (key_none t 0 (first_none_at (key_at t) t.signatures 0 some v)) ∙ fault_none t 0 (first_none_at (fault_at t) t.signatures 0 some f))

  unverified_any : (i : ℕ) (g : SigFault) → first_in (key_at t) (below t.signatures) ≡ None → (f : Option (ℕ × SigFault)) → f ≡ first_in (fault_at t) (below t.signatures) → unverified f ≡ Unverified i g
      → IsFirstUnverified Any t i × (fault_at t i ≡ Some g)
  unverified_any i g none None e h = absurd (not_both none (sym e))
  unverified_any i g none (Some p) e h =
      let r = first_is (fault_at t) t.signatures i g (sym e ∙ same_fault p.0 i p.1 g h) in
      let each : (k : ℕ) → k < t.signatures → verified t k ≡ false = λ k l. key_none t k (first_none_at (key_at t) t.signatures k l none) in
      let first : i ≡ 0 = elim (cases_lt 0 i) [
        | inl l ↦ absurd (false≢true (sym (each 0 some) ∙ fault_none t 0 (r.2 0 l)))
        | inr l ↦ omega (arith, l)
      ] in
      ((first, each), r.1)

  unverified_all : (i : ℕ) (g : SigFault) (f : Option (ℕ × SigFault)) → f ≡ first_in (fault_at t) (below t.signatures) → signing_in All (first_in (key_at t) (below t.signatures)) f ≡ Unverified i g
      → IsFirstUnverified All t i × (fault_at t i ≡ Some g)
  unverified_all i g None e h = let a = any_unverified None (first_in (key_at t) (below t.signatures)) i g h in absurd (not_both a.0 (sym e))
  unverified_all i g (Some p) e h =
      let r = first_is (fault_at t) t.signatures i g (sym e ∙ same_fault p.0 i p.1 g h) in
      let not : verified t i ≡ false = elim (cases_Bool (verified t i)) [
        | inl y ↦ (let z = sym (verified_none t i (barred i) y) ∙ r.1 in cc)
        | inr n ↦ n
      ] in
      ((r.0, not, λ k l. fault_none t k (r.2 k l)), r.1)

  unverified_mode : (m : Mode) (i : ℕ) (g : SigFault) → signing_in m (first_in (key_at t) (below t.signatures)) (first_in (fault_at t) (below t.signatures)) ≡ Unverified i g
      → IsFirstUnverified m t i × (fault_at t i ≡ Some g)
  unverified_mode Any i g h =
      let a = any_unverified (first_in (fault_at t) (below t.signatures)) (first_in (key_at t) (below t.signatures)) i g h in
      unverified_any i g a.0 (first_in (fault_at t) (below t.signatures)) refl a.1
  unverified_mode All i g h = unverified_all i g (first_in (fault_at t) (below t.signatures)) refl h

  unverified_words : (i : ℕ) (g : SigFault) → signing_of t ≡ Unverified i g → IsFirstUnverified t.mode t i × (fault_at t i ≡ Some g)
  unfolding signing_of
  unverified_words i g h = unverified_mode t.mode i g h

-- ---- a token

claim_words : (q : Terms) (payload : List ℕ) (i j : ℕ) (f : Fault) (r : Result Members ClaimFault) → r ≡ claims_of payload → claims_verdict q.policy q.now i j r ≡ Refused f
    → (g : ClaimFault) × (Claim g ≡ f) × IsClaimFaultStepwise q payload g
claim_words q payload i j f (Err g) e h = (g, refusal (Claim g) f h, inl (sym e))
claim_words q payload i j f (Ok claims) e h = go (check_of q.policy claims q.now) refl h
  where
    go : (o : Option ClaimFault) → o ≡ check_of q.policy claims q.now → checked i j claims o ≡ Refused f → (g : ClaimFault) × (Claim g ≡ f) × IsClaimFaultStepwise q payload g
    go None e2 h = cc
    go (Some g) e2 h = (g, refusal (Claim g) f h, inr (claims, sym e, sym e2))

module _ (q : Terms) (x : List ℕ) (w : ℕ) (f : Fault) (t : Token) (here : token_of q.policy x ≡ Ok t) (some : 0 < length t.signatures) where
  abbrev T : Table
  T = table_of q.policy q.verifiers q.keys t

  same : T ≡ table q x
  same = table_of_token q x t here

  signing_words : (s : Signing) → s ≡ signing_of T → stop T w q.policy.max_calls ≡ None → conclusion q.policy q.now t.payload s ≡ Refused f → IsFaultStepwise q x w f
  signing_words (VerifiedBy i j) e none h =
      let c = claim_words q t.payload i j f (claims_of t.payload) refl h in
      let by : IsVerifiedBy T i j = (signing_by_words T (unbarred_by q.policy q.verifiers q.keys t) i j).0 (sym e) in
      subst (IsFaultStepwise q x w) c.1 (
        t,
        token_is q x t here,
        subst (λ t. stop t w q.policy.max_calls ≡ None) same none,
        (i, j, subst (λ t. IsVerifiedBy t i j) same by),
        c.2,
      )
  signing_words (Unverified i g) e none h =
      let u = unverified_words T (unbarred_by q.policy q.verifiers q.keys t) some i g (sym e) in
      subst (IsFaultStepwise q x w) (refusal (Signature i g) f h) (
        t,
        token_is q x t here,
        subst (λ t. stop t w q.policy.max_calls ≡ None) same none,
        subst (λ t. IsFirstUnverified q.policy.run.mode t i) same u.0,
        subst (λ t. fault_at t i ≡ Some g) same u.1,
      )

  stop_words : (o : Option Try) → o ≡ stop T w q.policy.max_calls → (b : Bool) → b ≡ is_within q.policy.max_calls (length (paid T w q.policy.max_calls) + 1)
      → unless_stopped (option_map_or (λ e. if b then end.WorkExceeded e.signature e.key else end.CallsExceeded e.signature e.key) o end.Done) (conclusion q.policy q.now t.payload (signing_of T)) ≡ Refused f
      → IsFaultStepwise q x w f
  stop_words None e b k h = signing_words (signing_of T) refl (sym e) h
  stop_words (Some s) e true k h = subst (IsFaultStepwise q x w) (refusal (WorkExceeded s.signature s.key) f h)
      ((s, subst (λ t. stop t w q.policy.max_calls ≡ Some s) same (sym e), refl, refl), subst (λ t. is_within q.policy.max_calls (length (paid t w q.policy.max_calls) + 1) ≡ true) same (sym k))
  stop_words (Some s) e false k h = subst (IsFaultStepwise q x w) (refusal (CallsExceeded s.signature s.key) f h)
      ((s, subst (λ t. stop t w q.policy.max_calls ≡ Some s) same (sym e), refl, refl), subst (λ t. is_within q.policy.max_calls (length (paid t w q.policy.max_calls) + 1) ≡ false) same (sym k))

fault_words : ReadsSignedTokens → (q : Terms) (x : List ℕ) (w : ℕ) (f : Fault) → verdict_of q x w ≡ Refused f → IsFaultStepwise q x w f
unfolding verdict_of token_verdict
fault_words reads q x w f h = go (token_of q.policy x) refl h
  where
    go : (r : Result Token Fault) → r ≡ token_of q.policy x → decided q w r ≡ Refused f → IsFaultStepwise q x w f
    go (Err g) e h = token_words q x w f (sym e ∙ ap Err (refusal g f h))
    go (Ok t) e h =
        let T = table_of q.policy q.verifiers q.keys t in
        stop_words q x w f t (sym e) (some_signature reads q.policy.run.max_signatures (without_line_feed q.policy.run.line_feed x) t (token_is q x t (sym e)).1)
        (stop T w q.policy.max_calls) refl (is_within q.policy.max_calls (length (paid T w q.policy.max_calls) + 1)) refl h

-- ---- the other way: a fault that holds in words is the refusal

no_tries : (t : Table) → t.signatures ≡ 0 → tries t ≡ []
unfolding tries pairs
no_tries t h = rw (h, below-zero) refl

pub no_stop : (t : Table) (w : ℕ) (calls : Option ℕ) → t.signatures ≡ 0 → stop t w calls ≡ None
unfolding stop
no_stop t w calls h = rw (no_tries t h) refl

-- a run that stops is that of a token
pub stops_token : (q : Terms) (x : List ℕ) (w : ℕ) (e : Try) → stop (table q x) w q.policy.max_calls ≡ Some e → (t : Token) × (token_of q.policy x ≡ Ok t)
unfolding table
stops_token q x w e h = go (token_of q.policy x) refl
  where
    go : (r : Result Token Fault) → r ≡ token_of q.policy x → (t : Token) × (token_of q.policy x ≡ Ok t)
    go (Ok t) is = (t, sym is)
    go (Err f) is =
        let none = no_stop (table q x) w q.policy.max_calls (ap (λ r. (table_of q.policy q.verifiers q.keys (token_or_none r)).signatures) (sym is)) in
        let never = sym none ∙ h in
        cc

pub verdict_token : (q : Terms) (x : List ℕ) (w : ℕ) (t : Token) → token_of q.policy x ≡ Ok t
    → verdict_of q x w ≡ unless_stopped (ending (table q x) w q.policy.max_calls) (conclusion q.policy q.now t.payload (signing_of (table q x)))
unfolding verdict_of token_verdict
verdict_token q x w t here =
    ap (decided q w) here ∙ ap (λ t2. unless_stopped (ending t2 w q.policy.max_calls) (conclusion q.policy q.now t.payload (signing_of t2))) (table_of_token q x t here)

verdict_unstopped : (q : Terms) (x : List ℕ) (w : ℕ) (t : Token) (s : Signing) → token_of q.policy x ≡ Ok t → stop (table q x) w q.policy.max_calls ≡ None
    → signing_of (table q x) ≡ s → verdict_of q x w ≡ conclusion q.policy q.now t.payload s
verdict_unstopped q x w t s here none signing =
    verdict_token q x w t here
    ∙ ap (λ r. unless_stopped r (conclusion q.policy q.now t.payload (signing_of (table q x)))) (stop_done (table q x) w q.policy.max_calls none)
    ∙ ap (conclusion q.policy q.now t.payload) signing

ending_work : (t : Table) (w : ℕ) (calls : Option ℕ) (i j : ℕ) → StopsStepwise t w calls i j → is_within calls (length (paid t w calls) + 1) ≡ true → ending t w calls ≡ end.WorkExceeded i j
ending_work t w calls i j s y = rw (s.1, y) (rw (s.2, s.3) refl)

ending_calls : (t : Table) (w : ℕ) (calls : Option ℕ) (i j : ℕ) → StopsStepwise t w calls i j → is_within calls (length (paid t w calls) + 1) ≡ false → ending t w calls ≡ end.CallsExceeded i j
ending_calls t w calls i j s n = rw (s.1, n) (rw (s.2, s.3) refl)

module _ (t : Table) (barred : (i j : ℕ) → t.eligible i j ≡ true → t.bar i ≡ None) (some : 0 < t.signatures) where
  unverified_by : (m : Mode) (i : ℕ) (g : SigFault) → IsFirstUnverified m t i → fault_at t i ≡ Some g
      → signing_in m (first_in (key_at t) (below t.signatures)) (first_in (fault_at t) (below t.signatures)) ≡ Unverified i g
  unverified_by Any i g h is = rw (
    none_first (key_at t) t.signatures (λ k l. not_verified t k (h.1 k l)),
    first_here (fault_at t) i t.signatures g is (none_first (fault_at t) i (λ k l. absurd (omega (arith, l, h.0)))) (omega (arith, h.0, some)),
  ) refl
  unverified_by All i g h is = rw (first_here (fault_at t) i t.signatures g is (none_first (fault_at t) i (λ k l. verified_none t k (barred k) (h.2 k l))) h.0) refl

  unverified_is : (i : ℕ) (g : SigFault) → IsFirstUnverified t.mode t i → fault_at t i ≡ Some g → signing_of t ≡ Unverified i g
  unfolding signing_of
  unverified_is i g h is = unverified_by t.mode i g h is

claim_fault_is : (q : Terms) (payload : List ℕ) (i j : ℕ) (f : ClaimFault) → IsClaimFaultStepwise q payload f → claims_verdict q.policy q.now i j (claims_of payload) ≡ Refused (Claim f)
claim_fault_is q payload i j f (inl e) = ap (claims_verdict q.policy q.now i j) e
claim_fault_is q payload i j f (inr c) = ap (claims_verdict q.policy q.now i j) c.1 ∙ ap (checked i j c.0) c.2

form_is : (q : Terms) (x : List ℕ) (f : FormFault) → length x ≤ q.policy.run.limit → form_of q.policy.run.max_signatures (without_line_feed q.policy.run.line_feed x) ≡ Err f
    → token_of q.policy x ≡ Err (Form f)
unfolding token_of
form_is q x f l e = rw (le-ltb q.policy.run.limit (length x) l, e) refl

of_none : (q : Terms) (x : List ℕ) (w : ℕ) (f : Fault) → token_of q.policy x ≡ Err f → verdict_of q x w ≡ Refused f
unfolding verdict_of
of_none q x w f e = ap (decided q w) e

words_fault : ReadsSignedTokens → (q : Terms) (x : List ℕ) (w : ℕ) (f : Fault) → IsFaultStepwise q x w f → verdict_of q x w ≡ Refused f
words_fault reads q x w (Text TooLong) l = of_none q x w (Text TooLong) (too_long q.policy x l)
words_fault reads q x w (Text Read) h = absurd h
words_fault reads q x w OutOfMemory h = absurd h
words_fault reads q x w VerifierMemory h = absurd h
words_fault reads q x w (Form f) h = of_none q x w (Form f) (form_is q x f h.0 h.1)
words_fault reads q x w (WorkExceeded i j) (s, y) =
    let t = stops_token q x w s.0 s.1 in
    verdict_token q x w t.0 t.1 ∙ ap (λ r. unless_stopped r (conclusion q.policy q.now t.0.payload (signing_of (table q x)))) (ending_work (table q x) w q.policy.max_calls i j s y)
words_fault reads q x w (CallsExceeded i j) (s, n) =
    let t = stops_token q x w s.0 s.1 in
    verdict_token q x w t.0 t.1 ∙ ap (λ r. unless_stopped r (conclusion q.policy q.now t.0.payload (signing_of (table q x)))) (ending_calls (table q x) w q.policy.max_calls i j s n)
words_fault reads q x w (Signature i f) (t, is, none, first, fault) =
    let here = is_token q x t is in
    let same = table_of_token q x t here in
    let some = some_signature reads q.policy.run.max_signatures (without_line_feed q.policy.run.line_feed x) t is.1 in
    let by : signing_of (table q x) ≡ Unverified i f = subst (λ t2. signing_of t2 ≡ Unverified i f) same (
    unverified_is (table_of q.policy q.verifiers q.keys t) (unbarred_by q.policy q.verifiers q.keys t) some i f
    (subst (λ t2. IsFirstUnverified q.policy.run.mode t2 i) (sym same) first) (subst (λ t2. fault_at t2 i ≡ Some f) (sym same) fault)
    ) in
    verdict_unstopped q x w t (Unverified i f) here none by
words_fault reads q x w (Claim f) (t, is, none, (i, j, verified_by), fault) =
    let here = is_token q x t is in
    let same = table_of_token q x t here in
    let by : signing_of (table q x) ≡ VerifiedBy i j = subst (λ t2. signing_of t2 ≡ VerifiedBy i j) same (
    (signing_by_words (table_of q.policy q.verifiers q.keys t) (unbarred_by q.policy q.verifiers q.keys t) i j).1 (subst (λ t2. IsVerifiedBy t2 i j) (sym same) verified_by)
    ) in
    verdict_unstopped q x w t (VerifiedBy i j) here none by ∙ claim_fault_is q t.payload i j f fault

pub refuses_exactly_holds : ReadsSignedTokens → RefusesStepwise
refuses_exactly_holds reads q x w f = (fault_words reads q x w f, words_fault reads q x w f)
