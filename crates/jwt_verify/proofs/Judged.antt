-- From a run to the verdict and what is reported of it.
use Rattle.std.proofs.Common.{◌≡◌, ◌≢◌, ℕ, ℤ, zero, suc, ◌+◌, ◌*◌, ◌<◌, ◌≤◌, ◌^◌, Bool, true, false, List, [], ◌++◌, length, take, Option, Some, None, Result, Ok, Err, arith, refl, sym, ◌∙◌, ap, subst, inl, inr, ◌⊎◌}
use Rattle.std.specs.Prelude.{slice_get, nat_lt, if◌then◌else◌}
use Rattle.std.specs.Option.{option_map_or, option_and_then}
use Rattle.std.specs.List.{prefix_len, range_with_len}
use Rattle.std.proofs.Math.Nat.{mul-le-mul_right}
use Rattle.std.proofs.lemmas.Bool.{lt-ltb}
use Rattle.std.proofs.lemmas.List.{length-take-le}
use Rattle.serde_json.specs.Data.{Members}
use Rattle.jwt_mac.specs.Verifying.{Meaning}
use Rattle.jwt_jws.specs.declared.fault.FormFault.{FormFault}
use Rattle.jwt_jws.specs.Token.{Token, SignatureParts}
use Rattle.jwt_jws.specs.Forms.{form_of}
use Rattle.jwt_keys.specs.Keys.{KeyParts}
use Rattle.jwt_policy.specs.declared.sig_fault.SigFault.{SigFault}
use Rattle.jwt_policy.specs.declared.claim_fault.ClaimFault.{ClaimFault}
use Rattle.jwt_policy.specs.Settings.{Settings}
use Rattle.jwt_policy.specs.Bars.{bar_of}
use Rattle.jwt_policy.specs.Eligible.{eligible_for}
use Rattle.jwt_policy.specs.ClaimKinds.{claims_of}
use Rattle.jwt_policy.specs.Checks.{check_of}
use Rattle.jwt_verify.specs.declared.tries.End.{End}
use Rattle.jwt_verify.specs.declared.tries.End.TheVariants as end
use Rattle.jwt_verify.specs.declared.report.Try.{Try}
use Rattle.jwt_verify.specs.declared.report.SigState.{SigState}
use Rattle.jwt_verify.specs.declared.report.InputFault.TheVariants.{TooLong, Read}
use Rattle.jwt_verify.specs.declared.report.Fault.{Fault}
use Rattle.jwt_verify.specs.declared.report.Fault.TheVariants.{OutOfMemory, Text, Form, WorkExceeded, CallsExceeded, VerifierMemory, Signature, Claim}
use Rattle.jwt_verify.specs.declared.report.Verdict.{Verdict}
use Rattle.jwt_verify.specs.declared.report.Verdict.TheVariants.{Accepted, Refused}
use Rattle.jwt_verify.specs.Table.{Table, entry, pairs, tries, affords, work, paid, stop, states_at, states, ending, is_within, IsWholeRun}
use Rattle.jwt_verify.specs.Trying.{at_pair, table_of}
use Rattle.jwt_verify.specs.Verdict.{Terms, Signing, VerifiedBy, Unverified, checked, claims_verdict, conclusion, unless_stopped, token_verdict, signing_of, formed, token_of, table, decided, verdict_of, without_line_feed}
use Rattle.jwt_verify.specs.Reports.{FoundMemory}
use Rattle.jwt_verify.specs.Steps.{IsWhole}
use Rattle.jwt_verify.specs.declared.signature_outcome.Signing.{Signing as Decided}
use Rattle.jwt_verify.specs.SignatureOutcome.{signing_view}
use Rattle.jwt_verify.specs.Pairs.{IsSigned}
use Rattle.jwt_verify.proofs.Below.{below-zero}
use Rattle.jwt_verify.proofs.Paying.{work-nil}

-- at most 32 signatures and 1,024 keys
pub few_pairs : (m n : ℕ) → m ≤ 32 → n ≤ 1024 → m * n < 2 ^ 32
few_pairs m n l k =
    let a : m * n ≤ 32 * n = mul-le-mul_right n l in
    omega (arith, a, k)

-- ---- the table of a token

eligible_unbarred : (p : Settings) (v : List Meaning) (s : SignatureParts) (k : KeyParts) → eligible_for p s k v ≡ true → bar_of p s v ≡ None
unfolding eligible_for
eligible_unbarred p v s k h = go (bar_of p s v) refl
  where
    go : (o : Option SigFault) → o ≡ bar_of p s v → bar_of p s v ≡ None
    go None e = sym e
    go (Some f) e = let q = rw (sym e) at h in cc

pub unbarred_by : (p : Settings) (v : List Meaning) (ks : List KeyParts) (t : Token) (i j : ℕ) → at_pair (λ s k. eligible_for p s k v) false t ks i j ≡ true → option_and_then (λ s. bar_of p s v) (slice_get t.signatures i) ≡ None
unbarred_by p v ks t i j h = go (slice_get t.signatures i) (slice_get ks j) h
  where
    go : (s : Option SignatureParts) (k : Option KeyParts) → option_map_or (λ s. option_map_or (λ k. eligible_for p s k v) k false) s false ≡ true → option_and_then (λ s. bar_of p s v) s ≡ None
    go None k h = refl
    go (Some s) None h = cc
    go (Some s) (Some k) h = eligible_unbarred p v s k h

-- ---- the verdict

found_not : (v : Verdict) → FoundMemory v → v ≢ Refused OutOfMemory
found_not v h e = subst FoundMemory e h

pub done_stop : (t : Table) (w : ℕ) (calls : Option ℕ) → end.Done ≡ ending t w calls → stop t w calls ≡ None
done_stop t w calls h = go (stop t w calls) h
  where
    exceeded : (b : Bool) (e : Try) → end.Done ≡ (if b then end.WorkExceeded e.signature e.key else end.CallsExceeded e.signature e.key) → ⊥
    exceeded true e h = cc
    exceeded false e h = cc

    go : (o : Option Try) → end.Done ≡ option_map_or (λ e. if is_within calls (length (paid t w calls) + 1) then end.WorkExceeded e.signature e.key else end.CallsExceeded e.signature e.key) o end.Done → o ≡ None
    go None h = refl
    go (Some e) h = absurd (exceeded (is_within calls (length (paid t w calls) + 1)) e h)

pub run_says : (q : Terms) (w : ℕ) (t : Token) (es : List Try) (sts : List SigState) (r : End) (s : Decided) (v : Verdict)
    → IsWholeRun (table_of q.policy q.verifiers q.keys t) w q.policy.max_calls es sts r → IsSigned (table_of q.policy q.verifiers q.keys t) s r
    → (v ≢ Refused OutOfMemory → v ≡ unless_stopped r (conclusion q.policy q.now t.payload (signing_view s)))
    → FoundMemory v → v ≡ token_verdict q w t
unfolding token_verdict
run_says q w t es sts end.Done s v h signed k found =
    let T = table_of q.policy q.verifiers q.keys t in
    k (found_not v found) ∙ ap (conclusion q.policy q.now t.payload) signed ∙ ap (λ r. unless_stopped r (conclusion q.policy q.now t.payload (signing_of T))) h.2
run_says q w t es sts (end.WorkExceeded i j) s v h signed k found =
    let T = table_of q.policy q.verifiers q.keys t in
    k (found_not v found) ∙ ap (λ r. unless_stopped r (conclusion q.policy q.now t.payload (signing_of T))) h.2
run_says q w t es sts (end.CallsExceeded i j) s v h signed k found =
    let T = table_of q.policy q.verifiers q.keys t in
    k (found_not v found) ∙ ap (λ r. unless_stopped r (conclusion q.policy q.now t.payload (signing_of T))) h.2
run_says q w t es sts (end.VerifierMemory i j) s v h signed k found = absurd (subst FoundMemory (k (found_not v found)) found)

-- ---- the report

-- a fault that comes from elsewhere than the signatures and the claims
abbrev pub IsOther : Fault → Type 0
IsOther f = (f ≡ VerifierMemory) ⊎ (f ≡ Text Read)

claim_not : (f : Fault) (g : ClaimFault) → IsOther f → Refused (Claim g) ≡ Refused f → ⊥
claim_not f g (inl n) h = cc
claim_not f g (inr n) h = cc

checked_not : (i j : ℕ) (claims : Members) (o : Option ClaimFault) (f : Fault) → IsOther f → checked i j claims o ≡ Refused f → ⊥
checked_not i j claims None f n h = cc
checked_not i j claims (Some g) f n h = claim_not f g n h

claimed_not : (p : Settings) (now : ℤ) (i j : ℕ) (r : Result Members ClaimFault) (f : Fault) → IsOther f → claims_verdict p now i j r ≡ Refused f → ⊥
claimed_not p now i j (Ok claims) f n h = checked_not i j claims (check_of p claims now) f n h
claimed_not p now i j (Err g) f n h = claim_not f g n h

signature_not : (i : ℕ) (g : SigFault) (f : Fault) → IsOther f → Refused (Signature i g) ≡ Refused f → ⊥
signature_not i g f (inl n) h = cc
signature_not i g f (inr n) h = cc

concluded_not : (p : Settings) (now : ℤ) (payload : List ℕ) (s : Signing) (f : Fault) → IsOther f → conclusion p now payload s ≡ Refused f → ⊥
concluded_not p now payload (VerifiedBy i j) f n h = claimed_not p now i j (claims_of payload) f n h
concluded_not p now payload (Unverified i g) f n h = signature_not i g f n h

read_not : (r : End) (p : Settings) (now : ℤ) (payload : List ℕ) (s : Signing) → unless_stopped r (conclusion p now payload s) ≡ Refused (Text Read) → ⊥
read_not end.Done p now payload s h = concluded_not p now payload s (Text Read) (inr refl) h
read_not (end.WorkExceeded i j) p now payload s h = cc
read_not (end.CallsExceeded i j) p now payload s h = cc
read_not (end.VerifierMemory i j) p now payload s h = cc

pub run_read : (r : End) (p : Settings) (now : ℤ) (payload : List ℕ) (s : Signing) (v : Verdict) → (v ≢ Refused OutOfMemory → v ≡ unless_stopped r (conclusion p now payload s)) → v ≢ Refused (Text Read)
run_read r p now payload s v k e = read_not r p now payload s (sym (k (λ m. (let z = sym e ∙ m in cc))) ∙ e)

module _ (t : Table) (w : ℕ) (calls : Option ℕ) (es : List Try) (sts : List SigState) where
  whole : (v : Verdict) → v ≢ Refused VerifierMemory → (es ≡ paid t w calls) × (sts ≡ states t w calls) → IsWhole t w calls es sts v
  whole (Accepted i j claims) n h = h
  whole (Refused OutOfMemory) n h = tt
  whole (Refused (Text f)) n h = h
  whole (Refused (Form f)) n h = h
  whole (Refused (WorkExceeded i j)) n h = h
  whole (Refused (Signature i f)) n h = h
  whole (Refused (Claim f)) n h = h
  whole (Refused VerifierMemory) n h = absurd (n refl)
  whole (Refused (CallsExceeded i j)) n h = h

  memory_or : (v : Verdict) → (v ≡ Refused OutOfMemory) ⊎ (v ≢ Refused OutOfMemory)
  memory_or (Accepted i j claims) = inr (λ e. cc)
  memory_or (Refused OutOfMemory) = inl refl
  memory_or (Refused (Text f)) = inr (λ e. cc)
  memory_or (Refused (Form f)) = inr (λ e. cc)
  memory_or (Refused (WorkExceeded i j)) = inr (λ e. cc)
  memory_or (Refused (Signature i f)) = inr (λ e. cc)
  memory_or (Refused (Claim f)) = inr (λ e. cc)
  memory_or (Refused VerifierMemory) = inr (λ e. cc)
  memory_or (Refused (CallsExceeded i j)) = inr (λ e. cc)

  by_memory : (v : Verdict) → (v ≢ Refused OutOfMemory → IsWhole t w calls es sts v) → IsWhole t w calls es sts v
  by_memory v h = elim (memory_or v) [
    | inl e ↦ rw e tt
    | inr n ↦ h n
  ]

  pub run_whole : (r : End) (p : Settings) (now : ℤ) (payload : List ℕ) (s : Signing) (v : Verdict) → IsWholeRun t w calls es sts r
      → (v ≢ Refused OutOfMemory → v ≡ unless_stopped r (conclusion p now payload s)) → IsWhole t w calls es sts v
  run_whole end.Done p now payload s v h k = by_memory v (λ n. whole v (λ e. concluded_not p now payload s VerifierMemory (inl refl) (sym (k n) ∙ e)) (h.0, h.1))
  run_whole (end.WorkExceeded i j) p now payload s v h k = by_memory v (λ n. whole v (λ e. (let q : Refused (WorkExceeded i j) ≡ Refused VerifierMemory = sym (k n) ∙ e in cc)) (h.0, h.1))
  run_whole (end.CallsExceeded i j) p now payload s v h k = by_memory v (λ n. whole v (λ e. (let q : Refused (CallsExceeded i j) ≡ Refused VerifierMemory = sym (k n) ∙ e in cc)) (h.0, h.1))
  run_whole (end.VerifierMemory i j) p now payload s v h k = by_memory v (λ n. rw (k n) (h.0.0, entry t i j, h.0.1, h.1, h.2))

-- where memory was refused
pub whole_none : (t : Table) (w : ℕ) (calls : Option ℕ) (es : List Try) (sts : List SigState) (v : Verdict) → v ≡ Refused OutOfMemory → IsWhole t w calls es sts v
whole_none t w calls es sts v e = rw e tt

pub read_none : (v : Verdict) → v ≡ Refused OutOfMemory → v ≢ Refused (Text Read)
read_none v e h = let z = sym e ∙ h in cc

-- ---- what is no signed token

pub front_none : (ps es : List Try) → es ≡ [] → (more : List Try) × (ps ≡ es ++ more)
front_none ps es h = (ps, ap (λ xs. xs ++ ps) (sym h))

pub octets_none : (n : ℕ) (es : List Try) → n ≡ 0 → es ≡ [] → n ≡ work es
octets_none n es e h = e ∙ sym (ap work h ∙ work-nil)

no_tries : (t : Table) → t.signatures ≡ 0 → tries t ≡ []
unfolding tries pairs
no_tries t h = rw (h, below-zero) refl

take_none : {X : Type 0} (n : ℕ) (xs : List X) → xs ≡ [] → take n xs ≡ []
take_none zero xs h = refl
take_none (suc n) xs h = rw h refl

pub no_paid : (t : Table) (w : ℕ) (calls : Option ℕ) → t.signatures ≡ 0 → paid t w calls ≡ []
unfolding paid
no_paid t w calls h = take_none (prefix_len (affords t w calls) (range_with_len 1 (length (tries t)))) (tries t) (no_tries t h)

pub no_states : (t : Table) (o : Option Try) → t.signatures ≡ 0 → states_at t o ≡ []
unfolding states_at
no_states t o h = rw (h, below-zero) refl

formed_not : (r : Result Token FormFault) (f : Fault) → formed r ≡ Err f → (f ≡ VerifierMemory) ⊎ (f ≡ Text Read) → ⊥
formed_not (Ok t) f h n = cc
formed_not (Err e) f h (inl n) = cc
formed_not (Err e) f h (inr n) = cc

token_not : (p : Settings) (x : List ℕ) (f : Fault) → token_of p x ≡ Err f → (f ≡ VerifierMemory) ⊎ (f ≡ Text Read) → ⊥
unfolding token_of
token_not p x f h n = go (nat_lt p.run.limit (length x)) h n
  where
    go : (b : Bool) → (if b then Err (Text TooLong) else formed (form_of p.run.max_signatures (without_line_feed p.run.line_feed x))) ≡ Err f → (f ≡ VerifierMemory) ⊎ (f ≡ Text Read) → ⊥
    go true h (inl n) = cc
    go true h (inr n) = cc
    go false h n = formed_not (form_of p.run.max_signatures (without_line_feed p.run.line_feed x)) f h n

pub table_none : (q : Terms) (x : List ℕ) (f : Fault) → token_of q.policy x ≡ Err f → (table q x).signatures ≡ 0
unfolding table
table_none q x f h = rw h refl

pub refused_says : (q : Terms) (x : List ℕ) (w : ℕ) (f : Fault) → (f ≢ OutOfMemory → token_of q.policy x ≡ Err f) → FoundMemory (Refused f) → Refused f ≡ verdict_of q x w
unfolding verdict_of
refused_says q x w f h found = rw (h (λ e. found_not (Refused f) found (ap Refused e))) refl

fault_or : (f : Fault) → (f ≡ OutOfMemory) ⊎ (f ≢ OutOfMemory)
fault_or OutOfMemory = inl refl
fault_or (Text f) = inr (λ e. cc)
fault_or (Form f) = inr (λ e. cc)
fault_or (WorkExceeded i j) = inr (λ e. cc)
fault_or (Signature i f) = inr (λ e. cc)
fault_or (Claim f) = inr (λ e. cc)
fault_or VerifierMemory = inr (λ e. cc)
fault_or (CallsExceeded i j) = inr (λ e. cc)

inside : (f g : Fault) → Refused f ≡ Refused g → f ≡ g
inside f g h = cc

pub refused_whole : (q : Terms) (x : List ℕ) (w : ℕ) (calls : Option ℕ) (f : Fault) → (f ≢ OutOfMemory → token_of q.policy x ≡ Err f) → IsWhole (table q x) w calls [] [] (Refused f)
refused_whole q x w calls f h = elim (fault_or f) [
  | inl e ↦ rw e tt
  | inr n ↦ (let z = table_none q x f (h n) in
      whole (table q x) w calls [] [] (Refused f) (λ e. token_not q.policy x f (h n) (inl (inside f VerifierMemory e))) (sym (no_paid (table q x) w calls z), sym (no_states (table q x) (stop (table q x) w calls) z)))
]

pub refused_read : (q : Terms) (x : List ℕ) (f : Fault) → (f ≢ OutOfMemory → token_of q.policy x ≡ Err f) → Refused f ≢ Refused (Text Read)
refused_read q x f h e = let s = inside f (Text Read) e in token_not q.policy x f (h (λ o. (let z = sym s ∙ o in cc))) (inr s)

-- ---- a token in hand

pub says_of_token : (q : Terms) (x : List ℕ) (w : ℕ) (t : Token) → token_of q.policy x ≡ Ok t → token_verdict q w t ≡ verdict_of q x w
unfolding verdict_of
says_of_token q x w t h = rw h refl

pub table_of_token : (q : Terms) (x : List ℕ) (t : Token) → token_of q.policy x ≡ Ok t → table_of q.policy q.verifiers q.keys t ≡ table q x
unfolding table
table_of_token q x t h = rw h refl

-- ---- too many octets

pub too_long : (p : Settings) (x : List ℕ) → p.run.limit < length x → token_of p x ≡ Err (Text TooLong)
unfolding token_of
too_long p x l = rw (lt-ltb p.run.limit (length x) l) refl

pub same_token : (p : Settings) (x : List ℕ) → p.run.limit < length x → token_of p (take (p.run.limit + 1) x) ≡ token_of p x
same_token p x l =
    let n : length (take (p.run.limit + 1) x) ≡ p.run.limit + 1 = length-take-le (p.run.limit + 1) x (omega (arith, l)) in
    too_long p (take (p.run.limit + 1) x) (omega (arith, n)) ∙ sym (too_long p x l)

pub same_verdict : (q : Terms) (x y : List ℕ) (w : ℕ) → token_of q.policy x ≡ token_of q.policy y → verdict_of q x w ≡ verdict_of q y w
unfolding verdict_of
same_verdict q x y w h = ap (decided q w) h

pub same_table : (q : Terms) (x y : List ℕ) → token_of q.policy x ≡ token_of q.policy y → table q x ≡ table q y
unfolding table
same_table q x y h = rw h refl
