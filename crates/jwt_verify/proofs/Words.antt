-- The steps and the words say the same.
use Rattle.std.proofs.Common.{◌≡◌, ℕ, ℤ, ◌<◌, Bool, true, false, List, Option, Some, None, Result, Ok, Err, refl, sym, ◌∙◌, ap, subst, inl, inr, arith}
use Rattle.std.specs.Prelude.{◌↔◌}
use Rattle.std.specs.List.{list_any}
use Rattle.serde_json.specs.Data.{Members}
use Rattle.jwt_mac.specs.Verifying.{Meaning}
use Rattle.jwt_text.specs.ObjectText.{IsObjectText, object_of}
use Rattle.jwt_text.specs.Rows.{IsFirstRow, NoRow}
use Rattle.jwt_text.specs.declared.fault.TextFault.{TextFault}
use Rattle.jwt_jws.specs.Token.{Token, SignatureParts}
use Rattle.jwt_jws.specs.SignedToken.{ReadsSignedTokens}
use Rattle.jwt_jws.specs.FormFaults.{TellsFormFaults}
use Rattle.jwt_keys.specs.Keys.{KeyParts}
use Rattle.jwt_policy.specs.declared.mode.Mode.{Mode}
use Rattle.jwt_policy.specs.declared.mode.Mode.TheVariants.{Any, All}
use Rattle.jwt_policy.specs.declared.sig_fault.SigFault.{SigFault}
use Rattle.jwt_policy.specs.declared.claim_fault.ClaimFault.{ClaimFault}
use Rattle.jwt_policy.specs.declared.claim_fault.ClaimFault.TheVariants.{ClaimsShape}
use Rattle.jwt_policy.specs.Settings.{Settings}
use Rattle.jwt_policy.specs.Bars.{bar_rows, bar_of}
use Rattle.jwt_policy.specs.Eligible.{eligible_for}
use Rattle.jwt_policy.specs.ClaimKinds.{kind_rows, claims_of}
use Rattle.jwt_policy.specs.Checks.{check_rows, check_of}
use Rattle.jwt_policy.specs.Laws.{IsEligible, ClaimsHold}
use Rattle.jwt_verify.specs.declared.report.InputFault.TheVariants.{TooLong, Read}
use Rattle.jwt_verify.specs.declared.report.Fault.{Fault}
use Rattle.jwt_verify.specs.declared.report.Fault.TheVariants.{OutOfMemory, Text, Form, WorkExceeded, CallsExceeded, VerifierMemory, Signature, Claim}
use Rattle.jwt_verify.specs.declared.report.Try.{Try}
use Rattle.jwt_verify.specs.declared.report.Verdict.TheVariants.{Accepted, Refused}
use Rattle.jwt_verify.specs.Table.{Table, below, verified, outcome, tries, stop}
use Rattle.jwt_verify.proofs.SignedBy.{state_of}
use Rattle.jwt_verify.specs.Verdict.{Terms, fault_of, fault_at, table, verdict_of}
use Rattle.jwt_verify.specs.Paying.{AreAllowed}
use Rattle.jwt_verify.specs.Asks.{IsTableOf, IsTokenWithTable}
use Rattle.jwt_verify.specs.Accepted.{IsVerifiedBy, IsAccepted, IsFirstUnverified, IsReason, IsClaimFault, IsFault, HasOneVerdict, AcceptsExactly, RefusesExactly, TellsVerdicts}
use Rattle.jwt_verify.proofs.Judged.{table_of_token}
use Rattle.jwt_verify.proofs.Least.{least_found}
use Rattle.jwt_verify.proofs.Signing.{none_below}
use Rattle.jwt_verify.proofs.Stepwise.{IsReadToken, IsAcceptedStepwise, IsClaimFaultStepwise, IsFaultStepwise}
use Rattle.jwt_verify.proofs.Accepting.{any_at, any_true, not_verified, is_token, token_is, accepts_exactly_holds}
use Rattle.jwt_verify.proofs.Refusing.{some_signature, stops_token, refuses_exactly_holds}
use Rattle.jwt_verify.proofs.Pinning.{the_table, table_is}
use Rattle.jwt_verify.proofs.Allowing.{StopsForWork, StopsForCalls, unstopped_words, words_unstopped, work_words, calls_words, words_work, words_calls}

-- what the laws of the crates below say
pub record Laws : Type 0 where
  pub signed_tokens : ReadsSignedTokens
  pub form_faults : TellsFormFaults
  pub eligible : (p : Settings) (s : SignatureParts) (k : KeyParts) (v : List Meaning) → (eligible_for p s k v ≡ true) ↔ IsEligible p s k v
  pub bar : (p : Settings) (s : SignatureParts) (v : List Meaning) (f : SigFault) → (bar_of p s v ≡ Some f) ↔ IsFirstRow (bar_rows p s v) f
  pub no_bar : (p : Settings) (s : SignatureParts) (v : List Meaning) → bar_of p s v ≡ None → NoRow (bar_rows p s v)
  pub objects : (text : List ℕ) (ms : Members) → (object_of text ≡ Ok ms) ↔ IsObjectText text ms
  pub claims_read : (payload : List ℕ) (ms : Members) → (claims_of payload ≡ Ok ms) ↔ (IsObjectText payload ms × NoRow (kind_rows ms))
  pub claims_kind : (payload : List ℕ) (ms : Members) (f : ClaimFault) → IsObjectText payload ms → (claims_of payload ≡ Err f) ↔ IsFirstRow (kind_rows ms) f
  pub claims_shape : (payload : List ℕ) → ((ms : Members) → ¬ IsObjectText payload ms) → claims_of payload ≡ Err ClaimsShape
  pub check : (p : Settings) (ms : Members) (now : ℤ) (f : ClaimFault) → (check_of p ms now ≡ Some f) ↔ IsFirstRow (check_rows p ms now) f
  pub hold : (p : Settings) (ms : Members) (now : ℤ) → (check_of p ms now ≡ None) ↔ ClaimsHold p ms now

-- ---- why a signature isn't verified

module _ (t : Table) (i : ℕ) (not : verified t i ≡ false) where
  fault_state : fault_at t i ≡ fault_of (state_of (t.bar i) (list_any (t.eligible i) (below t.keys)) None)
  unfolding outcome
  fault_state = ap (λ o. fault_of (state_of (t.bar i) (list_any (t.eligible i) (below t.keys)) o)) (not_verified t i not)

  pub reason_words : (f : SigFault) → fault_at t i ≡ Some f → IsReason t i f
  reason_words f h = go (t.bar i) refl (list_any (t.eligible i) (below t.keys)) refl (sym fault_state ∙ h)
    where
      go : (bar : Option SigFault) → bar ≡ t.bar i → (seen : Bool) → seen ≡ list_any (t.eligible i) (below t.keys) → fault_of (state_of bar seen None) ≡ Some f → IsReason t i f
      go (Some g) e seen k y = inl (sym e ∙ y)
      go None e true k y = let l = least_found (t.eligible i) t.keys (sym k) in inr (sym e, inr (let s = y in cc, (l.0, l.1, l.2)))
      go None e false k y = inr (sym e, inl (let s = y in cc, λ j l. any_at (t.eligible i) t.keys j (sym k) l))

  pub words_reason : (f : SigFault) → IsReason t i f → fault_at t i ≡ Some f
  words_reason f (inl b) = fault_state ∙ rw b refl
  words_reason f (inr (b, inl (e, none))) = fault_state ∙ rw (b, none_below (t.eligible i) t.keys none) (ap Some (sym e))
  words_reason f (inr (b, inr (e, (j, l, y)))) = fault_state ∙ rw (b, any_true (t.eligible i) t.keys j l y) (ap Some (sym e))

unverified_here : (m : Mode) (t : Table) (i : ℕ) → 0 < t.signatures → IsFirstUnverified m t i → verified t i ≡ false
unverified_here Any t i some h = h.1 i (omega (arith, h.0, some))
unverified_here All t i some h = h.1

-- what stops is the run of a token
stopped_token : (q : Terms) (x : List ℕ) (w : ℕ) (e : Try) → stop (table q x) w q.policy.max_calls ≡ Some e → (t : Token) × IsReadToken q x t
stopped_token q x w e h = let t = stops_token q x w e h in (t.0, token_is q x t.0 t.1)

-- ---- the whole

module _ (laws : Laws) where
  -- the token that is read asks what the computed table says
  pub token_asks : (q : Terms) (x : List ℕ) (t : Token) → IsReadToken q x t → IsTokenWithTable q x t (table q x)
  token_asks q x t h = (
    (h.0, (laws.signed_tokens _ _ t).0 h.1),
    subst (IsTableOf q t) (table_of_token q x t (is_token q x t h)) (the_table laws.eligible laws.bar q t),
  )

  pub asks_token : (q : Terms) (x : List ℕ) (t : Token) (u : Table) → IsTokenWithTable q x t u → IsReadToken q x t × (u ≡ table q x)
  asks_token q x t u h =
      let r : IsReadToken q x t = (h.0.0, (laws.signed_tokens _ _ t).1 h.0.1) in
      (r, table_is laws.eligible laws.bar q t u h.1 ∙ table_of_token q x t (is_token q x t r))

  some_here : (q : Terms) (x : List ℕ) (t : Token) → IsReadToken q x t → 0 < (table q x).signatures
  some_here q x t h = subst (λ u. 0 < u.signatures) (table_of_token q x t (is_token q x t h)) (some_signature laws.signed_tokens _ _ t h.1)

  same_mode : (q : Terms) (x : List ℕ) (t : Token) → IsReadToken q x t → (table q x).mode ≡ q.policy.run.mode
  same_mode q x t h = sym (ap (λ u. u.mode) (table_of_token q x t (is_token q x t h)))

  accepted_words : (q : Terms) (x : List ℕ) (w i j : ℕ) (claims : Members) → IsAcceptedStepwise q x w i j claims → IsAccepted q x w i j claims
  accepted_words q x w i j claims a = record {
    token = a.token;
    table = table q x;
    signed = token_asks q x a.token a.signed;
    unstopped = unstopped_words (table q x) w q.policy.max_calls a.unstopped;
    verified_by = a.verified_by;
    read = (laws.claims_read a.token.payload claims).0 a.read;
    hold = (laws.hold q.policy claims q.now).0 a.hold;
  }

  words_accepted : (q : Terms) (x : List ℕ) (w i j : ℕ) (claims : Members) → IsAccepted q x w i j claims → IsAcceptedStepwise q x w i j claims
  words_accepted q x w i j claims a =
      let k = asks_token q x a.token a.table a.signed in
      record {
        token = a.token;
        signed = k.0;
        unstopped = words_unstopped (table q x) w q.policy.max_calls (subst (λ t. AreAllowed w q.policy.max_calls (tries t)) k.1 a.unstopped);
        verified_by = subst (λ t. IsVerifiedBy t i j) k.1 a.verified_by;
        read = (laws.claims_read a.token.payload claims).1 a.read;
        hold = (laws.hold q.policy claims q.now).1 a.hold;
      }

  claim_words : (q : Terms) (payload : List ℕ) (f : ClaimFault) → IsClaimFaultStepwise q payload f → IsClaimFault q payload f
  claim_words q payload f (inr (claims, read, fault)) = inr (inr (claims, (laws.claims_read payload claims).0 read, (laws.check q.policy claims q.now f).0 fault))
  claim_words q payload f (inl e) = go (object_of payload) refl
    where
      go : (r : Result Members TextFault) → r ≡ object_of payload → IsClaimFault q payload f
      go (Ok ms) is = let o = (laws.objects payload ms).0 (sym is) in inr (inl (ms, o, (laws.claims_kind payload ms f o).0 e))
      go (Err g) is =
          let none : (ms : Members) → ¬ IsObjectText payload ms = λ ms o. (let never = is ∙ (laws.objects payload ms).1 o in cc) in
          let shape = sym e ∙ laws.claims_shape payload none in
          inl (let s = shape in cc, none)

  words_claim : (q : Terms) (payload : List ℕ) (f : ClaimFault) → IsClaimFault q payload f → IsClaimFaultStepwise q payload f
  words_claim q payload f (inl (e, none)) = inl (laws.claims_shape payload none ∙ ap Err (sym e))
  words_claim q payload f (inr (inl (ms, o, first))) = inl ((laws.claims_kind payload ms f o).1 first)
  words_claim q payload f (inr (inr (ms, read, first))) = inr (ms, (laws.claims_read payload ms).1 read, (laws.check q.policy ms q.now f).1 first)

  fault_words : (q : Terms) (x : List ℕ) (w : ℕ) (f : Fault) → IsFaultStepwise q x w f → IsFault q x w f
  fault_words q x w (Text TooLong) h = h
  fault_words q x w (Text Read) h = h
  fault_words q x w OutOfMemory h = h
  fault_words q x w VerifierMemory h = h
  fault_words q x w (Form f) h = (h.0, (laws.form_faults _ _ f).0 h.1)
  fault_words q x w (WorkExceeded i j) (s, y) = let r = stopped_token q x w s.0 s.1 in (r.0, table q x, token_asks q x r.0 r.1, work_words (table q x) w q.policy.max_calls i j s y)
  fault_words q x w (CallsExceeded i j) (s, n) = let r = stopped_token q x w s.0 s.1 in (r.0, table q x, token_asks q x r.0 r.1, calls_words (table q x) w q.policy.max_calls i j s n)
  fault_words q x w (Signature i f) (t, read, none, first, fault) =
      let mode = same_mode q x t read in
      let here : IsFirstUnverified (table q x).mode (table q x) i = subst (λ m. IsFirstUnverified m (table q x) i) (sym mode) first in
      let not = unverified_here (table q x).mode (table q x) i (some_here q x t read) here in
      (t, table q x, token_asks q x t read, (unstopped_words (table q x) w q.policy.max_calls none, (here, reason_words (table q x) i not f fault)))
  fault_words q x w (Claim f) (t, read, none, by, fault) =
      (t, table q x, token_asks q x t read, (unstopped_words (table q x) w q.policy.max_calls none, (by, claim_words q t.payload f fault)))

  words_fault : (q : Terms) (x : List ℕ) (w : ℕ) (f : Fault) → IsFault q x w f → IsFaultStepwise q x w f
  words_fault q x w (Text TooLong) h = h
  words_fault q x w (Text Read) h = h
  words_fault q x w OutOfMemory h = h
  words_fault q x w VerifierMemory h = h
  words_fault q x w (Form f) h = (h.0, (laws.form_faults _ _ f).1 h.1)
  words_fault q x w (WorkExceeded i j) (t, u, asks, s) =
      let k = asks_token q x t u asks in
      words_work (table q x) w q.policy.max_calls i j (subst (λ t. StopsForWork t w q.policy.max_calls i j) k.1 s)
  words_fault q x w (CallsExceeded i j) (t, u, asks, s) =
      let k = asks_token q x t u asks in
      words_calls (table q x) w q.policy.max_calls i j (subst (λ t. StopsForCalls t w q.policy.max_calls i j) k.1 s)
  words_fault q x w (Signature i f) (t, u, asks, (all, (first, reason))) =
      let k = asks_token q x t u asks in
      let here : IsFirstUnverified (table q x).mode (table q x) i = subst (λ t. IsFirstUnverified t.mode t i) k.1 first in
      let not = unverified_here (table q x).mode (table q x) i (some_here q x t k.0) here in (
        t,
        k.0,
        words_unstopped (table q x) w q.policy.max_calls (subst (λ t. AreAllowed w q.policy.max_calls (tries t)) k.1 all),
        subst (λ m. IsFirstUnverified m (table q x) i) (same_mode q x t k.0) here,
        words_reason (table q x) i not f (subst (λ t. IsReason t i f) k.1 reason),
      )
  words_fault q x w (Claim f) (t, u, asks, (all, ((i, j, by), fault))) =
      let k = asks_token q x t u asks in (
        t,
        k.0,
        words_unstopped (table q x) w q.policy.max_calls (subst (λ t. AreAllowed w q.policy.max_calls (tries t)) k.1 all),
        (i, j, subst (λ t. IsVerifiedBy t i j) k.1 by),
        words_claim q t.payload f fault,
      )

  pub accepts_in_words : AcceptsExactly
  accepts_in_words q x w i j claims =
      let s = accepts_exactly_holds q x w i j claims in
      (λ h. accepted_words q x w i j claims (s.0 h), λ h. s.1 (words_accepted q x w i j claims h))

  pub refuses_in_words : RefusesExactly
  refuses_in_words q x w f =
      let s = refuses_exactly_holds laws.signed_tokens q x w f in
      (λ h. fault_words q x w f (s.0 h), λ h. s.1 (words_fault q x w f h))

  pub tells_in_words : TellsVerdicts
  tells_in_words q x w (Accepted i j claims) = accepts_in_words q x w i j claims
  tells_in_words q x w (Refused f) = refuses_in_words q x w f

  pub one_in_words : HasOneVerdict
  one_in_words q x w = (verdict_of q x w, (tells_in_words q x w (verdict_of q x w)).0 refl, λ u h. sym ((tells_in_words q x w u).1 h))
