-- Octets have one fault at most.
use Rattle.std.proofs.Common.{◌≡◌, ◌≢◌, ◌++◌, ◌⊎◌, ℕ, ℤ, true, false, List, length, slice_get, Some, Err, refl, sym, ap, subst, ◌∙◌, inl, inr, true≢false}
use Rattle.serde_json.specs.Data.{Members}
use Rattle.jwt_text.specs.ObjectText.{IsObjectText}
use Rattle.jwt_text.specs.Rows.{Row, first_row, IsFirstRow, NoRow}
use Rattle.jwt_text.proofs.RowsLemmas.{first_row_is, no_row_is}
use Rattle.jwt_mac.specs.Verifying.{Meaning}
use Rattle.jwt_jws.specs.declared.fault.Form.TheVariants.{Compact}
use Rattle.jwt_jws.specs.Token.{Token, SignatureParts}
use Rattle.jwt_keys.specs.Keys.{KeyParts}
use Rattle.jwt_policy.specs.declared.claim_fault.ClaimFault.{ClaimFault}
use Rattle.jwt_policy.specs.declared.claim_fault.ClaimFault.TheVariants.{ClaimsShape}
use Rattle.jwt_policy.specs.declared.sig_fault.SigFault.{SigFault}
use Rattle.jwt_policy.specs.declared.sig_fault.SigFault.TheVariants as sig_fault
use Rattle.jwt_policy.specs.Bars.{bar_rows}
use Rattle.jwt_policy.specs.Checks.{check_rows}
use Rattle.jwt_policy.specs.ClaimKinds.{kind_rows}
use Rattle.jwt_policy.specs.Laws.{IsEligible}
use Rattle.jwt_policy.specs.Settings.{Settings}
use Rattle.jwt_verify.specs.Accepted.{IsTokenFault, TellsTokens, TellsTokenFaults}
use Rattle.jwt_verify.specs.Asks.{IsToken}
use Rattle.jwt_verify.specs.Reports.{FoundMemory}
use Rattle.jwt_verify.specs.declared.report.Fault.{Fault}
use Rattle.jwt_verify.specs.declared.report.Fault.TheVariants as token_fault
use Rattle.jwt_verify.specs.declared.report.Verdict.TheVariants.{Refused}
use Rattle.jwt_possession.specs.declared.own_key.KeyFault.{KeyFault}
use Rattle.jwt_possession.specs.declared.own_key.KeyFault.TheVariants as key_fault
use Rattle.jwt_possession.specs.declared.proof.ProofFault.TheVariants.{NoToken, NoKey, OtherKey, NotAccepted, OtherRequest, OutOfMemory}
use Rattle.jwt_possession.specs.declared.request.Request.{Request}
use Rattle.jwt_possession.specs.declared.request.RequestFault.{RequestFault}
use Rattle.jwt_possession.specs.HeaderKey.{header_key_of}
use Rattle.jwt_possession.specs.Laws.{ProofsHaveOneFault}
use Rattle.jwt_possession.specs.Proofs.{HasOwnKey, IsKeyFault, IsRefusal, IsSignedByOwnKey, IsVerifiedByKey}
use Rattle.jwt_possession.specs.Requests.{is_key, request_rows}
use Rattle.jwt_possession.proofs.NoFault.{TellsChecks, TellsObjects, no_key_fault, not_both, not_refused, one_key, one_object, refused_here, same_signature}
use Rattle.jwt_possession.proofs.OneToken.{no_token_fault, one_token}

one_row : {A : Type 0} (rows : List (Row A)) (a b : A) → IsFirstRow rows a → IsFirstRow rows b → a ≡ b
one_row rows a b h g = let same : Some a ≡ Some b = sym ((first_row_is rows a).1 h) ∙ (first_row_is rows b).1 g in cc

no_first : {A : Type 0} (rows : List (Row A)) (a : A) → NoRow rows → ¬ IsFirstRow rows a
no_first rows a none = not_both rows a ((no_row_is rows).1 none)

-- ---- the key in the header

-- why there is none, by the form or by the header
abbrev pub KeyCause : Token → KeyFault → Type 0
KeyCause token fault = ((fault ≡ key_fault.NotCompact) × ((token.form ≡ Compact) → (length token.signatures ≡ 1) → ⊥))
    ⊎ ((token.form ≡ Compact) × (length token.signatures ≡ 1) × ((signature : SignatureParts) × (slice_get token.signatures 0 ≡ Some signature) × (header_key_of signature ≡ Err fault)))

key_cause : (token : Token) (fault : KeyFault) → IsKeyFault token fault → KeyCause token fault
key_cause token key_fault.NotCompact h = inl (refl, h)
key_cause token key_fault.KeyMissing h = inr h
key_cause token key_fault.KeyPrivate h = inr h
key_cause token key_fault.KeyUnreadable h = inr h
key_cause token key_fault.OutOfMemory h = inr h

one_key_cause : (token : Token) (fault other : KeyFault) → KeyCause token fault → KeyCause token other → fault ≡ other
one_key_cause token fault other (inl h) (inl g) = h.0 ∙ sym g.0
one_key_cause token fault other (inl h) (inr g) = absurd (h.1 g.0 g.1)
one_key_cause token fault other (inr h) (inl g) = absurd (g.1 h.0 h.1)
one_key_cause token fault other (inr (compact, alone, (s, first, is))) (inr (form, count, (t, there, was))) =
    let firsts : Some s ≡ Some t = sym first ∙ there in
    let signatures : s ≡ t = cc in
    let faults : Err fault ≡ Err other = sym is ∙ ap header_key_of signatures ∙ was in
    cc

one_key_fault : (a b : Token) (fault other : KeyFault) → a ≡ b → IsKeyFault a fault → IsKeyFault b other → fault ≡ other
one_key_fault a b fault other same h g = one_key_cause b fault other (subst (λ (t : Token). KeyCause t fault) same (key_cause a fault h)) (key_cause b other g)

-- ---- the verdict by that key

module _ (objects : TellsObjects) (policy : Settings) (verifiers : List Meaning) (now : ℤ) (token : Token) (signature : SignatureParts) (key : KeyParts) where
  -- why the claims are refused
  ClaimCause : ClaimFault → Type 0
  ClaimCause fault = ((fault ≡ ClaimsShape) × ((claims : Members) → ¬ IsObjectText token.payload claims))
      ⊎ ((claims : Members) × IsObjectText token.payload claims × IsFirstRow (kind_rows claims ++ check_rows policy claims now) fault)

  one_claim_cause : (fault other : ClaimFault) → ClaimCause fault → ClaimCause other → fault ≡ other
  unfolding ClaimCause
  one_claim_cause fault other (inl h) (inl g) = h.0 ∙ sym g.0
  one_claim_cause fault other (inl h) (inr g) = absurd (h.1 g.0 g.1)
  one_claim_cause fault other (inr h) (inl g) = absurd (g.1 h.0 h.1)
  one_claim_cause fault other (inr h) (inr g) =
      let same = one_object objects token.payload h.0 g.0 h.1 g.1 in
      one_row (kind_rows g.0 ++ check_rows policy g.0 now) fault other (subst (λ (ms : Members). IsFirstRow (kind_rows ms ++ check_rows policy ms now) fault) same h.2) g.2

  -- the cause behind a fault
  data Cause (fault : Fault) : Type 0 where
    bar : (found : SigFault) → fault ≡ token_fault.Signature 0 found → IsFirstRow (bar_rows policy signature verifiers) found → Cause fault
    unfit : fault ≡ token_fault.Signature 0 sig_fault.NoKey → NoRow (bar_rows policy signature verifiers) → ¬ IsEligible policy signature key verifiers → Cause fault
    bad : fault ≡ token_fault.Signature 0 sig_fault.BadSignature → IsEligible policy signature key verifiers → policy.max_calls ≢ Some 0
        → ¬ IsVerifiedByKey policy verifiers token signature key → Cause fault
    calls : fault ≡ token_fault.CallsExceeded 0 0 → IsEligible policy signature key verifiers → policy.max_calls ≡ Some 0 → Cause fault
    claim : (found : ClaimFault) → fault ≡ token_fault.Claim found → IsVerifiedByKey policy verifiers token signature key → ClaimCause found → Cause fault

  cause : (fault : Fault) → FoundMemory (Refused fault) → IsRefusal policy verifiers now token signature key fault → Cause fault
  unfolding ClaimCause
  cause token_fault.OutOfMemory found h = absurd found
  cause token_fault.VerifierMemory found h = absurd found
  cause (token_fault.Text f) found h = absurd h
  cause (token_fault.Form f) found h = absurd h
  cause (token_fault.WorkExceeded n m) found h = absurd h
  cause (token_fault.Signature n f) found (is, inl first) = bar f (ap (λ n. token_fault.Signature n f) is) first
  cause (token_fault.Signature n f) found (is, inr (inl (same, none, never))) = unfit (ap (λ n. token_fault.Signature n f) is ∙ ap (λ (f : SigFault). token_fault.Signature 0 f) same) none never
  cause (token_fault.Signature n f) found (is, inr (inr (same, eligible, allowed, never))) =
      bad (ap (λ n. token_fault.Signature n f) is ∙ ap (λ (f : SigFault). token_fault.Signature 0 f) same) eligible allowed never
  cause (token_fault.CallsExceeded n m) found (is, same, eligible, none) = calls (ap (λ n. token_fault.CallsExceeded n m) is ∙ ap (λ m. token_fault.CallsExceeded 0 m) same) eligible none
  cause (token_fault.Claim f) found (verified, why) = claim f refl verified why

  one_cause : (fault other : Fault) → Cause fault → Cause other → fault ≡ other
  one_cause fault other (bar f is h) (bar g was k) = is ∙ ap (λ (f : SigFault). token_fault.Signature 0 f) (one_row (bar_rows policy signature verifiers) f g h k) ∙ sym was
  one_cause fault other (bar f is h) (unfit was none never) = absurd (no_first (bar_rows policy signature verifiers) f none h)
  one_cause fault other (bar f is h) (bad was eligible allowed never) = absurd (no_first (bar_rows policy signature verifiers) f eligible.unbarred h)
  one_cause fault other (bar f is h) (calls was eligible none) = absurd (no_first (bar_rows policy signature verifiers) f eligible.unbarred h)
  one_cause fault other (bar f is h) (claim g was v why) = absurd (no_first (bar_rows policy signature verifiers) f v.eligible.unbarred h)
  one_cause fault other (unfit is none never) (bar g was k) = absurd (no_first (bar_rows policy signature verifiers) g none k)
  one_cause fault other (unfit is none never) (unfit was nothing nor) = is ∙ sym was
  one_cause fault other (unfit is none never) (bad was eligible allowed nor) = absurd (never eligible)
  one_cause fault other (unfit is none never) (calls was eligible zero) = absurd (never eligible)
  one_cause fault other (unfit is none never) (claim g was v why) = absurd (never v.eligible)
  one_cause fault other (bad is eligible allowed never) (bar g was k) = absurd (no_first (bar_rows policy signature verifiers) g eligible.unbarred k)
  one_cause fault other (bad is eligible allowed never) (unfit was none nor) = absurd (nor eligible)
  one_cause fault other (bad is eligible allowed never) (bad was e a nor) = is ∙ sym was
  one_cause fault other (bad is eligible allowed never) (calls was e none) = absurd (allowed none)
  one_cause fault other (bad is eligible allowed never) (claim g was v why) = absurd (never v)
  one_cause fault other (calls is eligible none) (bar g was k) = absurd (no_first (bar_rows policy signature verifiers) g eligible.unbarred k)
  one_cause fault other (calls is eligible none) (unfit was nothing nor) = absurd (nor eligible)
  one_cause fault other (calls is eligible none) (bad was e allowed nor) = absurd (allowed none)
  one_cause fault other (calls is eligible none) (calls was e zero) = is ∙ sym was
  one_cause fault other (calls is eligible none) (claim g was v why) = absurd (v.allowed none)
  one_cause fault other (claim f is v why) (bar g was k) = absurd (no_first (bar_rows policy signature verifiers) g v.eligible.unbarred k)
  one_cause fault other (claim f is v why) (unfit was none nor) = absurd (nor v.eligible)
  one_cause fault other (claim f is v why) (bad was e allowed nor) = absurd (nor v)
  one_cause fault other (claim f is v why) (calls was e none) = absurd (v.allowed none)
  one_cause fault other (claim f is v why) (claim g was w how) = is ∙ ap (λ (f : ClaimFault). token_fault.Claim f) (one_claim_cause f g why how) ∙ sym was

-- ---- each two

module _ (tells : TellsTokens) (faults : TellsTokenFaults) (objects : TellsObjects) (checks : TellsChecks)
    (policy : Settings) (verifiers : List Meaning) (now : ℤ) (request : Request) (octets : List ℕ) where
  two_tokens : (fault other : Fault) → IsTokenFault policy octets fault → IsTokenFault policy octets other → fault ≡ other
  two_tokens fault other h g = let same : Err fault ≡ Err other = sym ((faults policy octets fault).1 h) ∙ (faults policy octets other).1 g in cc

  two_keys : (a b : Token) (key other : KeyParts) → IsToken policy octets a → IsToken policy octets b → HasOwnKey a key → HasOwnKey b other
      → is_key request key.thumbprint ≡ true → ¬ (is_key request other.thumbprint ≡ false)
  two_keys a b key other is was h g bound unbound =
      let same = one_key a b key other (one_token tells policy octets a b is was) h g in
      true≢false (sym bound ∙ ap (λ (k : KeyParts). is_key request k.thumbprint) same ∙ unbound)

  keyed : (a b : Token) (key : KeyParts) (fault : KeyFault) → IsToken policy octets a → IsToken policy octets b → HasOwnKey a key → ¬ IsKeyFault b fault
  keyed a b key fault is was h = no_key_fault a b key fault (one_token tells policy octets a b is was) h

  two_refusals : (a b : Token) (key other : KeyParts) (h : HasOwnKey a key) (g : HasOwnKey b other) (fault reason : Fault) → IsToken policy octets a → IsToken policy octets b
      → FoundMemory (Refused fault) → FoundMemory (Refused reason)
      → IsRefusal policy verifiers now a h.signature key fault → IsRefusal policy verifiers now b g.signature other reason → fault ≡ reason
  two_refusals a b key other h g fault reason is was found also refusal refused =
      let same = one_token tells policy octets a b is was in
      one_cause objects policy verifiers now a h.signature key fault reason (cause objects policy verifiers now a h.signature key fault found refusal)
      (cause objects policy verifiers now a h.signature key reason also
      (refused_here policy verifiers now a b h.signature g.signature key other reason same (same_signature a b key other same h g) (one_key a b key other same h g) refused))

  accepted : (key other : KeyParts) (claims : Members) (b : Token) (g : HasOwnKey b other) (fault : Fault) → IsSignedByOwnKey policy verifiers now octets key claims
      → IsToken policy octets b → FoundMemory (Refused fault) → ¬ IsRefusal policy verifiers now b g.signature other fault
  accepted key other claims b g fault h was found refused =
      let same = one_token tells policy octets h.token b h.read was in
      not_refused objects checks policy verifiers now h.token h.has_own_key.signature key claims fault h.verified h.has_claims h.hold found
      (refused_here policy verifiers now h.token b h.has_own_key.signature g.signature key other fault same
      (same_signature h.token b key other same h.has_own_key g) (one_key h.token b key other same h.has_own_key g) refused)

  two_requests : (key other : KeyParts) (claims others : Members) (fault reason : RequestFault) → IsSignedByOwnKey policy verifiers now octets key claims
      → IsSignedByOwnKey policy verifiers now octets other others → first_row (request_rows claims request) ≡ Some fault → first_row (request_rows others request) ≡ Some reason → fault ≡ reason
  two_requests key other claims others fault reason h g is was =
      let same = one_token tells policy octets h.token g.token h.read g.read in
      let alike = one_object objects h.token.payload claims others h.has_claims.0 (subst (λ (t : Token). IsObjectText t.payload others) (sym same) g.has_claims.0) in
      let rows : Some fault ≡ Some reason = sym is ∙ ap (λ (ms : Members). first_row (request_rows ms request)) alike ∙ was in
      cc

pub one_fault : TellsTokens → TellsTokenFaults → TellsObjects → TellsChecks → ProofsHaveOneFault
one_fault tells faults objects checks policy v now r x (NoToken f) (NoToken g) of so h k = ap (λ (f : Fault). NoToken f) (two_tokens tells faults objects checks policy v now r x f g (h of) (k so))
one_fault tells faults objects checks policy v now r x (NoToken f) (NoKey g) of so h k = absurd (no_token_fault tells faults policy x (k so).0 f (k so).1 (h of))
one_fault tells faults objects checks policy v now r x (NoToken f) OtherKey of so h k = absurd (no_token_fault tells faults policy x k.0 f k.2 (h of))
one_fault tells faults objects checks policy v now r x (NoToken f) (NotAccepted g) of so h k = absurd (no_token_fault tells faults policy x k.0 f k.2 (h of))
one_fault tells faults objects checks policy v now r x (NoToken f) (OtherRequest g) of so h k = absurd (no_token_fault tells faults policy x k.2.token f k.2.read (h of))
one_fault tells faults objects checks policy v now r x (NoKey f) (NoToken g) of so h k = absurd (no_token_fault tells faults policy x (h of).0 g (h of).1 (k so))
one_fault tells faults objects checks policy v now r x (NoKey f) (NoKey g) of so h k =
    ap (λ (f : KeyFault). NoKey f) (one_key_fault (h of).0 (k so).0 f g (one_token tells policy x (h of).0 (k so).0 (h of).1 (k so).1) (h of).2 (k so).2)
one_fault tells faults objects checks policy v now r x (NoKey f) OtherKey of so h k = absurd (keyed tells faults objects checks policy v now r x k.0 (h of).0 k.1 f k.2 (h of).1 k.3 (h of).2)
one_fault tells faults objects checks policy v now r x (NoKey f) (NotAccepted g) of so h k = absurd (keyed tells faults objects checks policy v now r x k.0 (h of).0 k.1 f k.2 (h of).1 k.3 (h of).2)
one_fault tells faults objects checks policy v now r x (NoKey f) (OtherRequest g) of so h k =
    absurd (keyed tells faults objects checks policy v now r x k.2.token (h of).0 k.0 f k.2.read (h of).1 k.2.has_own_key (h of).2)
one_fault tells faults objects checks policy v now r x OtherKey (NoToken g) of so h k = absurd (no_token_fault tells faults policy x h.0 g h.2 (k so))
one_fault tells faults objects checks policy v now r x OtherKey (NoKey g) of so h k = absurd (keyed tells faults objects checks policy v now r x h.0 (k so).0 h.1 g h.2 (k so).1 h.3 (k so).2)
one_fault tells faults objects checks policy v now r x OtherKey OtherKey of so h k = refl
one_fault tells faults objects checks policy v now r x OtherKey (NotAccepted g) of so h k = absurd (two_keys tells faults objects checks policy v now r x k.0 h.0 k.1 h.1 k.2 h.2 k.3 h.3 k.4 h.4)
one_fault tells faults objects checks policy v now r x OtherKey (OtherRequest g) of so h k =
    absurd (two_keys tells faults objects checks policy v now r x k.2.token h.0 k.0 h.1 k.2.read h.2 k.2.has_own_key h.3 k.3 h.4)
one_fault tells faults objects checks policy v now r x (NotAccepted f) (NoToken g) of so h k = absurd (no_token_fault tells faults policy x h.0 g h.2 (k so))
one_fault tells faults objects checks policy v now r x (NotAccepted f) (NoKey g) of so h k = absurd (keyed tells faults objects checks policy v now r x h.0 (k so).0 h.1 g h.2 (k so).1 h.3 (k so).2)
one_fault tells faults objects checks policy v now r x (NotAccepted f) OtherKey of so h k = absurd (two_keys tells faults objects checks policy v now r x h.0 k.0 h.1 k.1 h.2 k.2 h.3 k.3 h.4 k.4)
one_fault tells faults objects checks policy v now r x (NotAccepted f) (NotAccepted g) of so h k =
    ap (λ (f : Fault). NotAccepted f) (two_refusals tells faults objects checks policy v now r x h.0 k.0 h.1 k.1 h.3 k.3 f g h.2 k.2 of so h.5 k.5)
one_fault tells faults objects checks policy v now r x (NotAccepted f) (OtherRequest g) of so h k = absurd (accepted tells faults objects checks policy v now r x k.0 h.1 k.1 h.0 h.3 f k.2 h.2 of h.5)
one_fault tells faults objects checks policy v now r x (OtherRequest f) (NoToken g) of so h k = absurd (no_token_fault tells faults policy x h.2.token g h.2.read (k so))
one_fault tells faults objects checks policy v now r x (OtherRequest f) (NoKey g) of so h k =
    absurd (keyed tells faults objects checks policy v now r x h.2.token (k so).0 h.0 g h.2.read (k so).1 h.2.has_own_key (k so).2)
one_fault tells faults objects checks policy v now r x (OtherRequest f) OtherKey of so h k =
    absurd (two_keys tells faults objects checks policy v now r x h.2.token k.0 h.0 k.1 h.2.read k.2 h.2.has_own_key k.3 h.3 k.4)
one_fault tells faults objects checks policy v now r x (OtherRequest f) (NotAccepted g) of so h k = absurd (accepted tells faults objects checks policy v now r x h.0 k.1 h.1 k.0 k.3 g h.2 k.2 so k.5)
one_fault tells faults objects checks policy v now r x (OtherRequest f) (OtherRequest g) of so h k =
    ap (λ (f : RequestFault). OtherRequest f) (two_requests tells faults objects checks policy v now r x h.0 k.0 h.1 k.1 f g h.2 k.2 h.4 k.4)
one_fault tells faults objects checks policy v now r x OutOfMemory other of so h k = absurd of
one_fault tells faults objects checks policy v now r x fault OutOfMemory of so h k = absurd so
