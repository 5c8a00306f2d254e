-- The states of a run, in words and as they are computed.
use Rattle.std.proofs.Common.{◌≡◌, ℕ, ◌<◌, inl, inr, Bool, true, false, List, [], ◌∷◌, map, Option, Some, None, refl, sym, ◌∙◌, ap, subst, arith}
use Rattle.std.specs.List.{list_any, AllZip}
use Rattle.std.proofs.Math.Bool.{and-false}
use Rattle.std.proofs.lemmas.Bool.{cases_Bool, cases_lt, lt-ltb, le-ltb, eq-eqb, ne_eqb}
use Rattle.jwt_policy.specs.declared.sig_fault.SigFault.{SigFault}
use Rattle.jwt_verify.specs.declared.report.Try.{Try}
use Rattle.jwt_verify.specs.declared.report.SigState.{SigState}
use Rattle.jwt_verify.specs.declared.report.SigState.TheVariants.{Barred, NoKey, BadSignature, Verified, NotReached, Stopped}
use Rattle.jwt_verify.specs.Table.{Table, below, verified, verifies, reached, outcome, state_at, states_at}
use Rattle.jwt_verify.proofs.SignedBy.{state_of}
use Rattle.jwt_verify.specs.Verdict.{key_at}
use Rattle.jwt_verify.specs.Accepted.{IsLeastKey}
use Rattle.jwt_verify.specs.Reports.{GoesThrough, IsStateAt}
use Rattle.jwt_verify.proofs.Least.{least_found}
use Rattle.jwt_verify.proofs.Walking.{verifies_ineligible}
use Rattle.jwt_verify.proofs.Signing.{none_below, key_none}
use Rattle.jwt_verify.proofs.Accepting.{any_true, any_at, find_least, least_find, not_verified}

-- ---- what becomes of a signature that the run goes through

module _ (t : Table) (i : ℕ) where
  abbrev seen : Bool
  seen = list_any (t.eligible i) (below t.keys)

  outcome_is : outcome t i ≡ state_of (t.bar i) seen (key_at t i)
  unfolding outcome
  outcome_is = refl

  outcome_by : (b : Option SigFault) (s : Bool) (k : Option ℕ) → t.bar i ≡ b → seen ≡ s → key_at t i ≡ k → outcome t i ≡ state_of b s k
  outcome_by b s k bar any key =
      outcome_is ∙ ap (λ b. state_of b seen (key_at t i)) bar ∙ ap (λ s. state_of b s (key_at t i)) any ∙ ap (λ k. state_of b s k) key

  outcome_barred : (f : SigFault) → t.bar i ≡ Some f → outcome t i ≡ Barred f
  outcome_barred f bar = outcome_by (Some f) seen (key_at t i) bar refl refl

  outcome_verified : (j : ℕ) → t.bar i ≡ None → IsLeastKey t i j → outcome t i ≡ Verified j
  outcome_verified j bar (l, y, least) = outcome_by None seen (Some j) bar refl (find_least (verifies t i) t.keys j l y least)

  outcome_no_key : t.bar i ≡ None → ((j : ℕ) → j < t.keys → t.eligible i j ≡ false) → outcome t i ≡ NoKey
  unfolding verified
  outcome_no_key bar none =
      let not : verified t i ≡ false = none_below (verifies t i) t.keys (λ j l. verifies_ineligible t i j (none j l)) in
      outcome_by None false None bar (none_below (t.eligible i) t.keys none) (not_verified t i not)

  outcome_bad : (j : ℕ) → t.bar i ≡ None → verified t i ≡ false → j < t.keys → t.eligible i j ≡ true → outcome t i ≡ BadSignature
  outcome_bad j bar not l y = outcome_by None true None bar (any_true (t.eligible i) t.keys j l y) (not_verified t i not)

  outcome_words : (o : Option Try) → GoesThrough t o i → IsStateAt t o i (outcome t i)
  outcome_words o g = subst (IsStateAt t o i) (sym outcome_is) (go (t.bar i) refl seen refl (key_at t i) refl)
    where
      go : (b : Option SigFault) → b ≡ t.bar i → (s : Bool) → s ≡ seen → (k : Option ℕ) → k ≡ key_at t i → IsStateAt t o i (state_of b s k)
      go (Some f) bar s any k key = (g, sym bar)
      go None bar s any (Some j) key = (g, sym bar, least_find (verifies t i) t.keys j (sym key))
      go None bar true any None key = let l = least_found (t.eligible i) t.keys (sym any) in (g, sym bar, key_none t i (sym key), (l.0, l.1, l.2))
      go None bar false any None key = (g, sym bar, λ j l. any_at (t.eligible i) t.keys j (sym any) l)

-- ---- by the pair at which the run stops

signature_of : (e f : Try) → Some e ≡ Some f → e.signature ≡ f.signature
signature_of e f is = let same : e ≡ f = cc in ap (λ (e : Try). e.signature) same

module _ (t : Table) (i : ℕ) where
  passed_none : reached t i ≡ true → state_at t None i ≡ outcome t i
  unfolding state_at
  passed_none here = rw here refl

  passed_some : (e : Try) → reached t i ≡ true → i < e.signature → state_at t (Some e) i ≡ outcome t i
  unfolding state_at
  passed_some e here l = rw (ne_eqb e.signature i (λ same. omega (arith, same, l)), here, le-ltb e.signature i (omega (arith, l))) refl

  missed_none : reached t i ≡ false → state_at t None i ≡ NotReached
  unfolding state_at
  missed_none not = rw not refl

  missed_some : (e : Try) → reached t i ≡ false → (e.signature ≡ i → ⊥) → state_at t (Some e) i ≡ NotReached
  unfolding state_at
  missed_some e not other = rw (ne_eqb e.signature i other, not) refl

  passed_before : (e : Try) → e.signature < i → state_at t (Some e) i ≡ NotReached
  unfolding state_at
  passed_before e l = rw (ne_eqb e.signature i (λ same. omega (arith, same, l)), lt-ltb e.signature i l, and-false (reached t i)) refl

  stopped_here : (e : Try) → e.signature ≡ i → state_at t (Some e) i ≡ Stopped
  unfolding state_at
  stopped_here e same = rw (eq-eqb e.signature i same) refl

  gone : (o : Option Try) → GoesThrough t o i → state_at t o i ≡ outcome t i
  gone None g = passed_none g.0
  gone (Some e) g = passed_some e g.0 (g.1 e refl)

  missed : (o : Option Try) → reached t i ≡ false → ((e : Try) → o ≡ Some e → e.signature ≡ i → ⊥) → state_at t o i ≡ NotReached
  missed None not other = missed_none not
  missed (Some e) not other = missed_some e not (other e refl)

  -- it has one state in words
  pub state_is : (o : Option Try) (s : SigState) → IsStateAt t o i s → state_at t o i ≡ s
  state_is o Stopped (e, is, same) = ap (λ o. state_at t o i) is ∙ stopped_here e same
  state_is o NotReached (inl (e, is, l)) = ap (λ o. state_at t o i) is ∙ passed_before e l
  state_is o NotReached (inr (not, other)) = missed o not other
  state_is o (Barred f) (g, bar) = gone o g ∙ outcome_barred t i f bar
  state_is o (Verified j) (g, bar, least) = gone o g ∙ outcome_verified t i j bar least
  state_is o NoKey (g, bar, none) = gone o g ∙ outcome_no_key t i bar none
  state_is o BadSignature (g, bar, not, (j, l, y)) = gone o g ∙ outcome_bad t i j bar not l y

  through : (o : Option Try) → GoesThrough t o i → IsStateAt t o i (state_at t o i)
  through o g = subst (IsStateAt t o i) (sym (gone o g)) (outcome_words t i o g)

  unseen : (o : Option Try) → reached t i ≡ false → ((e : Try) → o ≡ Some e → e.signature ≡ i → ⊥) → IsStateAt t o i (state_at t o i)
  unseen o not other = subst (IsStateAt t o i) (sym (missed o not other)) (inr (not, other))

  -- and it is the one that is computed
  pub is_state : (o : Option Try) → IsStateAt t o i (state_at t o i)
  is_state None = elim (cases_Bool (reached t i)) [
    | inl here ↦ through None (here, λ e is. cc)
    | inr not ↦ unseen None not (λ e is. cc)
  ]
  is_state (Some e) = elim (cases_lt e.signature i) [
    | inl l ↦ subst (IsStateAt t (Some e) i) (sym (passed_before e l)) (inl (e, refl, l))
    | inr m ↦ elim (cases_lt i e.signature) [
      | inl l ↦ elim (cases_Bool (reached t i)) [
        | inl here ↦ through (Some e) (here, λ f is. omega (arith, l, signature_of e f is))
        | inr not ↦ unseen (Some e) not (λ f is same. omega (arith, l, same, signature_of e f is))
      ]
      | inr n ↦ (let same : e.signature ≡ i = omega (arith, m, n) in subst (IsStateAt t (Some e) i) (sym (stopped_here e same)) (e, refl, same))
    ]
  ]

-- ---- all of them

module _ (t : Table) (o : Option Try) where
  zip_states : (is : List ℕ) → AllZip (IsStateAt t o) is (map (state_at t o) is)
  zip_states [] = tt
  zip_states (i ∷ is) = (is_state t i o, zip_states is)

  states_zip : (is : List ℕ) (sts : List SigState) → AllZip (IsStateAt t o) is sts → sts ≡ map (state_at t o) is
  states_zip [] [] h = refl
  states_zip [] (s ∷ sts) h = absurd h
  states_zip (i ∷ is) [] h = absurd h
  states_zip (i ∷ is) (s ∷ sts) h = ap (λ z. z ∷ sts) (sym (state_is t i o s h.0)) ∙ ap (λ zs. state_at t o i ∷ zs) (states_zip is sts h.1)

  pub states_are : AllZip (IsStateAt t o) (below t.signatures) (states_at t o)
  unfolding states_at
  states_are = zip_states (below t.signatures)

  pub are_states : (sts : List SigState) → AllZip (IsStateAt t o) (below t.signatures) sts → sts ≡ states_at t o
  unfolding states_at
  are_states sts h = states_zip (below t.signatures) sts h
