-- What the states of a run come to is what the table says of the signatures.
use Rattle.std.proofs.Common.{◌≡◌, ℕ, zero, suc, ◌<◌, ◌≤◌, Bool, true, false, List, [], ◌∷◌, length, Option, Some, None, arith, add-one, zero-add, refl, sym, ◌∙◌, ap, inl, inr}
use Rattle.std.specs.Prelude.{slice_get, not}
use Rattle.std.specs.List.{range_with_len, list_any, list_all, find}
use Rattle.std.proofs.lemmas.Bool.{cases_Bool}
use Rattle.std.proofs.lemmas.List.{length-map}
use Rattle.std.proofs.lemmas.List.FromFn.{get_or-range_with_len, length-range_with_len}
use Rattle.std.proofs.lemmas.Option.{slice_get-map, slice_get-get_or}
use Rattle.jwt_policy.specs.declared.mode.Mode.{Mode}
use Rattle.jwt_policy.specs.declared.mode.Mode.TheVariants.{Any, All}
use Rattle.jwt_policy.specs.declared.sig_fault.SigFault.{SigFault}
use Rattle.jwt_verify.specs.declared.report.SigState.{SigState}
use Rattle.jwt_verify.specs.Table.{Table, below, verifies, verified, reached_in, reached, outcome, state_at, states_at}
use Rattle.jwt_verify.proofs.SignedBy.{state_of}
use Rattle.jwt_verify.specs.Verdict.{first_in, fault_of, key_at, fault_at, signing_in, signing_of}
use Rattle.jwt_verify.proofs.SignedBy.{verifying_key, verifying_key_in, fault_in, signing_by}
use Rattle.jwt_verify.proofs.Below.{below-zero, length-below, list_any-gap, list_all-below}
use Rattle.jwt_verify.proofs.First.{first_none_at, first_agree}
use Rattle.jwt_verify.proofs.Walking.{find_none, verifies_ineligible}
use Rattle.jwt_verify.proofs.Ending.{state_reached}

-- ---- lists of numbers

slice_below : (n i : ℕ) → i < n → slice_get (below n) i ≡ Some i
unfolding below
slice_below n i l = slice_get-get_or (range_with_len 0 n) i 0 (rw length-range_with_len l) ∙ ap Some (get_or-range_with_len 0 n i 0 l ∙ zero-add i)

pub none_below : (p : ℕ → Bool) (n : ℕ) → ((k : ℕ) → k < n → p k ≡ false) → list_any p (below n) ≡ false
none_below p n h = ap (λ m. list_any p (below m)) (sym (zero-add n)) ∙ list_any-gap p 0 n (λ k lo hi. h k (omega (arith, hi))) ∙ rw below-zero refl

all_below : (p : ℕ → Bool) (n : ℕ) → ((k : ℕ) → k < n → p k ≡ true) → list_all p (below n) ≡ true
all_below p zero h = rw below-zero refl
all_below p (suc n) h = rw (sym (add-one n)) (list_all-below p n ∙ rw (all_below p n (λ k l. h k (omega arith)), h n (omega arith)) refl)

pub found_any : (p : ℕ → Bool) (xs : List ℕ) (j : ℕ) → find p xs ≡ Some j → list_any p xs ≡ true
found_any p [] j h = cc
found_any p (x ∷ xs) j h = elim (cases_Bool (p x)) [
  | inl y ↦ rw y refl
  | inr n ↦ (let k = rw n at h in rw n (found_any p xs j k))
]

pub not_found : (p : ℕ → Bool) (xs : List ℕ) → find p xs ≡ None → list_any p xs ≡ false
not_found p [] h = refl
not_found p (x ∷ xs) h = elim (cases_Bool (p x)) [
  | inl y ↦ (let k = rw y at h in cc)
  | inr n ↦ (let k = rw n at h in rw n (not_found p xs k))
]

-- ---- one signature

state_key : (seen : Bool) (found : Option ℕ) → verifying_key (state_of None seen found) ≡ found
state_key seen (Some j) = refl
state_key true None = refl
state_key false None = refl

-- a barred signature has no eligible key, so the state tells the key
key_is : (t : Table) (i : ℕ) → ((j : ℕ) → t.eligible i j ≡ true → t.bar i ≡ None) → verifying_key (outcome t i) ≡ key_at t i
unfolding outcome
key_is t i barred = go (t.bar i) refl
  where
    go : (o : Option SigFault) → o ≡ t.bar i → verifying_key (state_of o (list_any (t.eligible i) (below t.keys)) (find (verifies t i) (below t.keys))) ≡ find (verifies t i) (below t.keys)
    go None e = state_key (list_any (t.eligible i) (below t.keys)) (find (verifies t i) (below t.keys))
    go (Some f) e = sym (find_none (verifies t i) (below t.keys) (none_below (verifies t i) t.keys
        (λ j l. elim (cases_Bool (t.eligible i j)) [ inl y ↦ (let q = e ∙ barred j y in cc) | inr n ↦ verifies_ineligible t i j n ])))

pub key_none : (t : Table) (i : ℕ) → key_at t i ≡ None → verified t i ≡ false
unfolding verified
key_none t i h = not_found (verifies t i) (below t.keys) h

state_fault : (o : Option SigFault) (seen : Bool) (found : Option ℕ) → fault_of (state_of o seen found) ≡ None → (j : ℕ) × (found ≡ Some j)
state_fault (Some f) seen found h = cc
state_fault None seen (Some j) h = (j, refl)
state_fault None true None h = cc
state_fault None false None h = cc

pub fault_none : (t : Table) (i : ℕ) → fault_at t i ≡ None → verified t i ≡ true
unfolding outcome verified
fault_none t i h = let q = state_fault (t.bar i) (list_any (t.eligible i) (below t.keys)) (find (verifies t i) (below t.keys)) h in found_any (verifies t i) (below t.keys) q.0 q.1

reached_any : (t : Table) (i : ℕ) → t.mode ≡ Any → ((k : ℕ) → k < i → verified t k ≡ false) → reached t i ≡ true
unfolding reached reached_in
reached_any t i m h = ap (λ m. reached_in m t i) m ∙ ap not (none_below (verified t) i h)

reached_all : (t : Table) (i : ℕ) → t.mode ≡ All → ((k : ℕ) → k < i → verified t k ≡ true) → reached t i ≡ true
unfolding reached reached_in
reached_all t i m h = ap (λ m. reached_in m t i) m ∙ all_below (verified t) i h

-- ---- all of them

any_same : (v w : Option (ℕ × ℕ)) (f g : Option (ℕ × SigFault)) → v ≡ w → (w ≡ None → f ≡ g) → signing_in Any v f ≡ signing_in Any w g
any_same v (Some p) f g e h = rw e refl
any_same v None f g e h = rw (e, h refl) refl

all_same : (v w : Option (ℕ × ℕ)) (f g : Option (ℕ × SigFault)) → f ≡ g → (g ≡ None → v ≡ w) → signing_in All v f ≡ signing_in All w g
all_same v w f (Some p) e h = rw e refl
all_same v w f None e h = rw (e, h refl) refl

module _ (t : Table) (sts : List SigState) (barred : (i j : ℕ) → t.eligible i j ≡ true → t.bar i ≡ None) (listed : sts ≡ states_at t None) where
  here : (i : ℕ) → i < t.signatures → reached t i ≡ true → slice_get sts i ≡ Some (outcome t i)
  unfolding states_at
  here i l r = ap (λ xs. slice_get xs i) listed ∙ slice_get-map (state_at t None) (below t.signatures) i ∙ rw (slice_below t.signatures i l) (ap Some (state_reached t i r))

  key_here : (i : ℕ) → i < t.signatures → reached t i ≡ true → verifying_key_in sts i ≡ key_at t i
  key_here i l r = rw (here i l r) (key_is t i (barred i))

  fault_here : (i : ℕ) → i < t.signatures → reached t i ≡ true → fault_in sts i ≡ fault_at t i
  fault_here i l r = rw (here i l r) refl

  any_reached : t.mode ≡ Any → (n i : ℕ) → i ≤ n → first_in (key_at t) (below n) ≡ None → reached t i ≡ true
  any_reached m n i l h = reached_any t i m (λ k lk. key_none t k (first_none_at (key_at t) n k (omega (arith, lk, l)) h))

  all_reached : t.mode ≡ All → (n i : ℕ) → i ≤ n → first_in (fault_at t) (below n) ≡ None → reached t i ≡ true
  all_reached m n i l h = reached_all t i m (λ k lk. fault_none t k (first_none_at (fault_at t) n k (omega (arith, lk, l)) h))

  keys_any : t.mode ≡ Any → first_in (verifying_key_in sts) (below t.signatures) ≡ first_in (key_at t) (below t.signatures)
  keys_any m = first_agree (key_at t) (verifying_key_in sts) t.signatures (λ i l h. key_here i l (any_reached m i i (omega arith) h))

  faults_any : t.mode ≡ Any → first_in (key_at t) (below t.signatures) ≡ None → first_in (fault_in sts) (below t.signatures) ≡ first_in (fault_at t) (below t.signatures)
  faults_any m none = first_agree (fault_at t) (fault_in sts) t.signatures (λ i l h. fault_here i l (any_reached m t.signatures i (omega (arith, l)) none))

  faults_all : t.mode ≡ All → first_in (fault_in sts) (below t.signatures) ≡ first_in (fault_at t) (below t.signatures)
  faults_all m = first_agree (fault_at t) (fault_in sts) t.signatures (λ i l h. fault_here i l (all_reached m i i (omega arith) h))

  keys_all : t.mode ≡ All → first_in (fault_at t) (below t.signatures) ≡ None → first_in (verifying_key_in sts) (below t.signatures) ≡ first_in (key_at t) (below t.signatures)
  keys_all m none = first_agree (key_at t) (verifying_key_in sts) t.signatures (λ i l h. key_here i l (all_reached m t.signatures i (omega (arith, l)) none))

  by_mode : (m : Mode) → t.mode ≡ m → signing_in m (first_in (verifying_key_in sts) (below t.signatures)) (first_in (fault_in sts) (below t.signatures))
      ≡ signing_in m (first_in (key_at t) (below t.signatures)) (first_in (fault_at t) (below t.signatures))
  by_mode Any m = any_same (first_in (verifying_key_in sts) (below t.signatures)) (first_in (key_at t) (below t.signatures)) (first_in (fault_in sts) (below t.signatures)) (first_in (fault_at t) (below t.signatures)) (keys_any m) (faults_any m)
  by_mode All m = all_same (first_in (verifying_key_in sts) (below t.signatures)) (first_in (key_at t) (below t.signatures)) (first_in (fault_in sts) (below t.signatures)) (first_in (fault_at t) (below t.signatures)) (faults_all m) (keys_all m)

  length_states : length sts ≡ t.signatures
  unfolding states_at
  length_states = ap length listed ∙ length-map (below t.signatures) (state_at t None) ∙ length-below t.signatures

  pub signing_is : signing_by t.mode sts ≡ signing_of t
  unfolding signing_of
  signing_is = ap (λ n. signing_in t.mode (first_in (verifying_key_in sts) (below n)) (first_in (fault_in sts) (below n))) length_states ∙ by_mode t.mode refl
