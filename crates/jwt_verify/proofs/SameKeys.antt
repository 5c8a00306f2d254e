-- More keys never refuse, and the same keys give the same verdict.
use Rattle.std.proofs.Common.{◌≡◌, ℕ, ℤ, ◌+◌, ◌<◌, true, false, List, [], ◌∷◌, map, refl, sym, ◌∙◌, ap, subst, arith, Option, None, Some, Result, Ok, Err}
use Rattle.std.specs.Option.{option_map_or}
use Rattle.serde_json.specs.Data.{Members}
use Rattle.jwt_jws.specs.Token.{Token}
use Rattle.jwt_keys.specs.Keys.{KeyParts}
use Rattle.jwt_policy.specs.declared.mode.Mode.{Mode}
use Rattle.jwt_policy.specs.declared.mode.Mode.TheVariants.{Any, All}
use Rattle.jwt_policy.specs.declared.sig_fault.SigFault.{SigFault}
use Rattle.jwt_policy.specs.declared.claim_fault.ClaimFault.{ClaimFault}
use Rattle.jwt_policy.specs.Settings.{Settings}
use Rattle.jwt_policy.specs.ClaimKinds.{claims_of}
use Rattle.jwt_policy.specs.Checks.{check_of}
use Rattle.jwt_verify.specs.declared.report.SigState.{SigState}
use Rattle.jwt_verify.specs.declared.report.SigState.TheVariants.{Barred, NoKey, BadSignature, Verified, NotReached, Stopped}
use Rattle.jwt_verify.specs.declared.report.Fault.{Fault}
use Rattle.jwt_verify.specs.declared.report.Verdict.TheVariants.{Accepted, Refused}
use Rattle.jwt_verify.specs.Table.{Table, below, verifies, verified, outcome, stop, states_at}
use Rattle.jwt_verify.specs.Trying.{table_of}
use Rattle.jwt_verify.specs.Verdict.{Terms, Signing, VerifiedBy, Unverified, first_in, fault_of, key_at, fault_at, unverified, verified_or, signing_in, signing_of, checked, claims_verdict, conclusion, unless_stopped, token_verdict, token_of, decided, verdict_of, table}
use Rattle.jwt_verify.specs.Accepted.{IsLeastKey, Counts, IsVerifiedBy}
use Rattle.jwt_verify.specs.Laws.{AreAmong, with_keys, MoreKeys, SameKeys, kind_of_state, without_key}
use Rattle.jwt_verify.proofs.First.{first_agree}
use Rattle.jwt_verify.proofs.Bounds.{never_stops}
use Rattle.jwt_verify.proofs.Least.{least_found}
use Rattle.jwt_verify.proofs.Signing.{key_none}
use Rattle.jwt_verify.proofs.Judged.{no_states, table_none, table_of_token}
use Rattle.jwt_verify.proofs.Accepting.{accepts_exactly_holds, is_token, any_at, any_true, stop_done, verified_key}
use Rattle.jwt_verify.proofs.Keys.{verified_more, verified_same, outcome_same, states_same}

-- ---- more keys

-- a verified signature has a least key
least_key : (t : Table) (i : ℕ) → verified t i ≡ true → (j : ℕ) × IsLeastKey t i j
unfolding verified
least_key t i v = let l = least_found (verifies t i) t.keys v in (l.0, (l.1, l.2, λ n m. any_at (verifies t i) l.0 n l.3 m))

verified_by_key : (t : Table) (i j : ℕ) → IsLeastKey t i j → verified t i ≡ true
unfolding verified
verified_by_key t i j k = any_true (verifies t i) t.keys j k.0 k.1

more_counts : (t u : Table) → u.mode ≡ t.mode → u.signatures ≡ t.signatures → ((i : ℕ) → verified t i ≡ true → verified u i ≡ true)
    → (i j : ℕ) → IsVerifiedBy t i j → (m : ℕ) × (n : ℕ) × IsVerifiedBy u m n
more_counts t u same count more i j h = go t.mode h.1 (λ m c. c) same
  where
    go : (m : Mode) → Counts m t i → ((k : ℕ) → Counts m u k → Counts m u k) → u.mode ≡ m → (m : ℕ) × (n : ℕ) × IsVerifiedBy u m n
    go Any c k e =
        let v : verified u i ≡ true = more i (verified_by_key t i j h.2) in
        let l = least_found (verified u) (i + 1) (any_true (verified u) (i + 1) i (omega arith) v) in
        let key = least_key u l.0 l.2 in
        (l.0, key.0, (omega (arith, l.1, h.0, count), subst (λ m. Counts m u l.0) (sym e) (λ k m. any_at (verified u) l.0 k l.3 m), key.1))
    go All c k e =
        let each : (n : ℕ) → n < u.signatures → verified u n ≡ true = λ n l. more n (c.1 n (omega (arith, l, count))) in
        let key = least_key u 0 (each 0 (omega (arith, h.0, count))) in
        (0, key.0, (omega (arith, h.0, count), subst (λ m. Counts m u 0) (sym e) (refl, each), key.1))

pub more_keys_unstopped : (q : Terms) (more : List KeyParts) (x : List ℕ) (w more_w i j : ℕ) (claims : Members) → AreAmong more q.keys
    → stop (table (with_keys q more) x) more_w q.policy.max_calls ≡ None → verdict_of q x w ≡ Accepted i j claims
    → (m : ℕ) × (n : ℕ) × (verdict_of (with_keys q more) x more_w ≡ Accepted m n claims)
more_keys_unstopped q more x w more_w i j claims among none accepted =
    let a = (accepts_exactly_holds q x w i j claims).0 accepted in
    let p = with_keys q more in
    let e : token_of q.policy x ≡ Ok a.token = is_token q x a.token a.signed in
    let t : table q x ≡ table_of q.policy q.verifiers q.keys a.token = sym (table_of_token q x a.token e) in
    let u : table p x ≡ table_of q.policy q.verifiers more a.token = sym (table_of_token p x a.token e) in
    let by = more_counts (table_of q.policy q.verifiers q.keys a.token) (table_of q.policy q.verifiers more a.token) refl refl
    (verified_more q.policy q.verifiers a.token q.keys more among) i j (subst (λ t. IsVerifiedBy t i j) t a.verified_by) in (
      by.0,
      by.1,
      (accepts_exactly_holds p x more_w by.0 by.1 claims).1 (record {
        token = a.token;
        signed = a.signed;
        unstopped = none;
        verified_by = subst (λ t. IsVerifiedBy t by.0 by.1) (sym u) by.2;
        read = a.read;
        hold = a.hold;
      }),
    )

pub more_keys_hold : MoreKeys
more_keys_hold q more x w more_w i j claims among room accepted =
    more_keys_unstopped q more x w more_w i j claims among (never_stops (table (with_keys q more) x) more_w q.policy.max_calls room.0 room.1) accepted

-- ---- the same keys

-- what the signatures come to, without the key
abbrev blind : Signing → Signing
blind (VerifiedBy i j) = VerifiedBy i 0
blind (Unverified i f) = Unverified i f

blind_claimed : (p : Settings) (now : ℤ) (i j : ℕ) (r : Result Members ClaimFault) → without_key (claims_verdict p now i j r) ≡ without_key (claims_verdict p now i 0 r)
blind_claimed p now i j (Err f) = refl
blind_claimed p now i j (Ok claims) = go (check_of p claims now)
  where
    go : (o : Option ClaimFault) → without_key (checked i j claims o) ≡ without_key (checked i 0 claims o)
    go None = refl
    go (Some f) = refl

blind_concluded : (p : Settings) (now : ℤ) (payload : List ℕ) (s : Signing) → without_key (conclusion p now payload s) ≡ without_key (conclusion p now payload (blind s))
blind_concluded p now payload (VerifiedBy i j) = blind_claimed p now i j (claims_of payload)
blind_concluded p now payload (Unverified i f) = refl

-- the number alone
abbrev number_of : Option (ℕ × ℕ) → Option ℕ
number_of o = option_map_or (λ p. Some p.0) o None

blind_unverified : (f : Option (ℕ × SigFault)) → blind (unverified f) ≡ unverified f
blind_unverified None = refl
blind_unverified (Some f) = refl

blind_or : (f : Option (ℕ × SigFault)) (v u : Option (ℕ × ℕ)) → number_of v ≡ number_of u → blind (verified_or f v) ≡ blind (verified_or f u)
blind_or f None None h = refl
blind_or f None (Some u) h = cc
blind_or f (Some v) None h = cc
blind_or f (Some v) (Some u) h = let e : v.0 ≡ u.0 = cc in ap (λ i. VerifiedBy i 0) e

blind_in : (m : Mode) (v u : Option (ℕ × ℕ)) (f : Option (ℕ × SigFault)) → number_of v ≡ number_of u → blind (signing_in m v f) ≡ blind (signing_in m u f)
blind_in Any v u f h = blind_or f v u h
blind_in All v u None h = blind_or None v u h
blind_in All v u (Some f) h = refl

numbers_same : (f g : ℕ → Option ℕ) → ((i : ℕ) → option_map_or (λ j. true) (f i) false ≡ option_map_or (λ j. true) (g i) false) → (is : List ℕ) → number_of (first_in f is) ≡ number_of (first_in g is)
numbers_same f g h [] = refl
numbers_same f g h (i ∷ is) = go (f i) (g i) (h i) (numbers_same f g h is)
  where
    go : (o p : Option ℕ) → option_map_or (λ j. true) o false ≡ option_map_or (λ j. true) p false → number_of (first_in f is) ≡ number_of (first_in g is)
        → number_of (option_map_or (λ a. Some (i, a)) o (first_in f is)) ≡ number_of (option_map_or (λ a. Some (i, a)) p (first_in g is))
    go None None e rest = rest
    go None (Some b) e rest = cc
    go (Some a) None e rest = cc
    go (Some a) (Some b) e rest = refl

key_there : (t : Table) (i : ℕ) → option_map_or (λ j. true) (key_at t i) false ≡ verified t i
key_there t i = go (key_at t i) refl
  where
    go : (o : Option ℕ) → o ≡ key_at t i → option_map_or (λ j. true) o false ≡ verified t i
    go None e = sym (key_none t i (sym e))
    go (Some j) e = sym (verified_key t i j (sym e))

fault_kind : (s : SigState) → fault_of s ≡ fault_of (kind_of_state s)
fault_kind (Barred f) = refl
fault_kind NoKey = refl
fault_kind BadSignature = refl
fault_kind (Verified j) = refl
fault_kind NotReached = refl
fault_kind Stopped = refl

same_signing : (t u : Table) → u.mode ≡ t.mode → u.signatures ≡ t.signatures → ((i : ℕ) → verified t i ≡ verified u i) → ((i : ℕ) → kind_of_state (outcome t i) ≡ kind_of_state (outcome u i))
    → blind (signing_of t) ≡ blind (signing_of u)
unfolding signing_of
same_signing t u mode count same kinds =
    let keys = numbers_same (key_at t) (key_at u) (λ i. key_there t i ∙ same i ∙ sym (key_there u i)) (below t.signatures) in
    let faults : first_in (fault_at t) (below t.signatures) ≡ first_in (fault_at u) (below t.signatures) =
    first_agree (fault_at u) (fault_at t) t.signatures (λ i l h. fault_kind (outcome t i) ∙ ap fault_of (kinds i) ∙ sym (fault_kind (outcome u i))) in
    blind_in t.mode (first_in (key_at t) (below t.signatures)) (first_in (key_at u) (below t.signatures)) (first_in (fault_at t) (below t.signatures)) keys
    ∙ ap (λ f. blind (signing_in t.mode (first_in (key_at u) (below t.signatures)) f)) faults
    ∙ ap (λ m. blind (signing_in m (first_in (key_at u) (below t.signatures)) (first_in (fault_at u) (below t.signatures)))) (sym mode)
    ∙ ap (λ n. blind (signing_in u.mode (first_in (key_at u) (below n)) (first_in (fault_at u) (below n)))) (sym count)

verdict_here : (q : Terms) (x : List ℕ) (w : ℕ) (t : Token) → token_of q.policy x ≡ Ok t → stop (table q x) w q.policy.max_calls ≡ None
    → verdict_of q x w ≡ conclusion q.policy q.now t.payload (signing_of (table_of q.policy q.verifiers q.keys t))
unfolding verdict_of token_verdict
verdict_here q x w t e none =
    let T = table_of q.policy q.verifiers q.keys t in
    let free : stop T w q.policy.max_calls ≡ None = subst (λ t. stop t w q.policy.max_calls ≡ None) (sym (table_of_token q x t e)) none in
    ap (decided q w) e ∙ ap (λ r. unless_stopped r (conclusion q.policy q.now t.payload (signing_of T))) (stop_done T w q.policy.max_calls free)

verdict_refused : (q : Terms) (x : List ℕ) (w : ℕ) (f : Fault) → token_of q.policy x ≡ Err f → verdict_of q x w ≡ Refused f
unfolding verdict_of
verdict_refused q x w f e = ap (decided q w) e

pub same_keys_unstopped : (q : Terms) (others : List KeyParts) (x : List ℕ) (w other_w : ℕ) → AreAmong others q.keys → AreAmong q.keys others
    → stop (table q x) w q.policy.max_calls ≡ None → stop (table (with_keys q others) x) other_w q.policy.max_calls ≡ None
    → (without_key (verdict_of q x w) ≡ without_key (verdict_of (with_keys q others) x other_w))
    × (map kind_of_state (states_at (table q x) (stop (table q x) w q.policy.max_calls)) ≡ map kind_of_state (states_at (table (with_keys q others) x) (stop (table (with_keys q others) x) other_w q.policy.max_calls)))
same_keys_unstopped q others x w other_w h k none other_none = go (token_of q.policy x) refl
  where
    go : (r : Result Token Fault) → r ≡ token_of q.policy x
        → (without_key (verdict_of q x w) ≡ without_key (verdict_of (with_keys q others) x other_w))
        × (map kind_of_state (states_at (table q x) (stop (table q x) w q.policy.max_calls)) ≡ map kind_of_state (states_at (table (with_keys q others) x) (stop (table (with_keys q others) x) other_w q.policy.max_calls)))
    go (Err f) e = (
      ap without_key (verdict_refused q x w f (sym e) ∙ sym (verdict_refused (with_keys q others) x other_w f (sym e))),
      ap (map kind_of_state) (no_states (table q x) (stop (table q x) w q.policy.max_calls) (table_none q x f (sym e)) ∙ sym (no_states (table (with_keys q others) x) (stop (table (with_keys q others) x) other_w q.policy.max_calls) (table_none (with_keys q others) x f (sym e)))),
    )
    go (Ok t) e =
        let T = table_of q.policy q.verifiers q.keys t in
        let U = table_of q.policy q.verifiers others t in
        let s : blind (signing_of T) ≡ blind (signing_of U) = same_signing T U refl refl (verified_same q.policy q.verifiers t q.keys others h k) (outcome_same q.policy q.verifiers t q.keys others h k) in (
          ap without_key (verdict_here q x w t (sym e) none) ∙ blind_concluded q.policy q.now t.payload (signing_of T)
              ∙ ap (λ s. without_key (conclusion q.policy q.now t.payload s)) s
              ∙ sym (blind_concluded q.policy q.now t.payload (signing_of U)) ∙ sym (ap without_key (verdict_here (with_keys q others) x other_w t (sym e) other_none)),
          ap (λ o. map kind_of_state (states_at (table q x) o)) none ∙ ap (λ t. map kind_of_state (states_at t None)) (sym (table_of_token q x t (sym e)))
              ∙ states_same q.policy q.verifiers t q.keys others h k
              ∙ ap (λ t. map kind_of_state (states_at t None)) (table_of_token (with_keys q others) x t (sym e)) ∙ sym (ap (λ o. map kind_of_state (states_at (table (with_keys q others) x) o)) other_none),
        )

pub same_keys_hold : SameKeys
same_keys_hold q others x w other_w h k room other_room =
    same_keys_unstopped q others x w other_w h k (never_stops (table q x) w q.policy.max_calls room.0 room.1)
    (never_stops (table (with_keys q others) x) other_w q.policy.max_calls other_room.0 other_room.1)
