-- The work of a run is within the bound, so a ceiling of the bound is never exceeded.
use Rattle.std.proofs.Common.{bytes_eq, ◌≡◌, ◌≢◌, ℕ, ℤ, zero, suc, ◌+◌, ◌*◌, ◌≤◌, Bool, true, false, List, [], ◌∷◌, length, map, take, drop, Option, Some, None, Result, Ok, Err, arith, refl, sym, ◌∙◌, ap, subst, inl, inr}
use Rattle.std.specs.Prelude.{not, slice_get, nat_lt, if◌then◌else◌, codes}
use Rattle.std.specs.Option.{option_map_or}
use Rattle.std.specs.List.{list_any, prefix_len, range_with_len}
use Rattle.std.proofs.Math.Nat.{le-max_left, le-max_right}
use Rattle.std.proofs.lemmas.Bool.{cases_Bool, cases_lt, le-leb}
use Rattle.std.proofs.lemmas.Option.{slice_get_past}
use Rattle.std.proofs.lemmas.List.{take-append-drop}
use Rattle.jwt_mac.specs.declared.algorithm.Alg.{Alg}
use Rattle.jwt_mac.specs.Algorithm.{is_hmac_alg, block_size, digest_size, try_cost, key_cost, name_of}
use Rattle.jwt_mac.proofs.Names.{same_name}
use Rattle.jwt_mac.specs.Verifying.{Meaning, KeyOctets, OctKey, RsaKey, EcKey, OkpKey, MessageOctets, signing_input}
use Rattle.jwt_text.specs.Rows.{NoRow}
use Rattle.jwt_jws.specs.Token.{Token, SignatureParts, message_of}
use Rattle.jwt_keys.specs.Keys.{KeyParts}
use Rattle.jwt_policy.specs.Settings.{Settings}
use Rattle.jwt_policy.specs.Texts.{some_passes}
use Rattle.jwt_policy.specs.Bars.{alg, bar_rows, bar_of}
use Rattle.jwt_policy.specs.Eligible.{eligible_for}
use Rattle.jwt_policy.specs.Laws.{IsEligible}
use Rattle.jwt_verify.specs.declared.tries.End.TheVariants as end
use Rattle.jwt_verify.specs.declared.report.Try.{Try}
use Rattle.jwt_verify.specs.declared.report.Fault.{Fault}
use Rattle.jwt_verify.specs.declared.report.Fault.TheVariants.{Text, WorkExceeded}
use Rattle.jwt_verify.specs.declared.report.Verdict.TheVariants.{Refused}
use Rattle.serde_json.specs.Data.{Members}
use Rattle.jwt_jws.specs.declared.fault.FormFault.{FormFault}
use Rattle.jwt_jws.specs.Forms.{form_of}
use Rattle.jwt_policy.specs.declared.claim_fault.ClaimFault.{ClaimFault}
use Rattle.jwt_policy.specs.ClaimKinds.{claims_of}
use Rattle.jwt_policy.specs.Checks.{check_of}
use Rattle.jwt_verify.specs.declared.tries.End.{End}
use Rattle.jwt_verify.specs.declared.report.InputFault.TheVariants.{TooLong}
use Rattle.jwt_verify.specs.Table.{Table, tries, work, is_within, affords, paid, stop, ending, states_at, states}
use Rattle.jwt_verify.specs.Trying.{cost_under, cost_by, at_pair, table_of}
use Rattle.jwt_verify.specs.Verdict.{Terms, Signing, VerifiedBy, Unverified, signing_of, checked, claims_verdict, conclusion, unless_stopped, token_verdict, formed, token_of, table, decided, verdict_of, without_line_feed}
use Rattle.jwt_verify.specs.Laws.{greatest, common_cost, long_secret, long_key}
use Rattle.jwt_verify.specs.Verdicts.{work_bound}
use Rattle.jwt_verify.proofs.Bounds.{work_bounded}
use Rattle.jwt_verify.proofs.Judged.{table_of_token}
use Rattle.jwt_verify.proofs.Paying.{work-append, paid_over}
use Rattle.jwt_policy.proofs.BarNames.{row_fails}

-- ---- the greatest of some numbers

greatest_at : {X : Type 0} (f : X → ℕ) (xs : List X) (i : ℕ) (x : X) → slice_get xs i ≡ Some x → f x ≤ greatest (map f xs)
greatest_at f [] i x h = cc
greatest_at f (y ∷ xs) zero x h = let e : y ≡ x = cc in rw (sym e) (le-max_left (f y) (greatest (map f xs)))
greatest_at f (y ∷ xs) (suc i) x h = omega (arith, greatest_at f xs i x h, le-max_right (f y) (greatest (map f xs)))

-- an algorithm is among these
abbrev is_allowed : List Alg → Alg → Bool
is_allowed algs a = list_any (λ b. bytes_eq (name_of b) (name_of a)) algs

greatest_allowed : (f : Alg → ℕ) (algs : List Alg) (a : Alg) → is_allowed algs a ≡ true → f a ≤ greatest (map f algs)
greatest_allowed f [] a h = cc
greatest_allowed f (b ∷ algs) a h = elim (cases_Bool (bytes_eq (name_of b) (name_of a))) [
  | inl y ↦ (let e : b ≡ a = same_name a b y in rw (sym e) (le-max_left (f b) (greatest (map f algs))))
  | inr n ↦ (let k = rw n at h in omega (arith, greatest_allowed f algs a k, le-max_right (f b) (greatest (map f algs))))
]

-- ---- the cost of an eligible pair

-- the row of an algorithm that isn't allowed doesn't hold
allowed : (p : Settings) (s : SignatureParts) (v : List Meaning) (a : Alg) → NoRow (bar_rows p s v) → alg s ≡ Some a → is_allowed p.run.algs a ≡ true
allowed p s v a none e =
    let n : not (some_passes (is_allowed p.run.algs) (alg s)) ≡ false = row_fails (codes "AlgNotAllowed") (bar_rows p s v) _ none refl in
    let m = rw e at n in
    not_not (is_allowed p.run.algs a) m
  where
    not_not : (b : Bool) → not b ≡ false → b ≡ true
    not_not true h = refl
    not_not false h = cc

hmac_cost : (a : Alg) (input key : ℕ) → try_cost a key input ≤ input + 2 * block_size a + digest_size a + (if is_hmac_alg a then key_cost (block_size a) key else 0)
unfolding try_cost
hmac_cost a input key = go (is_hmac_alg a)
  where
    go : (b : Bool) → (if b then input + 2 * block_size a + digest_size a + key_cost (block_size a) key else 0) ≤ input + 2 * block_size a + digest_size a + (if b then key_cost (block_size a) key else 0)
    go true = omega arith
    go false = omega arith

under : (a : Alg) (k : KeyOctets) (m : MessageOctets) → cost_under a k m ≤ length (signing_input m) + 2 * block_size a + digest_size a + long_secret a k
under a (OctKey k) m = hmac_cost a (length (signing_input m)) (length k)
under a (RsaKey n e) m = omega arith
under a (EcKey c x y) m = omega arith
under a (OkpKey c x) m = omega arith

module _ (eligible_words : (p : Settings) (s : SignatureParts) (k : KeyParts) (v : List Meaning) → eligible_for p s k v ≡ true → IsEligible p s k v)
    (no_row : (p : Settings) (s : SignatureParts) (v : List Meaning) → bar_of p s v ≡ None → NoRow (bar_rows p s v)) where
  -- the cost of an eligible pair
  pair_cost : (p : Settings) (v : List Meaning) (t : Token) (i : ℕ) (s : SignatureParts) (k : KeyParts) → slice_get t.signatures i ≡ Some s → eligible_for p s k v ≡ true
      → cost_by (message_of t s) s k ≤ common_cost p t + long_key s k
  unfolding cost_by
  pair_cost p v t i s k here eligible =
      let e = eligible_words p s k v eligible in
      let a = e.algorithm in
      let fine : is_allowed p.run.algs a ≡ true = allowed p s v a e.unbarred e.named in
      rw e.named (omega (
        arith,
        under a k.octets (message_of t s),
        greatest_at (λ s. length (signing_input (message_of t s))) t.signatures i s here,
        greatest_allowed block_size p.run.algs a fine,
        greatest_allowed digest_size p.run.algs a fine,
      ))

  pub table_cost : (p : Settings) (v : List Meaning) (ks : List KeyParts) (t : Token) (i j : ℕ) → at_pair (λ s k. eligible_for p s k v) false t ks i j ≡ true
      → at_pair (λ s k. cost_by (message_of t s) s k) 0 t ks i j ≤ common_cost p t + at_pair long_key 0 t ks i j
  table_cost p v ks t i j h = go (slice_get t.signatures i) refl (slice_get ks j) h
    where
      go : (s : Option SignatureParts) → s ≡ slice_get t.signatures i → (k : Option KeyParts)
          → option_map_or (λ s. option_map_or (λ k. eligible_for p s k v) k false) s false ≡ true
          → option_map_or (λ s. option_map_or (λ k. cost_by (message_of t s) s k) k 0) s 0 ≤ common_cost p t + option_map_or (λ s. option_map_or (long_key s) k 0) s 0
      go None e k h = cc
      go (Some s) e None h = cc
      go (Some s) e (Some k) h = pair_cost p v t i s k (sym e) h

  pub within_bound : (q : Terms) (token : Token) → work (tries (table_of q.policy q.verifiers q.keys token)) ≤ work_bound q token (table_of q.policy q.verifiers q.keys token)
  within_bound q token =
      work_bounded (table_of q.policy q.verifiers q.keys token) (common_cost q.policy token) (at_pair long_key 0 token q.keys) (table_cost q.policy q.verifiers q.keys token)

-- ---- a ceiling that is as great as the work

prefix_same : {X : Type 0} (p q : X → Bool) → ((x : X) → p x ≡ q x) → (xs : List X) → prefix_len p xs ≡ prefix_len q xs
prefix_same p q h [] = refl
prefix_same p q h (x ∷ xs) = rw (h x, prefix_same p q h xs) refl

work_front : (es : List Try) (n : ℕ) → work (take n es) ≤ work es
work_front es n =
    let parts : work (take n es) + work (drop n es) ≡ work es = sym (work-append (take n es) (drop n es)) ∙ ap work (take-append-drop n es) in
    omega (arith, parts)

module _ (t : Table) (calls : Option ℕ) (w v : ℕ) (enough : work (tries t) ≤ w) (as_well : work (tries t) ≤ v) where
  affords_same : (n : ℕ) → affords t w calls n ≡ affords t v calls n
  unfolding affords
  affords_same n =
      let f = work_front (tries t) n in
      rw (le-leb (work (take n (tries t))) w (omega (arith, f, enough)), le-leb (work (take n (tries t))) v (omega (arith, f, as_well))) refl

  pub paid_same : paid t w calls ≡ paid t v calls
  unfolding paid
  paid_same = ap (λ n. take n (tries t)) (prefix_same (affords t w calls) (affords t v calls) affords_same (range_with_len 1 (length (tries t))))

  pub stop_same : stop t w calls ≡ stop t v calls
  unfolding stop
  stop_same = ap (λ es. slice_get (tries t) (length es)) paid_same

  pub ending_same : ending t w calls ≡ ending t v calls
  ending_same = ap (λ n. option_map_or (λ e. if is_within calls (n + 1) then end.WorkExceeded e.signature e.key else end.CallsExceeded e.signature e.key) (stop t w calls) end.Done) (ap length paid_same)
      ∙ ap (λ o. option_map_or (λ e. if is_within calls (length (paid t v calls) + 1) then end.WorkExceeded e.signature e.key else end.CallsExceeded e.signature e.key) o end.Done) stop_same

  -- a stop is for the calls
  pub not_for_work : (i j : ℕ) → ending t w calls ≡ end.WorkExceeded i j → ⊥
  unfolding stop affords
  not_for_work i j h = elim (cases_lt (length (paid t w calls)) (length (tries t))) [
    | inl l ↦ (let over = paid_over t w calls l in
        let f = work_front (tries t) (length (paid t w calls) + 1) in
        let calls_over : is_within calls (length (paid t w calls) + 1) ≡ false = rw (le-leb (work (take (length (paid t w calls) + 1) (tries t))) w (omega (arith, f, enough))) at over in
        not_work (slice_get (tries t) (length (paid t w calls))) (is_within calls (length (paid t w calls) + 1)) calls_over h)
    | inr m ↦ (let none = slice_get_past (tries t) (length (paid t w calls)) m in let z = rw none at h in cc)
  ]
    where
      not_work : (o : Option Try) (b : Bool) → b ≡ false → option_map_or (λ e. if b then end.WorkExceeded e.signature e.key else end.CallsExceeded e.signature e.key) o end.Done ≡ end.WorkExceeded i j → ⊥
      not_work o true f h = cc
      not_work None false f h = cc
      not_work (Some e) false f h = cc

-- ---- the verdict

checked_work : (a b i j : ℕ) (claims : Members) (o : Option ClaimFault) → checked a b claims o ≡ Refused (WorkExceeded i j) → ⊥
checked_work a b i j claims None h = cc
checked_work a b i j claims (Some f) h = cc

claimed_work : (p : Settings) (now : ℤ) (a b i j : ℕ) (r : Result Members ClaimFault) → claims_verdict p now a b r ≡ Refused (WorkExceeded i j) → ⊥
claimed_work p now a b i j (Ok claims) h = checked_work a b i j claims (check_of p claims now) h
claimed_work p now a b i j (Err f) h = cc

concluded_work : (p : Settings) (now : ℤ) (payload : List ℕ) (i j : ℕ) (s : Signing) → conclusion p now payload s ≡ Refused (WorkExceeded i j) → ⊥
concluded_work p now payload i j (VerifiedBy a b) h = claimed_work p now a b i j (claims_of payload) h
concluded_work p now payload i j (Unverified a f) h = cc

ended_work : (r : End) (p : Settings) (now : ℤ) (payload : List ℕ) (i j : ℕ) (s : Signing) → unless_stopped r (conclusion p now payload s) ≡ Refused (WorkExceeded i j) → r ≡ end.WorkExceeded i j
ended_work end.Done p now payload i j s h = absurd (concluded_work p now payload i j s h)
ended_work (end.WorkExceeded a b) p now payload i j s h = let x : a ≡ i = cc in let y : b ≡ j = cc in rw (x, y) refl
ended_work (end.CallsExceeded a b) p now payload i j s h = cc
ended_work (end.VerifierMemory a b) p now payload i j s h = cc

formed_work : (r : Result Token FormFault) (i j : ℕ) → formed r ≡ Err (WorkExceeded i j) → ⊥
formed_work (Ok t) i j h = cc
formed_work (Err e) i j h = cc

token_work : (p : Settings) (x : List ℕ) (i j : ℕ) → token_of p x ≡ Err (WorkExceeded i j) → ⊥
unfolding token_of
token_work p x i j h = go (nat_lt p.run.limit (length x)) h
  where
    go : (b : Bool) → (if b then Err (Text TooLong) else formed (form_of p.run.max_signatures (without_line_feed p.run.line_feed x))) ≡ Err (WorkExceeded i j) → ⊥
    go true h = cc
    go false h = formed_work (form_of p.run.max_signatures (without_line_feed p.run.line_feed x)) i j h

refusal : (f g : Fault) → Refused f ≡ Refused g → f ≡ g
refusal f g h = cc

module _ (q : Terms) (x : List ℕ) (w v : ℕ) (enough : work (tries (table q x)) ≤ w) (as_well : work (tries (table q x)) ≤ v) where
  decided_work : (r : Result Token Fault) → r ≡ token_of q.policy x → (i j : ℕ) → decided q w r ≡ Refused (WorkExceeded i j) → ⊥
  unfolding token_verdict
  decided_work (Err f) e i j h = token_work q.policy x i j (sym e ∙ ap Err (refusal f (WorkExceeded i j) h))
  decided_work (Ok t) e i j h =
      let T = table_of q.policy q.verifiers q.keys t in
      let r = ended_work (ending T w q.policy.max_calls) q.policy q.now t.payload i j (signing_of T) h in
      not_for_work (table q x) q.policy.max_calls w v enough as_well i j (ap (λ t. ending t w q.policy.max_calls) (sym (table_of_token q x t (sym e))) ∙ r)

  decided_same : (r : Result Token Fault) → r ≡ token_of q.policy x → decided q w r ≡ decided q v r
  unfolding token_verdict
  decided_same (Err f) e = refl
  decided_same (Ok t) e =
      let T = table_of q.policy q.verifiers q.keys t in
      let s : ending T w q.policy.max_calls ≡ ending T v q.policy.max_calls = subst (λ t. ending t w q.policy.max_calls ≡ ending t v q.policy.max_calls) (sym (table_of_token q x t (sym e))) (ending_same (table q x) q.policy.max_calls w v enough as_well) in
      ap (λ r. unless_stopped r (conclusion q.policy q.now t.payload (signing_of T))) s

  pub suffices : ((i j : ℕ) → verdict_of q x w ≢ Refused (WorkExceeded i j)) × (verdict_of q x w ≡ verdict_of q x v)
      × (paid (table q x) w q.policy.max_calls ≡ paid (table q x) v q.policy.max_calls) × (states (table q x) w q.policy.max_calls ≡ states (table q x) v q.policy.max_calls)
  unfolding verdict_of
  suffices = (
    λ i j h. decided_work (token_of q.policy x) refl i j h,
    decided_same (token_of q.policy x) refl,
    paid_same (table q x) q.policy.max_calls w v enough as_well,
    ap (states_at (table q x)) (stop_same (table q x) q.policy.max_calls w v enough as_well),
  )
