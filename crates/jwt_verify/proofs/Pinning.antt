-- A token and a list of keys have one table in words, and it is the one that is computed.
use Rattle.std.proofs.Common.{◌≡◌, ℕ, ◌<◌, Bool, true, false, List, Option, Some, None, refl, sym, ◌∙◌, inl, inr, ◌⊎◌, arith}
use Rattle.std.specs.Prelude.{◌↔◌, slice_get, if◌then◌else◌}
use Rattle.std.specs.Option.{option_map_or, option_and_then}
use Rattle.std.proofs.Math.Path.{fun_ext}
use Rattle.std.proofs.lemmas.Bool.{cases_lt, false≢true}
use Rattle.std.proofs.lemmas.Slice.Eq.{bytes_eq-Decides}
use Rattle.jwt_mac.specs.declared.algorithm.Alg.{Alg}
use Rattle.jwt_mac.specs.Algorithm.{is_hmac_alg, tag_of}
use Rattle.jwt_mac.specs.Verifying.{Meaning, KeyOctets, OctKey, RsaKey, EcKey, OkpKey, MessageOctets, signing_input, first_naming}
use Rattle.jwt_text.specs.Rows.{IsFirstRow}
use Rattle.jwt_jws.specs.Token.{Token, SignatureParts, message_of}
use Rattle.jwt_keys.specs.Keys.{KeyParts}
use Rattle.jwt_policy.specs.declared.sig_fault.SigFault.{SigFault}
use Rattle.jwt_policy.specs.Settings.{Settings}
use Rattle.jwt_policy.specs.Bars.{alg, bar_rows, bar_of}
use Rattle.jwt_policy.specs.Eligible.{eligible_for}
use Rattle.jwt_policy.specs.Laws.{IsEligible}
use Rattle.jwt_verify.specs.Table.{Table}
use Rattle.jwt_verify.specs.Trying.{is_tag, accepted_by, lacking_by, valid_under, may_lack_under, valid_by, may_lack_by, cost_under, cost_by, at_pair, table_of}
use Rattle.jwt_verify.specs.Verdict.{Terms}
use Rattle.jwt_verify.specs.Asks.{IsToAsk, IsValid, IsCost, AtPair, IsTableOf}

bool_same : (a b : Bool) → (a ≡ true → b ≡ true) → (b ≡ true → a ≡ true) → a ≡ b
bool_same true true f g = refl
bool_same true false f g = sym (f refl)
bool_same false true f g = g refl
bool_same false false f g = refl

option_same : {X : Type 0} (o p : Option X) → ((x : X) → o ≡ Some x → p ≡ Some x) → ((x : X) → p ≡ Some x → o ≡ Some x) → o ≡ p
option_same None None f g = refl
option_same None (Some b) f g = g b refl
option_same (Some a) p f g = sym (f a refl)

-- ---- one pair

-- the verifier that is asked may lack memory
abbrev MayLack : List Meaning → MessageOctets → SignatureParts → KeyParts → Type 0
MayLack verifiers message s key = (a : Alg) × (alg s ≡ Some a) × ((v : Meaning) × IsToAsk verifiers a v × (v.may_lack a key.octets message s.octets ≡ true))

-- the key is a secret, and the octets are the tag of the signing input under it
abbrev IsTag : Alg → KeyOctets → MessageOctets → List ℕ → Type 0
IsTag a key message octets = (is_hmac_alg a ≡ true) × ((k : List ℕ) × (key ≡ OctKey k) × (octets ≡ tag_of a k (signing_input message)))

tagged : (a : Alg) (key : KeyOctets) (input octets : List ℕ) → is_tag a key input octets ≡ true → (k : List ℕ) × (key ≡ OctKey k) × (octets ≡ tag_of a k input)
tagged a (OctKey k) input octets y = (k, refl, (bytes_eq-Decides octets (tag_of a k input)).0 y)
tagged a (RsaKey n e) input octets y = absurd (false≢true y)
tagged a (EcKey c x z) input octets y = absurd (false≢true y)
tagged a (OkpKey c x) input octets y = absurd (false≢true y)

module _ (verifiers : List Meaning) (a : Alg) (key : KeyOctets) (m : MessageOctets) (octets : List ℕ) where
  accepted : (o : Option Meaning) → o ≡ first_naming verifiers a → accepted_by o a key m octets ≡ true
      → (v : Meaning) × (first_naming verifiers a ≡ Some v) × (v.accepts a key m octets ≡ true)
  accepted None e y = absurd (false≢true y)
  accepted (Some v) e y = (v, sym e, y)

  lacking : (o : Option Meaning) → o ≡ first_naming verifiers a → lacking_by o a key m octets ≡ true
      → (v : Meaning) × (first_naming verifiers a ≡ Some v) × (v.may_lack a key m octets ≡ true)
  lacking None e y = absurd (false≢true y)
  lacking (Some v) e y = (v, sym e, y)

  valid_words : (b : Bool) → b ≡ is_hmac_alg a → (if b then is_tag a key (signing_input m) octets else accepted_by (first_naming verifiers a) a key m octets) ≡ true
      → IsTag a key m octets ⊎ ((v : Meaning) × IsToAsk verifiers a v × (v.accepts a key m octets ≡ true))
  valid_words true e y = inl (sym e, tagged a key (signing_input m) octets y)
  valid_words false e y = let v = accepted (first_naming verifiers a) refl y in inr (v.0, (sym e, v.1), v.2)

  words_valid : IsTag a key m octets ⊎ ((v : Meaning) × IsToAsk verifiers a v × (v.accepts a key m octets ≡ true)) → valid_under verifiers a key m octets ≡ true
  words_valid (inl (e, (k, is, tag))) = rw (e, is) ((bytes_eq-Decides octets (tag_of a k (signing_input m))).1 tag)
  words_valid (inr (v, asked, y)) = rw (asked.0, asked.1) y

  lack_words : (b : Bool) → b ≡ is_hmac_alg a → (if b then false else lacking_by (first_naming verifiers a) a key m octets) ≡ true
      → (v : Meaning) × IsToAsk verifiers a v × (v.may_lack a key m octets ≡ true)
  lack_words true e y = absurd (false≢true y)
  lack_words false e y = let v = lacking (first_naming verifiers a) refl y in (v.0, (sym e, v.1), v.2)

  words_lack : (v : Meaning) × IsToAsk verifiers a v × (v.may_lack a key m octets ≡ true) → may_lack_under verifiers a key m octets ≡ true
  words_lack (v, asked, y) = rw (asked.0, asked.1) y

valid_is : (verifiers : List Meaning) (m : MessageOctets) (s : SignatureParts) (k : KeyParts) → (valid_by verifiers m s k ≡ true) ↔ IsValid verifiers m s k
unfolding valid_by
valid_is verifiers m s k = (λ y. go (alg s) refl y, λ (a, e, h). rw e (words_valid verifiers a k.octets m s.octets h))
  where
    go : (o : Option Alg) → o ≡ alg s → option_map_or (λ a. valid_under verifiers a k.octets m s.octets) o false ≡ true → IsValid verifiers m s k
    go None e y = absurd (false≢true y)
    go (Some a) e y = (a, sym e, valid_words verifiers a k.octets m s.octets (is_hmac_alg a) refl y)

lack_is : (verifiers : List Meaning) (m : MessageOctets) (s : SignatureParts) (k : KeyParts) → (may_lack_by verifiers m s k ≡ true) ↔ MayLack verifiers m s k
unfolding may_lack_by
lack_is verifiers m s k = (λ y. go (alg s) refl y, λ (a, e, h). rw e (words_lack verifiers a k.octets m s.octets h))
  where
    go : (o : Option Alg) → o ≡ alg s → option_map_or (λ a. may_lack_under verifiers a k.octets m s.octets) o false ≡ true → MayLack verifiers m s k
    go None e y = absurd (false≢true y)
    go (Some a) e y = (a, sym e, lack_words verifiers a k.octets m s.octets (is_hmac_alg a) refl y)

-- ---- what it costs

cost_octets : (s : SignatureParts) (key : KeyParts) (m : MessageOctets) (n : ℕ) (a : Alg) → alg s ≡ Some a → (o : KeyOctets) → o ≡ key.octets → 0 < n → cost_under a o m ≡ n → IsCost m s key n
cost_octets s key m n a named (OctKey k) is some y = (a, k, named, sym is, sym y)
cost_octets s key m n a named (RsaKey z e) is some y = absurd (omega (arith, some, y))
cost_octets s key m n a named (EcKey c x z) is some y = absurd (omega (arith, some, y))
cost_octets s key m n a named (OkpKey c x) is some y = absurd (omega (arith, some, y))

cost_is : (m : MessageOctets) (s : SignatureParts) (key : KeyParts) (n : ℕ) → 0 < n → (cost_by m s key ≡ n) ↔ IsCost m s key n
unfolding cost_by
cost_is m s key n some = (λ y. go (alg s) refl y, λ (a, k, e, is, y). rw (e, is) (sym y))
  where
    go : (o : Option Alg) → o ≡ alg s → option_map_or (λ a. cost_under a key.octets m) o 0 ≡ n → IsCost m s key n
    go None e y = absurd (omega (arith, some, y))
    go (Some a) e y = cost_octets s key m n a (sym e) key.octets refl some y

nat_same : (a b : ℕ) → ((n : ℕ) → 0 < n → a ≡ n → b ≡ n) → ((n : ℕ) → 0 < n → b ≡ n → a ≡ n) → a ≡ b
nat_same a b f g = elim (cases_lt 0 a) [
  | inl l ↦ sym (f a l refl)
  | inr z ↦ elim (cases_lt 0 b) [
    | inl m ↦ g b m refl
    | inr w ↦ omega (arith, z, w)
  ]
]

-- ---- all pairs

at_cost : (f : SignatureParts → KeyParts → ℕ) (P : SignatureParts → KeyParts → Type 0) (n : ℕ) → 0 < n → ((s : SignatureParts) (k : KeyParts) → (f s k ≡ n) ↔ P s k)
    → (t : Token) (ks : List KeyParts) (i j : ℕ) → (at_pair f 0 t ks i j ≡ n) ↔ AtPair t ks i j P
at_cost f P n some h t ks i j = (λ y. go (slice_get t.signatures i) refl (slice_get ks j) refl y, λ (s, k, e, l, w). rw (e, l) ((h s k).1 w))
  where
    go : (o : Option SignatureParts) → o ≡ slice_get t.signatures i → (p : Option KeyParts) → p ≡ slice_get ks j → option_map_or (λ s. option_map_or (f s) p 0) o 0 ≡ n → AtPair t ks i j P
    go None e p l y = absurd (omega (arith, some, y))
    go (Some s) e None l y = absurd (omega (arith, some, y))
    go (Some s) e (Some k) l y = (s, k, sym e, sym l, (h s k).0 y)

at_true : (f : SignatureParts → KeyParts → Bool) (P : SignatureParts → KeyParts → Type 0) → ((s : SignatureParts) (k : KeyParts) → (f s k ≡ true) ↔ P s k)
    → (t : Token) (ks : List KeyParts) (i j : ℕ) → (at_pair f false t ks i j ≡ true) ↔ AtPair t ks i j P
at_true f P h t ks i j = (λ y. go (slice_get t.signatures i) refl (slice_get ks j) refl y, λ (s, k, e, l, w). rw (e, l) ((h s k).1 w))
  where
    go : (o : Option SignatureParts) → o ≡ slice_get t.signatures i → (p : Option KeyParts) → p ≡ slice_get ks j → option_map_or (λ s. option_map_or (f s) p false) o false ≡ true → AtPair t ks i j P
    go None e p l y = absurd (false≢true y)
    go (Some s) e None l y = absurd (false≢true y)
    go (Some s) e (Some k) l y = (s, k, sym e, sym l, (h s k).0 y)

-- two tables that say the same are one
tables_same : (q : Terms) (token : Token) (t u : Table) → IsTableOf q token t → IsTableOf q token u → t ≡ u
tables_same q token t u h k =
    let signatures : t.signatures ≡ u.signatures = h.signatures ∙ sym k.signatures in
    let keys : t.keys ≡ u.keys = h.keys ∙ sym k.keys in
    let mode : t.mode ≡ u.mode = h.mode ∙ sym k.mode in
    let bar : t.bar ≡ u.bar = fun_ext (λ i. option_same (t.bar i) (u.bar i) (λ f e. (k.bar i f).1 ((h.bar i f).0 e)) (λ f e. (h.bar i f).1 ((k.bar i f).0 e))) in
    let eligible : t.eligible ≡ u.eligible = fun_ext (λ i. fun_ext (λ j. bool_same (t.eligible i j) (u.eligible i j) (λ e. (k.eligible i j).1 ((h.eligible i j).0 e)) (λ e. (h.eligible i j).1 ((k.eligible i j).0 e)))) in
    let valid : t.valid ≡ u.valid = fun_ext (λ i. fun_ext (λ j. bool_same (t.valid i j) (u.valid i j) (λ e. (k.valid i j).1 ((h.valid i j).0 e)) (λ e. (h.valid i j).1 ((k.valid i j).0 e)))) in
    let may_lack : t.may_lack ≡ u.may_lack = fun_ext (λ i. fun_ext (λ j. bool_same (t.may_lack i j) (u.may_lack i j) (λ e. (k.may_lack i j).1 ((h.may_lack i j).0 e)) (λ e. (h.may_lack i j).1 ((k.may_lack i j).0 e)))) in
    let cost : t.cost ≡ u.cost = fun_ext (λ i. fun_ext (λ j. nat_same (t.cost i j) (u.cost i j) (λ n l e. (k.cost i j n l).1 ((h.cost i j n l).0 e)) (λ n l e. (h.cost i j n l).1 ((k.cost i j n l).0 e)))) in
    λ d. record { signatures = signatures d; keys = keys d; mode = mode d; bar = bar d; eligible = eligible d; valid = valid d; may_lack = may_lack d; cost = cost d }

module _ (eligible_words : (p : Settings) (s : SignatureParts) (k : KeyParts) (v : List Meaning) → (eligible_for p s k v ≡ true) ↔ IsEligible p s k v)
    (bar_words : (p : Settings) (s : SignatureParts) (v : List Meaning) (f : SigFault) → (bar_of p s v ≡ Some f) ↔ IsFirstRow (bar_rows p s v) f) where
  barred : (q : Terms) (token : Token) (i : ℕ) (f : SigFault) → (option_and_then (λ s. bar_of q.policy s q.verifiers) (slice_get token.signatures i) ≡ Some f)
      ↔ ((s : SignatureParts) × (slice_get token.signatures i ≡ Some s) × IsFirstRow (bar_rows q.policy s q.verifiers) f)
  barred q token i f = (λ y. go (slice_get token.signatures i) refl y, λ (s, e, r). rw e ((bar_words q.policy s q.verifiers f).1 r))
    where
      go : (o : Option SignatureParts) → o ≡ slice_get token.signatures i → option_and_then (λ s. bar_of q.policy s q.verifiers) o ≡ Some f
          → (s : SignatureParts) × (slice_get token.signatures i ≡ Some s) × IsFirstRow (bar_rows q.policy s q.verifiers) f
      go None e y = cc
      go (Some s) e y = (s, sym e, (bar_words q.policy s q.verifiers f).0 y)

  pub the_table : (q : Terms) (token : Token) → IsTableOf q token (table_of q.policy q.verifiers q.keys token)
  the_table q token = record {
    signatures = refl;
    keys = refl;
    mode = refl;
    bar = barred q token;
    eligible = at_true (λ s k. eligible_for q.policy s k q.verifiers) (λ s k. IsEligible q.policy s k q.verifiers) (λ s k. eligible_words q.policy s k q.verifiers) token q.keys;
    valid = at_true (λ s k. valid_by q.verifiers (message_of token s) s k) (λ s k. IsValid q.verifiers (message_of token s) s k) (λ s k. valid_is q.verifiers (message_of token s) s k) token q.keys;
    may_lack = at_true (λ s k. may_lack_by q.verifiers (message_of token s) s k) (λ s k. MayLack q.verifiers (message_of token s) s k) (λ s k. lack_is q.verifiers (message_of token s) s k) token q.keys;
    cost = λ i j n l. at_cost (λ s k. cost_by (message_of token s) s k) (λ s k. IsCost (message_of token s) s k n) n l (λ s k. cost_is (message_of token s) s k n l) token q.keys i j;
  }

  pub table_is : (q : Terms) (token : Token) (t : Table) → IsTableOf q token t → t ≡ table_of q.policy q.verifiers q.keys token
  table_is q token t h = tables_same q token t (table_of q.policy q.verifiers q.keys token) h (the_table q token)
