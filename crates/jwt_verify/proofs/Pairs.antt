-- What the table says of a pair, from the layers' words.
use Rattle.std.proofs.Common.{◌≡◌, ℕ, ◌<◌, ◌≤◌, Bool, true, false, List, length, map, Option, Some, None, refl, sym, ◌∙◌, ap, subst, arith, ◌*◌, ◌^◌, zero, suc, [], ◌∷◌, inl, inr}
use Rattle.std.specs.Prelude.{◌&&◌, slice_get, option_map, not, MatchOption, codes}
use Rattle.std.specs.Option.{option_map_or}
use Rattle.std.proofs.lemmas.Bool.{cases_lt}
use Rattle.std.proofs.lemmas.List.{length-map}
use Rattle.jwt_keys.specs.Views.{key_parts}
use Rattle.std.proofs.lemmas.Option.{slice_get_within}
use Rattle.jwt_mac.specs.declared.algorithm.Alg.{Alg}
use Rattle.jwt_mac.specs.declared.algorithm.Kind.{Kind}
use Rattle.jwt_mac.specs.declared.algorithm.Kind.TheVariants.{Hmac, Ecdsa}
use Rattle.jwt_mac.specs.declared.key_view.EcCurve.TheVariants.{P256, P384, P521}
use Rattle.jwt_mac.specs.declared.key_view.EcCurve.{EcCurve}
use Rattle.jwt_mac.specs.declared.key_view.EdCurve.{EdCurve}
use Rattle.jwt_mac.specs.Algorithm.{is_hmac_alg, kind_of, is_hmac}
use Rattle.jwt_mac.specs.Verifying.{Meaning, KeyOctets, OctKey, RsaKey, EcKey, OkpKey, MessageOctets, first_naming, message_octets}
use Rattle.jwt_text.specs.Rows.{NoRow}
use Rattle.jwt_jws.specs.declared.signed.Signed.{Signed}
use Rattle.jwt_jws.specs.Token.{Token, SignatureParts, message_of}
use Rattle.jwt_jws.specs.Views.{token, parts}
use Rattle.jwt_keys.specs.Keys.{KeyParts}
use Rattle.jwt_keys.specs.KeySets.{key_set}
use Rattle.jwt_keys.specs.Numbers.{IsLeastFrom}
use Rattle.jwt_policy.specs.declared.sig_fault.SigFault.{SigFault}
use Rattle.jwt_policy.specs.Settings.{Settings}
use Rattle.jwt_policy.specs.Bars.{alg, can_verify, bar_of, bar_rows}
use Rattle.jwt_policy.specs.Eligible.{suits, suits_kind, is_for, fits, eligible_for}
use Rattle.jwt_policy.specs.Texts.{some_passes}
use Rattle.jwt_verify.specs.declared.terms.Terms.{Terms as CodeTerms}
use Rattle.jwt_verify.specs.declared.live_signature.Numbered.{Numbered}
use Rattle.jwt_verify.specs.declared.live_signature.LiveSignature.{LiveSignature}
use Rattle.jwt_verify.specs.declared.pair.Way.{Way}
use Rattle.jwt_verify.specs.declared.pair.Way.TheVariants as way
use Rattle.jwt_verify.specs.declared.pair.Pair.{Pair}
use Rattle.jwt_verify.specs.TermsTable.{Means, terms_table}
use Rattle.jwt_verify.specs.Pairs.{IsVerifier, IsLive, IsFor, IsSecret, IsWay, IsLiveOf, way_accepts, way_may_lack, way_cost, IsNextPair}
use Rattle.jwt_verify.specs.Trying.{at_pair, table_of, valid_under, may_lack_under, cost_under, valid_by, may_lack_by, cost_by}
use Rattle.jwt_verify.specs.Table.{Table}
use Rattle.jwt_verify.specs.Walk.{NoneEligible, IsNextKey, goes_on}
use Rattle.jwt_verify.proofs.Judged.{unbarred_by, few_pairs}
use Rattle.jwt_verify.proofs.Named.{passes_within}
use Rattle.jwt_policy.proofs.BarNames.{row_fails}

pub at_pair_is : {A : Type 0} (f : SignatureParts → KeyParts → A) (d : A) (t : Token) (ks : List KeyParts) (i j : ℕ) (s : SignatureParts) (k : KeyParts) → slice_get t.signatures i ≡ Some s → slice_get ks j ≡ Some k → at_pair f d t ks i j ≡ f s k
at_pair_is f d t ks i j s k e h = rw (e, h) refl

-- the next key

pub eligible_is : (p : Settings) (v : List Meaning) (ks : List KeyParts) (t : Token) (i n : ℕ) (s : SignatureParts) → slice_get t.signatures i ≡ Some s → bar_of p s v ≡ None → at_pair (λ s k. eligible_for p s k v) false t ks i n ≡ option_map_or (fits p s) (slice_get ks n) false
unfolding eligible_for
eligible_is p v ks t i n s e b = rw e (go (slice_get ks n))
  where
    go : (o : Option KeyParts) → option_map_or (λ k. eligible_for p s k v) o false ≡ option_map_or (fits p s) o false
    go None = refl
    go (Some k) = rw b refl

not_true : (b : Bool) → (b ≡ true → ⊥) → b ≡ false
not_true true h = absurd (h refl)
not_true false h = refl

pub next_is : (p : Settings) (v : List Meaning) (ks : List KeyParts) (t : Token) (i from : ℕ) (s : SignatureParts) (r : Option ℕ) → slice_get t.signatures i ≡ Some s → bar_of p s v ≡ None → IsLeastFrom (fits p s) ks from r
    → MatchOption r (NoneEligible (table_of p v ks t) i from (length ks)) (IsNextKey (table_of p v ks t) i from)
next_is p v ks t i from s None e b h = λ n lo hi. eligible_is p v ks t i n s e b ∙ not_true (option_map_or (fits p s) (slice_get ks n) false) (h n lo)
next_is p v ks t i from s (Some j) e b h = record {
  after = h.0;
  within = passes_within (fits p s) ks j h.1;
  eligible = eligible_is p v ks t i j s e b ∙ h.1;
  least = λ n lo hi. eligible_is p v ks t i n s e b ∙ not_true (option_map_or (fits p s) (slice_get ks n) false) (h.2 n lo hi);
}

-- ---- a signature that nothing bars

passes : (p : Alg → Bool) (o : Option Alg) (a : Alg) → o ≡ Some a → not (some_passes p o) ≡ false → p a ≡ true
passes p o a e h = let q = rw e at h in go (p a) q
  where
    go : (b : Bool) → not b ≡ false → b ≡ true
    go true h = refl
    go false h = cc

-- a verifier is found for its algorithm, or it is HMAC
pub named_verified : (p : Settings) (v : List Meaning) (s : SignatureParts) (a : Alg) → NoRow (bar_rows p s v) → alg s ≡ Some a → can_verify v a ≡ true
named_verified p v s a h e = passes (can_verify v) (alg s) a e (row_fails (codes "NoVerifier") (bar_rows p s v) _ h refl)

pub verifier_hmac : (v : List Meaning) (a : Alg) (o : Option Meaning) → is_hmac_alg a ≡ true → o ≡ None → IsVerifier v a o
verifier_hmac v a o h e = rw e h

pub verifier_first : (v : List Meaning) (a : Alg) (o : Option Meaning) → is_hmac_alg a ≡ false → can_verify v a ≡ true → o ≡ first_naming v a → IsVerifier v a o
verifier_first v a None h c e = let q = rw (h, sym e) at c in cc
verifier_first v a (Some m) h c e = (h, sym e)

pub open_bar : {V : Type 0} {D : V → Type 0} (means : Means V D) (a : CodeTerms V D) (u : LiveSignature V D) → IsLive means a u → (terms_table means a u.signed.now).bar u.number ≡ None
unfolding terms_table
open_bar means a u o = rw o.signature o.unbarred

pub open_within : {V : Type 0} {D : V → Type 0} (means : Means V D) (a : CodeTerms V D) (u : LiveSignature V D) → IsLive means a u → u.number < (terms_table means a u.signed.now).signatures
unfolding terms_table
open_within means a u o = slice_get_within (token u.signed.now).signatures u.number (parts u.signature.now) o.signature

pub terms_bar : {V : Type 0} {D : V → Type 0} (means : Means V D) (a : CodeTerms V D) (signed : Signed) (i : ℕ) (s : SignatureParts) (r : Option SigFault) → slice_get (token signed).signatures i ≡ Some s
    → r ≡ bar_of a.policy.now s (map means a.verifiers.now) → (terms_table means a signed).bar i ≡ r
unfolding terms_table
terms_bar means a signed i s r e b = rw e (sym b)

pub terms_signatures : {V : Type 0} {D : V → Type 0} (means : Means V D) (a : CodeTerms V D) (signed : Signed) → (terms_table means a signed).signatures ≡ length (token signed).signatures
unfolding terms_table
terms_signatures means a signed = refl

pub terms_mode : {V : Type 0} {D : V → Type 0} (means : Means V D) (a : CodeTerms V D) (signed : Signed) (verified goes : Bool) → goes_on a.policy.now.run.mode verified ≡ goes
    → goes_on (terms_table means a signed).mode verified ≡ goes
unfolding terms_table
terms_mode means a signed verified goes h = h

-- no key is eligible for a signature that is barred
pub barred_none : {V : Type 0} {D : V → Type 0} (means : Means V D) (a : CodeTerms V D) (signed : Signed) (i : ℕ) (f : SigFault) → (terms_table means a signed).bar i ≡ Some f
    → NoneEligible (terms_table means a signed) i 0 (terms_table means a signed).keys
unfolding terms_table
barred_none means a signed i f e n lo hi =
    not_true _ (λ h. (let q = sym (unbarred_by a.policy.now (map means a.verifiers.now) (key_set a.keys.now).keys (token signed) i n h) ∙ e in cc))

-- ---- how a pair is tried

and_left : (a b : Bool) → (a && b) ≡ true → a ≡ true
and_left true b h = refl
and_left false b h = h

fits_suits : (p : Settings) (s : SignatureParts) (k : KeyParts) (a : Alg) → alg s ≡ Some a → fits p s k ≡ true → suits a k.octets ≡ true
fits_suits p s k a e h = let named : some_passes (is_for k) (alg s) ≡ true = and_left _ _ (and_left _ _ h) in let q : is_for k a ≡ true = rw e at named in and_left _ _ q

secret_hmac : (a : Alg) (k : List ℕ) → suits a (OctKey k) ≡ true → is_hmac_alg a ≡ true
secret_hmac a k h = by (kind_of a) h
  where
    by : (kind : Kind) → suits_kind kind (OctKey k) ≡ true → is_hmac kind ≡ true
    by (Hmac hash) h = refl
    by (Ecdsa P256) h = cc
    by (Ecdsa P384) h = cc
    by (Ecdsa P521) h = cc
    by _ h = cc

cost_none : (a : Alg) (k : KeyOctets) (m : MessageOctets) → suits a k ≡ true → is_hmac_alg a ≡ false → cost_under a k m ≡ 0
cost_none a (OctKey k) m h e = let q = sym (secret_hmac a k h) ∙ e in cc
cost_none a (RsaKey n e) m h o = refl
cost_none a (EcKey curve x y) m h o = refl
cost_none a (OkpKey curve x) m h o = refl

module _ {V : Type 0} {D : V → Type 0} (means : Means V D) (v : List Meaning) (a : Alg) (k : KeyOctets) (m : MessageOctets) (x : List ℕ) where
  way_is_for : (o : Option Meaning) (w : Way V D) → IsVerifier v a o → IsWay means o k w → IsFor a w
  way_is_for None (way.Tag s) h i = h
  way_is_for (Some n) (way.Tag s) h i = let q = i.0 in cc
  way_is_for None (way.ByVerifier b view) h i = let q = i.0 in cc
  way_is_for (Some n) (way.ByVerifier b view) h i = h.0

  way_valid : (o : Option Meaning) (w : Way V D) → IsVerifier v a o → IsWay means o k w → valid_under v a k m x ≡ way_accepts means a m x w
  way_valid None (way.Tag s) h i = rw (h, i.1) refl
  way_valid (Some n) (way.Tag s) h i = let q = i.0 in cc
  way_valid None (way.ByVerifier b view) h i = let q = i.0 in cc
  way_valid (Some n) (way.ByVerifier b view) h i = rw (h.0, h.1 ∙ i.0, i.1) refl

  way_lacks : (o : Option Meaning) (w : Way V D) → IsVerifier v a o → IsWay means o k w → may_lack_under v a k m x ≡ way_may_lack means a m x w
  way_lacks None (way.Tag s) h i = rw h refl
  way_lacks (Some n) (way.Tag s) h i = let q = i.0 in cc
  way_lacks None (way.ByVerifier b view) h i = let q = i.0 in cc
  way_lacks (Some n) (way.ByVerifier b view) h i = rw (h.0, h.1 ∙ i.0, i.1) refl

  way_costs : (o : Option Meaning) (w : Way V D) → suits a k ≡ true → IsVerifier v a o → IsWay means o k w → cost_under a k m ≡ way_cost a m w
  way_costs None (way.Tag s) f h i = rw i.1 refl
  way_costs (Some n) (way.Tag s) f h i = let q = i.0 in cc
  way_costs None (way.ByVerifier b view) f h i = let q = i.0 in cc
  way_costs (Some n) (way.ByVerifier b view) f h i = cost_none a k m f h.0

valid_named : (v : List Meaning) (m : MessageOctets) (s : SignatureParts) (k : KeyParts) (a : Alg) → alg s ≡ Some a → valid_by v m s k ≡ valid_under v a k.octets m s.octets
unfolding valid_by
valid_named v m s k a e = rw e refl

may_lack_named : (v : List Meaning) (m : MessageOctets) (s : SignatureParts) (k : KeyParts) (a : Alg) → alg s ≡ Some a → may_lack_by v m s k ≡ may_lack_under v a k.octets m s.octets
unfolding may_lack_by
may_lack_named v m s k a e = rw e refl

cost_named : (m : MessageOctets) (s : SignatureParts) (k : KeyParts) (a : Alg) → alg s ≡ Some a → cost_by m s k ≡ cost_under a k.octets m
unfolding cost_by
cost_named m s k a e = rw e refl

-- ---- the next pair

pub none_next : {V : Type 0} {D : V → Type 0} (means : Means V D) (a : CodeTerms V D) (u : LiveSignature V D) (from : ℕ) → IsLive means a u
    → IsLeastFrom (fits a.policy.now (parts u.signature.now)) (key_set a.keys.now).keys from None
    → NoneEligible (terms_table means a u.signed.now) u.number from (terms_table means a u.signed.now).keys
unfolding terms_table
none_next means a u from o h = next_is a.policy.now (map means a.verifiers.now) (key_set a.keys.now).keys (token u.signed.now) u.number from (parts u.signature.now) None o.signature o.unbarred h

key_fits : (f : KeyParts → Bool) (ks : List KeyParts) (j : ℕ) (k : KeyParts) → option_map_or f (slice_get ks j) false ≡ true → slice_get ks j ≡ Some k → f k ≡ true
key_fits f ks j k h e = rw e at h

key_suits : (p : Settings) (s : SignatureParts) (ks : List KeyParts) (from j : ℕ) (k : KeyParts) (a : Alg) → alg s ≡ Some a → IsLeastFrom (fits p s) ks from (Some j) → slice_get ks j ≡ Some k → suits a k.octets ≡ true
key_suits p s ks from j k a n h e = fits_suits p s k a n (key_fits (fits p s) ks j k h.1 e)

rsa_is_public : (a : Alg) (n e : List ℕ) → suits a (RsaKey n e) ≡ true → is_hmac_alg a ≡ true → ⊥
rsa_is_public a n e h m = by (kind_of a) h m
  where
    by : (kind : Kind) → suits_kind kind (RsaKey n e) ≡ true → is_hmac kind ≡ true → ⊥
    by (Hmac hash) h m = cc
    by _ h m = cc

ec_is_public : (a : Alg) (curve : EcCurve) (x y : List ℕ) → suits a (EcKey curve x y) ≡ true → is_hmac_alg a ≡ true → ⊥
ec_is_public a curve x y h m = by (kind_of a) h m
  where
    by : (kind : Kind) → suits_kind kind (EcKey curve x y) ≡ true → is_hmac kind ≡ true → ⊥
    by (Hmac hash) h m = cc
    by _ h m = cc

okp_is_public : (a : Alg) (curve : EdCurve) (x : List ℕ) → suits a (OkpKey curve x) ≡ true → is_hmac_alg a ≡ true → ⊥
okp_is_public a curve x h m = by (kind_of a) h m
  where
    by : (kind : Kind) → suits_kind kind (OkpKey curve x) ≡ true → is_hmac kind ≡ true → ⊥
    by (Hmac hash) h m = cc
    by _ h m = cc

suits_secret : (a : Alg) (k : KeyOctets) → suits a k ≡ true → is_hmac_alg a ≡ true → IsSecret k
suits_secret a (OctKey s) h m = (s, refl)
suits_secret a (RsaKey n e) h m = absurd (rsa_is_public a n e h m)
suits_secret a (EcKey curve x y) h m = absurd (ec_is_public a curve x y h m)
suits_secret a (OkpKey curve x) h m = absurd (okp_is_public a curve x h m)

-- a key that fits a signature by HMAC is a secret
pub live_secret : {V : Type 0} {D : V → Type 0} (means : Means V D) (a : CodeTerms V D) (u : LiveSignature V D) (from j : ℕ) (k : KeyParts) → IsLive means a u
    → IsLeastFrom (fits a.policy.now (parts u.signature.now)) (key_set a.keys.now).keys from (Some j)
    → slice_get (key_set a.keys.now).keys j ≡ Some k → u.verifier ≡ None → IsSecret k.octets
live_secret means a u from j k o h e none =
    let hmac : is_hmac_alg u.alg ≡ true = rw none at o.verifier in
    suits_secret u.alg k.octets (key_suits a.policy.now (parts u.signature.now) (key_set a.keys.now).keys from j k u.alg o.named h e) hmac

pub some_next : {V : Type 0} {D : V → Type 0} (means : Means V D) (a : CodeTerms V D) (u : LiveSignature V D) (from : ℕ) (p : Pair V D) (k : KeyParts) (view : KeyOctets) → IsLive means a u
    → IsLeastFrom (fits a.policy.now (parts u.signature.now)) (key_set a.keys.now).keys from (Some p.key)
    → slice_get (key_set a.keys.now).keys p.key ≡ Some k
    → view ≡ k.octets → IsWay means (option_map (λ v. means v.now) u.verifier) view p.way
    → p.signature ≡ u.number → p.alg ≡ u.alg → message_octets p.message ≡ message_of (token u.signed.now) (parts u.signature.now) → p.octets.now ≡ (parts u.signature.now).octets
    → IsNextPair means (terms_table means a u.signed.now) u.number from p
unfolding terms_table
some_next means a u from p k view o h e same way number named message octets =
    let v = map means a.verifiers.now in
    let ks = (key_set a.keys.now).keys in
    let t = token u.signed.now in
    let s = parts u.signature.now in
    let m = message_octets p.message in
    let z = option_map (λ v. means v.now) u.verifier in
    let n : alg s ≡ Some p.alg = o.named ∙ ap Some (sym named) in
    let is_verifier : IsVerifier v p.alg z = rw named o.verifier in
    let w : IsWay means z k.octets p.way = subst (λ k. IsWay means z k p.way) same way in
    record {
      next = next_is a.policy.now v ks t u.number from s (Some p.key) o.signature o.unbarred h;
      signature = number;
      is_for = way_is_for means v p.alg k.octets m p.octets.now z p.way is_verifier w;
      valid = at_pair_is (λ s k. valid_by v (message_of t s) s k) false t ks u.number p.key s k o.signature e ∙ valid_named v (message_of t s) s k p.alg n
          ∙ ap (λ m. valid_under v p.alg k.octets m s.octets) (sym message) ∙ ap (λ x. valid_under v p.alg k.octets m x) (sym octets) ∙ (way_valid means v p.alg k.octets m p.octets.now z p.way is_verifier w);
      may_lack = at_pair_is (λ s k. may_lack_by v (message_of t s) s k) false t ks u.number p.key s k o.signature e ∙ may_lack_named v (message_of t s) s k p.alg n
          ∙ ap (λ m. may_lack_under v p.alg k.octets m s.octets) (sym message) ∙ ap (λ x. may_lack_under v p.alg k.octets m x) (sym octets) ∙ (way_lacks means v p.alg k.octets m p.octets.now z p.way is_verifier w);
      cost = at_pair_is (λ s k. cost_by (message_of t s) s k) 0 t ks u.number p.key s k o.signature e ∙ cost_named (message_of t s) s k p.alg n
          ∙ ap (λ m. cost_under p.alg k.octets m) (sym message) ∙ (way_costs means v p.alg k.octets m p.octets.now z p.way (key_suits a.policy.now s ks from p.key k p.alg n h e) is_verifier w);
    }

-- ---- there are few pairs

pub terms_few : {V : Type 0} {D : V → Type 0} (means : Means V D) (a : CodeTerms V D) (signed : Signed) → (terms_table means a signed).keys ≤ 1024
unfolding terms_table
terms_few means a signed = rw (length-map a.keys.now.keys.items key_parts) a.keys.now.few

pub terms_small : {V : Type 0} {D : V → Type 0} (means : Means V D) (a : CodeTerms V D) (signed : Signed) → (terms_table means a signed).signatures * (terms_table means a signed).keys < 2 ^ 32
unfolding terms_table
terms_small means a signed = few_pairs (length (token signed).signatures) (length (key_set a.keys.now).keys)
    (omega (arith, length-map signed.more.items parts, signed.few)) (terms_few means a signed)

pub next_few : {V : Type 0} {D : V → Type 0} (means : Means V D) (a : CodeTerms V D) (signed : Signed) {i from j : ℕ} → IsNextKey (terms_table means a signed) i from j → j < 1024
next_few means a signed n = omega (arith, n.within, terms_few means a signed)

slice_within : {X : Type 0} (xs : List X) (i : ℕ) → i < length xs → slice_get xs i ≡ None → ⊥
slice_within [] i l h = absurd (omega arith)
slice_within (x ∷ xs) zero l h = cc
slice_within (x ∷ xs) (suc i) l h = slice_within xs i (omega arith) h

-- the number of the signatures is reached
pub none_past : {X : Type 0} (xs : List X) (i : ℕ) → i ≤ length xs → slice_get xs i ≡ None → i ≡ length xs
none_past xs i l h = elim (cases_lt i (length xs)) [
  | inl m ↦ absurd (slice_within xs i m h)
  | inr m ↦ omega arith
]

-- ---- what is said of an unbarred signature is said of the one of that number

pub of_numbered : {V : Type 0} {D : V → Type 0} {means : Means V D} {a : CodeTerms V D} {n : Numbered} {u : LiveSignature V D} (P : Table → ℕ → Type 0) → IsLiveOf means a n u
    → P (terms_table means a n.signed.now) n.number → P (terms_table means a u.signed.now) u.number
of_numbered P h p = rw (h.same_token, h.same_number) p

pub to_numbered : {V : Type 0} {D : V → Type 0} {means : Means V D} {a : CodeTerms V D} {n : Numbered} {u : LiveSignature V D} (P : Table → ℕ → Type 0) → IsLiveOf means a n u
    → P (terms_table means a u.signed.now) u.number → P (terms_table means a n.signed.now) n.number
to_numbered P h p = rw (sym h.same_token, sym h.same_number) p
