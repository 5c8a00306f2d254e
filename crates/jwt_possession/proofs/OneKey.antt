-- The verdict on one signature by one key, the public one in its header.
use Rattle.std.proofs.Common.{◌≡◌, ◌≢◌, ◌++◌, ℕ, ℤ, zero, suc, ◌+◌, ◌<◌, ◌≤◌, Bool, true, false, ◌&&◌, ◌||◌, if◌then◌else◌, List, [], ◌∷◌, codes, length, Option, Some, None, Result, Ok, Err, map, refl, sym, ap, ap₂, subst, ◌∙◌, inl, inr, arith, true≢false}
use Rattle.std.specs.List.{filter, flat_map, list_any}
use Rattle.std.specs.Prelude.{option_and_then}
use Rattle.std.specs.Str.{bytes_eq}
use Rattle.serde_json.specs.Data.{Members}
use Rattle.jwt_text.specs.Answers.{◌>>=◌, unless, or_fault, some_or}
use Rattle.jwt_text.specs.Members.{has, text_at, object_at}
use Rattle.jwt_text.specs.Rows.{Row, first_row, IsFirstRow, NoRow}
use Rattle.jwt_text.proofs.RowsLemmas.{first_row_is, no_row_is}
use Rattle.jwt_mac.specs.declared.algorithm.Alg.{Alg}
use Rattle.jwt_mac.specs.declared.algorithm.Kind.{Kind}
use Rattle.jwt_mac.specs.declared.algorithm.Kind.TheVariants.{Hmac}
use Rattle.jwt_mac.specs.declared.key_view.EcCurve.{EcCurve}
use Rattle.jwt_mac.specs.declared.key_view.EdCurve.{EdCurve}
use Rattle.jwt_mac.specs.Algorithm.{is_hmac_alg, kind_of, is_hmac}
use Rattle.jwt_mac.specs.Verifying.{Meaning, KeyOctets, OctKey, RsaKey, EcKey, OkpKey, first_naming}
use Rattle.jwt_jws.specs.Token.{Token, SignatureParts, message_of}
use Rattle.jwt_keys.specs.declared.skip.SkipReason.{SkipReason}
use Rattle.jwt_keys.specs.declared.skip.SkipReason.TheVariants.{NotObject}
use Rattle.jwt_keys.specs.Entries.{key_in, key_with}
use Rattle.jwt_keys.specs.Keys.{KeyParts}
use Rattle.jwt_keys.specs.Kinds.{curve_named, ed_curve_named}
use Rattle.jwt_keys.specs.SkipTable.{lacks_member, skip_rows}
use Rattle.jwt_policy.specs.declared.mode.Mode.{Mode}
use Rattle.jwt_policy.specs.declared.mode.Mode.TheVariants.{Any, All}
use Rattle.jwt_policy.specs.declared.sig_fault.SigFault.{SigFault}
use Rattle.jwt_policy.specs.declared.claim_fault.ClaimFault.{ClaimFault}
use Rattle.jwt_policy.specs.Bars.{bar_rows}
use Rattle.jwt_policy.specs.Checks.{check_rows}
use Rattle.jwt_policy.specs.ClaimKinds.{kind_rows}
use Rattle.jwt_policy.specs.Eligible.{suits, suits_kind}
use Rattle.jwt_policy.specs.Laws.{IsEligible}
use Rattle.jwt_policy.specs.Settings.{Settings}
use Rattle.jwt_policy.proofs.RowsLemmas.{first_of_both}
use Rattle.jwt_verify.specs.declared.report.Fault.{Fault}
use Rattle.jwt_verify.specs.declared.report.Fault.TheVariants.{OutOfMemory, Text, Form, WorkExceeded, CallsExceeded, VerifierMemory, Signature, Claim}
use Rattle.jwt_verify.specs.declared.report.Try.{Try}
use Rattle.jwt_verify.specs.declared.report.Verdict.TheVariants.{Refused}
use Rattle.jwt_verify.specs.Accepted.{HasClaims, IsAccepted, IsClaimFault, IsFault, IsFirstUnverified, IsReason, IsVerifiedBy, StopsAt, TellsTokens, TellsTokenFaults}
use Rattle.jwt_verify.specs.Asks.{AtPair, IsCost, IsTableOf, IsToken, IsValid}
use Rattle.jwt_verify.specs.Paying.{AreAllowed}
use Rattle.jwt_verify.specs.Reports.{FoundMemory}
use Rattle.jwt_verify.specs.Table.{Table, below, entry, pairs, reached, reached_in, tried, tries, verified, verifies, work}
use Rattle.jwt_verify.specs.Verdict.{Terms}
use Rattle.jwt_possession.specs.declared.own_key.KeyFault.TheVariants.{KeyMissing, KeyPrivate, KeyUnreadable}
use Rattle.jwt_possession.specs.HeaderKey.{header_key_of, is_private, public_key_of}
use Rattle.jwt_possession.specs.Proofs.{HasOwnKey, IsRefusal, IsSignedByOwnKey, IsVerifiedByKey}
use Rattle.jwt_possession.proofs.Policies.{fails_each}
use Rattle.jwt_possession.proofs.OneToken.{no_token_fault, one_token}

-- the terms of a verdict by one key
abbrev pub terms_with : Settings → KeyParts → ℤ → List Meaning → Terms
terms_with policy key now verifiers = record { policy = policy; keys = key ∷ []; now = now; verifiers = verifiers }

-- ---- the key in a header is no secret

abbrev pub IsPublic : KeyParts → Type 0
IsPublic key = (secret : List ℕ) → key.octets ≢ OctKey secret

last_false : (a b : Bool) → (a || b) ≡ false → b ≡ false
last_false true b e = absurd cc
last_false false b e = e

eighth_false : (a b c d e f g h : Bool) → (a || (b || (c || (d || (e || (f || (g || h))))))) ≡ false → h ≡ false
eighth_false a b c d e f g h all =
    last_false g h (last_false f (g || h) (last_false e (f || (g || h)) (last_false d (e || (f || (g || h)))
    (last_false c (d || (e || (f || (g || h)))) (last_false b (c || (d || (e || (f || (g || h))))) (last_false a (b || (c || (d || (e || (f || (g || h)))))) all))))))

no_secret_member : (jwk : Members) → is_private jwk ≡ false → has (codes "k") jwk ≡ false
no_secret_member jwk e = eighth_false (has (codes "d") jwk) (has (codes "p") jwk) (has (codes "q") jwk) (has (codes "dp") jwk) (has (codes "dq") jwk) (has (codes "qi") jwk) (has (codes "oth") jwk) (has (codes "k") jwk) e

-- the octets are those of a secret
abbrev pub is_secret : KeyOctets → Bool
is_secret (OctKey secret) = true
is_secret _ = false

abbrev pub has_secret : Result KeyParts SkipReason → Bool
has_secret (Ok key) = is_secret key.octets
has_secret (Err reason) = false

-- the key of these members, which have a `kty`
abbrev pub NoSecret : Members → Type 0
NoSecret jwk = has_secret (some_or NotObject (key_with 0 jwk)) ≡ false

module _ (jwk : Members) (none : has (codes "k") jwk ≡ false) (whole : lacks_member jwk ≡ false) (t : List ℕ) (text : text_at (codes "kty") jwk ≡ Some t) where
  no_oct : ¬ (bytes_eq t (codes "oct") ≡ true)
  no_oct e = let lacked : lacks_member jwk ≡ true = rw (text, e, none) refl in true≢false (sym lacked ∙ whole)

  of_okp : (o : Option EdCurve) → option_and_then ed_curve_named (text_at (codes "crv") jwk) ≡ o → bytes_eq t (codes "oct") ≡ false → bytes_eq t (codes "RSA") ≡ false
      → bytes_eq t (codes "EC") ≡ false → bytes_eq t (codes "OKP") ≡ true → NoSecret jwk
  of_okp None curve e f g h = rw (text, e, f, g, h, curve) refl
  of_okp (Some c) curve e f g h = rw (text, e, f, g, h, curve) refl

  of_ec : (o : Option EcCurve) → option_and_then curve_named (text_at (codes "crv") jwk) ≡ o → bytes_eq t (codes "oct") ≡ false → bytes_eq t (codes "RSA") ≡ false
      → bytes_eq t (codes "EC") ≡ true → NoSecret jwk
  of_ec None curve e f g = rw (text, e, f, g, curve) refl
  of_ec (Some c) curve e f g = rw (text, e, f, g, curve) refl

  not_ec : (b : Bool) → bytes_eq t (codes "OKP") ≡ b → bytes_eq t (codes "oct") ≡ false → bytes_eq t (codes "RSA") ≡ false → bytes_eq t (codes "EC") ≡ false → NoSecret jwk
  not_ec true h e f g = of_okp (option_and_then ed_curve_named (text_at (codes "crv") jwk)) refl e f g h
  not_ec false h e f g = rw (text, e, f, g, h) refl

  not_rsa : (b : Bool) → bytes_eq t (codes "EC") ≡ b → bytes_eq t (codes "oct") ≡ false → bytes_eq t (codes "RSA") ≡ false → NoSecret jwk
  not_rsa true g e f = of_ec (option_and_then curve_named (text_at (codes "crv") jwk)) refl e f g
  not_rsa false g e f = not_ec (bytes_eq t (codes "OKP")) refl e f g

  not_oct : (b : Bool) → bytes_eq t (codes "RSA") ≡ b → bytes_eq t (codes "oct") ≡ false → NoSecret jwk
  not_oct true f e = rw (text, e, f) refl
  not_oct false f e = not_rsa (bytes_eq t (codes "EC")) refl e f

  of_type : (b : Bool) → bytes_eq t (codes "oct") ≡ b → NoSecret jwk
  of_type true e = absurd (no_oct e)
  of_type false e = not_oct (bytes_eq t (codes "RSA")) refl e

no_secret : (jwk : Members) → has (codes "k") jwk ≡ false → lacks_member jwk ≡ false → (o : Option (List ℕ)) → text_at (codes "kty") jwk ≡ o → NoSecret jwk
no_secret jwk none whole None text = rw text refl
no_secret jwk none whole (Some t) text = of_type jwk none whole t text (bytes_eq t (codes "oct")) refl

octets_public : (octets : KeyOctets) (secret : List ℕ) → is_secret octets ≡ false → octets ≢ OctKey secret
octets_public octets secret e is = true≢false (sym (ap is_secret is) ∙ e)

entry_public : (jwk : Members) (key : KeyParts) → is_private jwk ≡ false → key_in 0 (Some jwk) ≡ Ok key → IsPublic key
unfolding key_in
entry_public jwk key shown is secret = by (first_row (skip_rows (Some jwk))) refl is
  where
    by : (o : Option SkipReason) → first_row (skip_rows (Some jwk)) ≡ o → unless o (some_or NotObject (option_and_then (key_with 0) (Some jwk))) ≡ Ok key → key.octets ≢ OctKey secret
    by (Some reason) e is = absurd cc
    by None e is =
        let fails = fails_each (skip_rows (Some jwk)) e in
        let hidden = no_secret jwk (no_secret_member jwk shown) fails.1.1.1.1.0 (text_at (codes "kty") jwk) refl in
        octets_public key.octets secret (ap has_secret (sym is) ∙ hidden)

object_public : (jwk : Members) (key : KeyParts) → public_key_of jwk ≡ Ok key → IsPublic key
object_public jwk key is = by (is_private jwk) refl is
  where
    read : is_private jwk ≡ false → (r : Result KeyParts SkipReason) → key_in 0 (Some jwk) ≡ r → or_fault KeyUnreadable r ≡ Ok key → IsPublic key
    read shown (Ok k) there is = let same : k ≡ key = cc in entry_public jwk key shown (there ∙ ap Ok same)
    read shown (Err reason) there is = absurd cc

    by : (b : Bool) → is_private jwk ≡ b → (if b then Err KeyPrivate else or_fault KeyUnreadable (key_in 0 (Some jwk))) ≡ Ok key → IsPublic key
    by true e is = absurd cc
    by false e is = read e (key_in 0 (Some jwk)) refl is

pub own_public : (signature : SignatureParts) (key : KeyParts) → header_key_of signature ≡ Ok key → IsPublic key
own_public signature key is = by (object_at (codes "jwk") signature.protected) is
  where
    by : (o : Option Members) → (some_or KeyMissing o >>= public_key_of) ≡ Ok key → IsPublic key
    by None is = absurd cc
    by (Some jwk) is = object_public jwk key is

-- no public key suits an algorithm by a shared secret
asymmetric : (a : Alg) (key : KeyOctets) → ((secret : List ℕ) → key ≢ OctKey secret) → suits a key ≡ true → is_hmac_alg a ≡ false
asymmetric a key public e = by (kind_of a) key public e
  where
    by : (kind : Kind) (key : KeyOctets) → ((secret : List ℕ) → key ≢ OctKey secret) → suits_kind kind key ≡ true → is_hmac kind ≡ false
    by (Hmac hash) (OctKey secret) public e = absurd (public secret refl)
    by (Hmac hash) (RsaKey n m) public e = absurd cc
    by (Hmac hash) (EcKey curve x y) public e = absurd cc
    by (Hmac hash) (OkpKey curve x) public e = absurd cc
    by _ _ public e = refl

-- ---- rows of two tables

first_of_front : {A : Type 0} (rs qs : List (Row A)) (a : A) → IsFirstRow rs a → IsFirstRow (rs ++ qs) a
first_of_front rs qs a h = (first_row_is (rs ++ qs) a).0 (first_of_both rs qs ∙ rw ((first_row_is rs a).1 h) refl)

first_of_back : {A : Type 0} (rs qs : List (Row A)) (a : A) → NoRow rs → IsFirstRow qs a → IsFirstRow (rs ++ qs) a
first_of_back rs qs a none h = (first_row_is (rs ++ qs) a).0 (first_of_both rs qs ∙ rw ((no_row_is rs).1 none) ((first_row_is qs a).1 h))

-- ---- one signature, one key

and_both : (a b : Bool) → (a && b) ≡ true → (a ≡ true) × (b ≡ true)
and_both true b e = (refl, e)
and_both false b e = absurd cc

and_true : (a : Bool) → (a && true) ≡ a
and_true true = refl
and_true false = refl

or_false : (a : Bool) → (a || false) ≡ a
or_false true = refl
or_false false = refl

reached_first : (mode : Mode) (table : Table) → reached_in mode table 0 ≡ true
unfolding reached_in below
reached_first Any table = refl
reached_first All table = refl

tried_first : (table : Table) → tried table 0 0 ≡ table.eligible 0 0
unfolding tried reached below
tried_first table = rw (reached_first table.mode table) (and_true (table.eligible 0 0))

tries_of_one : (table : Table) → table.signatures ≡ 1 → table.keys ≡ 1 → tries table ≡ (if table.eligible 0 0 then entry table 0 0 ∷ [] else [])
unfolding tries pairs below
tries_of_one table signatures keys =
    ap₂ (λ s k. filter (λ e. tried table e.signature e.key) (flat_map (λ signature. map (entry table signature) (below k)) (below s))) signatures keys
    ∙ rw (tried_first table) refl

verified_by_one : (table : Table) → table.keys ≡ 1 → verified table 0 ≡ verifies table 0 0
unfolding verified below
verified_by_one table keys = ap (λ k. list_any (verifies table 0) (below k)) keys ∙ or_false (verifies table 0 0)

-- where a run stops, it stops at the only pair, and before any try
stops_at_one : (table : Table) → table.signatures ≡ 1 → table.keys ≡ 1 → (i j : ℕ) (before rest : List Try) → tries table ≡ before ++ entry table i j ∷ rest
    → (table.eligible 0 0 ≡ true) × (before ≡ []) × (i ≡ 0) × (j ≡ 0)
stops_at_one table signatures keys i j before rest is = by (table.eligible 0 0) refl before (sym (tries_of_one table signatures keys) ∙ is)
  where
    by : (b : Bool) → table.eligible 0 0 ≡ b → (before : List Try) → (if b then entry table 0 0 ∷ [] else []) ≡ before ++ entry table i j ∷ rest
        → (table.eligible 0 0 ≡ true) × (before ≡ []) × (i ≡ 0) × (j ≡ 0)
    by false e [] is = absurd cc
    by false e (t ∷ ts) is = absurd cc
    by true e [] is = let same : entry table 0 0 ≡ entry table i j = cc in (e, refl, sym (ap (λ (t : Try). t.signature) same), sym (ap (λ (t : Try). t.key) same))
    by true e (t ∷ []) is = absurd cc
    by true e (t ∷ u ∷ ts) is = absurd cc

module _ (policy : Settings) (verifiers : List Meaning) (now : ℤ) (token : Token) (key : KeyParts) (own : HasOwnKey token key)
    (table : Table) (asks : IsTableOf (terms_with policy key now verifiers) token table) where
  one_signature : table.signatures ≡ 1
  one_signature = asks.signatures ∙ own.alone

  one_key : table.keys ≡ 1
  one_key = asks.keys

  at_own : (P : SignatureParts → KeyParts → Type 0) → AtPair token (key ∷ []) 0 0 P → P own.signature key
  at_own P (s, k, is, there, holds) =
      let signatures : Some s ≡ Some own.signature = sym is ∙ own.first in
      let signature : s ≡ own.signature = cc in
      let same : k ≡ key = cc in
      subst (λ (s : SignatureParts). P s key) signature (subst (λ (k : KeyParts). P s k) same holds)

  of_own : (P : SignatureParts → KeyParts → Type 0) → P own.signature key → AtPair token (key ∷ []) 0 0 P
  of_own P holds = (own.signature, key, own.first, refl, holds)

  eligible_is : table.eligible 0 0 ≡ true → IsEligible policy own.signature key verifiers
  eligible_is e = at_own (λ s k. IsEligible policy s k verifiers) ((asks.eligible 0 0).0 e)

  is_eligible : IsEligible policy own.signature key verifiers → table.eligible 0 0 ≡ true
  is_eligible h = (asks.eligible 0 0).1 (of_own (λ s k. IsEligible policy s k verifiers) h)

  no_bar : table.bar 0 ≡ None → NoRow (bar_rows policy own.signature verifiers)
  no_bar none = by (first_row (bar_rows policy own.signature verifiers)) refl
    where
      by : (o : Option SigFault) → first_row (bar_rows policy own.signature verifiers) ≡ o → NoRow (bar_rows policy own.signature verifiers)
      by None e = (no_row_is (bar_rows policy own.signature verifiers)).0 e
      by (Some fault) e =
          let barred = (asks.bar 0 fault).1 (own.signature, own.first, (first_row_is (bar_rows policy own.signature verifiers) fault).0 e) in
          let never : None ≡ Some fault = sym none ∙ barred in
          absurd cc

  bar_is : (fault : SigFault) → table.bar 0 ≡ Some fault → IsFirstRow (bar_rows policy own.signature verifiers) fault
  bar_is fault barred =
      let row = (asks.bar 0 fault).0 barred in
      let signatures : Some row.0 ≡ Some own.signature = sym row.1 ∙ own.first in
      let signature : row.0 ≡ own.signature = cc in
      subst (λ (s : SignatureParts). IsFirstRow (bar_rows policy s verifiers) fault) signature row.2

  costs_nothing : table.cost 0 0 ≡ 0
  costs_nothing = by (table.cost 0 0) refl
    where
      by : (n : ℕ) → table.cost 0 0 ≡ n → table.cost 0 0 ≡ 0
      by zero e = e
      by (suc n) e =
          let paid = at_own (λ s k. IsCost (message_of token s) s k (suc n)) ((asks.cost 0 0 (suc n) (omega arith)).0 e) in
          absurd (own_public own.signature key own.own_key paid.1 paid.3)

  allows_one : (ceiling : ℕ) → table.eligible 0 0 ≡ true → AreAllowed ceiling policy.max_calls (tries table) → policy.max_calls ≢ Some 0
  allows_one ceiling e all none =
      let within : length (tries table) ≤ 0 = all.1 0 none in
      let one : length (tries table) ≡ 1 = ap length (tries_of_one table one_signature one_key) ∙ rw e refl in
      absurd (omega (arith, within, one))

  verified_is : (ceiling : ℕ) → verifies table 0 0 ≡ true → AreAllowed ceiling policy.max_calls (tries table) → IsVerifiedByKey policy verifiers token own.signature key
  unfolding verifies
  verified_is ceiling e all =
      let both = and_both (table.eligible 0 0) (table.valid 0 0) e in
      by (eligible_is both.0) (allows_one ceiling both.0 all) (at_own (λ s k. IsValid verifiers (message_of token s) s k) ((asks.valid 0 0).0 both.1))
    where
      by : (eligible : IsEligible policy own.signature key verifiers) → policy.max_calls ≢ Some 0 → IsValid verifiers (message_of token own.signature) own.signature key
          → IsVerifiedByKey policy verifiers token own.signature key
      by eligible allowed (a, named, inl (hmac, (secret, is, tag))) = absurd (own_public own.signature key own.own_key secret is)
      by eligible allowed (a, named, inr (v, ask, accepts)) =
          let names : Some a ≡ Some eligible.algorithm = sym named ∙ eligible.named in
          let same : a ≡ eligible.algorithm = cc in
          record {
            eligible = eligible;
            allowed = allowed;
            verifier = v;
            asked = subst (λ (a : Alg). first_naming verifiers a ≡ Some v) same ask.1;
            accepted = subst (λ (a : Alg). v.accepts a key.octets (message_of token own.signature) own.signature.octets ≡ true) same accepts;
          }

  is_verified : IsVerifiedByKey policy verifiers token own.signature key → verifies table 0 0 ≡ true
  unfolding verifies
  is_verified h =
      let shown = asymmetric h.eligible.algorithm key.octets (own_public own.signature key own.own_key) h.eligible.suited in
      let valid : IsValid verifiers (message_of token own.signature) own.signature key = (h.eligible.algorithm, h.eligible.named, inr (h.verifier, (shown, h.asked), h.accepted)) in
      rw (is_eligible h.eligible, (asks.valid 0 0).1 (of_own (λ s k. IsValid verifiers (message_of token s) s k) valid)) refl

  verified_there : (ceiling i j : ℕ) → IsVerifiedBy table i j → AreAllowed ceiling policy.max_calls (tries table) → IsVerifiedByKey policy verifiers token own.signature key
  verified_there ceiling i j h all =
      let signature : i ≡ 0 = omega (arith, h.0, one_signature) in
      let number : j ≡ 0 = omega (arith, h.2.0, one_key) in
      verified_is ceiling (subst (λ n. verifies table n 0 ≡ true) signature (subst (λ n. verifies table i n ≡ true) number h.2.1)) all

  first_unverified : (mode : Mode) (i : ℕ) → IsFirstUnverified mode table i → (i ≡ 0) × (verified table 0 ≡ false)
  first_unverified Any i h = (h.0, h.1 0 (omega (arith, one_signature)))
  first_unverified All i h = let first : i ≡ 0 = omega (arith, h.0, one_signature) in (first, subst (λ n. verified table n ≡ false) first h.1)

  reason_is : (ceiling : ℕ) (fault : SigFault) → AreAllowed ceiling policy.max_calls (tries table) → verified table 0 ≡ false → IsReason table 0 fault
      → IsRefusal policy verifiers now token own.signature key (Signature 0 fault)
  reason_is ceiling fault all not (inl barred) = (refl, inl (bar_is fault barred))
  reason_is ceiling fault all not (inr (none, inl (is, unfit))) =
      (refl, inr (inl (is, no_bar none, λ h. true≢false (sym (is_eligible h) ∙ unfit 0 (omega (arith, one_key))))))
  reason_is ceiling fault all not (inr (none, inr (is, (j, there, e)))) =
      let number : j ≡ 0 = omega (arith, there, one_key) in
      let eligible = subst (λ n. table.eligible 0 n ≡ true) number e in
      (refl, inr (inr (is, eligible_is eligible, allows_one ceiling eligible all, λ h. true≢false (sym (is_verified h) ∙ sym (verified_by_one table one_key) ∙ not))))

  signature_refusal : (ceiling i : ℕ) (fault : SigFault) → AreAllowed ceiling policy.max_calls (tries table) → IsFirstUnverified table.mode table i → IsReason table i fault
      → IsRefusal policy verifiers now token own.signature key (Signature i fault)
  signature_refusal ceiling i fault all first reason =
      let here = first_unverified table.mode i first in
      subst (λ n. IsRefusal policy verifiers now token own.signature key (Signature n fault)) (sym here.0)
      (reason_is ceiling fault all here.1 (subst (λ n. IsReason table n fault) here.0 reason))

  calls_refusal : (ceiling i j most : ℕ) (before : List Try) → StopsAt table ceiling policy.max_calls i j before → policy.max_calls ≡ Some most → most < length before + 1
      → IsRefusal policy verifiers now token own.signature key (CallsExceeded i j)
  calls_refusal ceiling i j most before stops is less =
      let here = stops_at_one table one_signature one_key i j before stops.next.0 stops.next.1 in
      let none : most ≡ 0 = omega (arith, less, ap length here.1) in
      (here.2, here.3, eligible_is here.0, is ∙ ap Some none)

  no_work : (ceiling i j : ℕ) (before : List Try) → StopsAt table ceiling policy.max_calls i j before → ¬ (ceiling < work before + table.cost i j)
  unfolding work
  no_work ceiling i j before stops more =
      let here = stops_at_one table one_signature one_key i j before stops.next.0 stops.next.1 in
      let nothing : work before ≡ 0 = ap work here.1 in
      let free : table.cost i j ≡ 0 = subst (λ n. table.cost n j ≡ 0) (sym here.2) (subst (λ n. table.cost 0 n ≡ 0) (sym here.3) costs_nothing) in
      absurd (omega (arith, more, nothing, free))

  claim_refusal : (ceiling i j : ℕ) (fault : ClaimFault) → AreAllowed ceiling policy.max_calls (tries table) → IsVerifiedBy table i j
      → IsClaimFault (terms_with policy key now verifiers) token.payload fault → IsRefusal policy verifiers now token own.signature key (Claim fault)
  claim_refusal ceiling i j fault all h (inl (is, none)) = (verified_there ceiling i j h all, inl (is, none))
  claim_refusal ceiling i j fault all h (inr (inl (claims, object, first))) =
      (verified_there ceiling i j h all, inr (claims, object, first_of_front (kind_rows claims) (check_rows policy claims now) fault first))
  claim_refusal ceiling i j fault all h (inr (inr (claims, has_claims, first))) =
      (verified_there ceiling i j h all, inr (claims, has_claims.0, first_of_back (kind_rows claims) (check_rows policy claims now) fault has_claims.1 first))

-- ---- the verdict

module _ (tells : TellsTokens) (faults : TellsTokenFaults) (policy : Settings) (verifiers : List Meaning) (now : ℤ) (octets : List ℕ) (ceiling : ℕ)
    (token : Token) (key : KeyParts) (read : IsToken policy octets token) (own : HasOwnKey token key) where
  table_here : (t : Token) (table : Table) → IsToken policy octets t → IsTableOf (terms_with policy key now verifiers) t table → IsTableOf (terms_with policy key now verifiers) token table
  table_here t table is asks = subst (λ (t : Token). IsTableOf (terms_with policy key now verifiers) t table) (one_token tells policy octets t token is read) asks

  pub signed_by_own : (i j : ℕ) (claims : Members) → IsAccepted (terms_with policy key now verifiers) octets ceiling i j claims → IsSignedByOwnKey policy verifiers now octets key claims
  signed_by_own i j claims h =
      record {
        token = token;
        read = read;
        has_own_key = own;
        verified = verified_there policy verifiers now token key own h.table (table_here h.token h.table h.signed.0 h.signed.1) ceiling i j h.verified_by h.unstopped;
        has_claims = subst (λ (t : Token). HasClaims t.payload claims) (one_token tells policy octets h.token token h.signed.0 read) h.read;
        hold = h.hold;
      }

  refused_by_own : (fault : Fault) → IsFault (terms_with policy key now verifiers) octets ceiling fault → IsRefusal policy verifiers now token own.signature key fault
  refused_by_own OutOfMemory h = tt
  refused_by_own VerifierMemory h = tt
  refused_by_own (Text fault) h = absurd (no_token_fault tells faults policy octets token (Text fault) read h)
  refused_by_own (Form fault) h = absurd (no_token_fault tells faults policy octets token (Form fault) read h)
  refused_by_own (WorkExceeded i j) (t, table, (is, asks), (before, stops, more, within)) =
      absurd (no_work policy verifiers now token key own table (table_here t table is asks) ceiling i j before stops more)
  refused_by_own (CallsExceeded i j) (t, table, (is, asks), (before, stops, (most, same, less))) =
      calls_refusal policy verifiers now token key own table (table_here t table is asks) ceiling i j most before stops same less
  refused_by_own (Signature i fault) (t, table, (is, asks), (all, (first, reason))) =
      signature_refusal policy verifiers now token key own table (table_here t table is asks) ceiling i fault all first reason
  refused_by_own (Claim fault) (t, table, (is, asks), (all, ((i, j, by), why))) =
      claim_refusal policy verifiers now token key own table (table_here t table is asks) ceiling i j fault all by
      (subst (λ (t : Token). IsClaimFault (terms_with policy key now verifiers) t.payload fault) (one_token tells policy octets t token is read) why)

  -- want of memory aside, of which nothing is said
  pub refused_told : (fault : Fault) → (FoundMemory (Refused fault) → IsFault (terms_with policy key now verifiers) octets ceiling fault) → IsRefusal policy verifiers now token own.signature key fault
  refused_told OutOfMemory told = tt
  refused_told VerifierMemory told = tt
  refused_told fault told = refused_by_own fault (told tt)
