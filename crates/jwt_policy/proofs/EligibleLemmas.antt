-- An eligible pair, in words.
use Rattle.std.proofs.Common.{◌≡◌, ℕ, List, Bool, true, false, not, ◌&&◌, ◌||◌, ◌⊎◌, inl, inr, codes, Option, Some, None, is_none, refl, sym, ap, ◌∙◌, subst}
use Rattle.std.specs.Option.{option_map_or}
use Rattle.std.specs.List.{Contains}
use Rattle.std.specs.Str.{bytes_eq}
use Rattle.std.proofs.lemmas.Bool.{and_parts, and_from}
use Rattle.std.proofs.lemmas.Slice.Eq.{bytes_eq-Decides}
use Rattle.std.proofs.lemmas.Map.Views.{Contains-from_any}
use Rattle.std.proofs.lemmas.List.Folds.{list_any_at}
use Rattle.jwt_mac.specs.declared.algorithm.Alg.{Alg}
use Rattle.jwt_mac.specs.Algorithm.{name_of}
use Rattle.jwt_mac.specs.Verifying.{Meaning}
use Rattle.jwt_text.specs.Rows.{◌⇒◌, NoRow}
use Rattle.jwt_jws.specs.Token.{SignatureParts, kid}
use Rattle.jwt_keys.specs.Keys.{KeyParts, is_kid, is_none_and, is_for_signatures, allows, permits_of, has_name}
use Rattle.jwt_policy.specs.Settings.{Settings}
use Rattle.jwt_policy.specs.Texts.{some_passes}
use Rattle.jwt_policy.specs.Bars.{alg, can_verify, bar_rows, bar_of}
use Rattle.jwt_policy.specs.Eligible.{suits, is_for, answers_to, fits, eligible_for}
use Rattle.jwt_policy.specs.Laws.{IsEligible}
use Rattle.jwt_policy.specs.declared.sig_fault.SigFault.TheVariants.{NoVerifier}
use Rattle.jwt_policy.proofs.BarNames.{row_fails}

-- ---- options

pub some_at : {A : Type 0} (test : A → Bool) (o : Option A) → some_passes test o ≡ true → (a : A) × (o ≡ Some a) × (test a ≡ true)
some_at test None e = absurd cc
some_at test (Some a) e = (a, refl, e)

some_from : {A : Type 0} (test : A → Bool) (o : Option A) (a : A) → o ≡ Some a → test a ≡ true → some_passes test o ≡ true
some_from test o a is e = ap (some_passes test) is ∙ e

every_at : {A : Type 0} (test : A → Bool) (o : Option A) → option_map_or test o true ≡ true → (a : A) → o ≡ Some a → test a ≡ true
every_at test o e a is = sym (ap (λ t. option_map_or test t true) is) ∙ e

every_from : {A : Type 0} (test : A → Bool) (o : Option A) → ((a : A) → o ≡ Some a → test a ≡ true) → option_map_or test o true ≡ true
every_from test None h = refl
every_from test (Some a) h = h a refl

none_from : {A : Type 0} (o : Option A) → is_none o ≡ true → o ≡ None
none_from None e = refl
none_from (Some a) e = absurd cc

not_false : (b : Bool) → not b ≡ false → b ≡ true
not_false true e = refl
not_false false e = absurd cc

-- ---- the key's own members

uses : (o : Option (List ℕ)) → is_for_signatures o ≡ true → (name : List ℕ) → o ≡ Some name → name ≡ codes "sig"
uses None e name is = absurd cc
uses (Some u) e name is = let same : u ≡ name = cc in sym same ∙ (bytes_eq-Decides u (codes "sig")).0 e

uses_from : (o : Option (List ℕ)) → ((name : List ℕ) → o ≡ Some name → name ≡ codes "sig") → is_for_signatures o ≡ true
uses_from None h = refl
uses_from (Some u) h = (bytes_eq-Decides u (codes "sig")).1 (h u refl)

allowed : (op : List ℕ) (o : Option (List (List ℕ))) → allows op o ≡ true → (ops : List (List ℕ)) → o ≡ Some ops → Contains ops op
allowed op None e ops is = absurd cc
allowed op (Some os) e ops is = subst (λ xs. Contains xs op) (let same : os ≡ ops = cc in same) (Contains-from_any {eq = λ a b. bytes_eq b a} (λ x y h. sym ((bytes_eq-Decides y x).0 h)) op os e)

allowed_from : (op : List ℕ) (o : Option (List (List ℕ))) → ((ops : List (List ℕ)) → o ≡ Some ops → Contains ops op) → allows op o ≡ true
allowed_from op None h = refl
allowed_from op (Some os) h = let at = h os refl in list_any_at (λ o. bytes_eq o op) os at.0 op at.1 ((bytes_eq-Decides _ op).1 at.2)

-- ---- the key id

named : (name : List ℕ) (thumb : Bool) (own : Option (List ℕ)) (print : List ℕ) → (is_kid name own || (thumb && is_none_and own (bytes_eq name print))) ≡ true → (own ≡ Some name) ⊎ ((own ≡ None) × (thumb ≡ true) × (print ≡ name))
named name true None print e = inr (refl, refl, sym ((bytes_eq-Decides name print).0 e))
named name false None print e = absurd cc
named name thumb (Some k) print e = inl (ap Some (sym ((bytes_eq-Decides name k).0 (kid_alone (bytes_eq name k) thumb e))))
  where
    kid_alone : (b t : Bool) → (b || (t && false)) ≡ true → b ≡ true
    kid_alone true t e = refl
    kid_alone false true e = absurd cc
    kid_alone false false e = absurd cc

named_from : (name : List ℕ) (thumb : Bool) (own : Option (List ℕ)) (print : List ℕ) → (own ≡ Some name) ⊎ ((own ≡ None) × (thumb ≡ true) × (print ≡ name)) → (is_kid name own || (thumb && is_none_and own (bytes_eq name print))) ≡ true
named_from name thumb own print (inl is) = ap (λ o. is_kid name o || (thumb && is_none_and o (bytes_eq name print))) is ∙ ap (λ b. b || (thumb && false)) ((bytes_eq-Decides name name).1 refl)
named_from name thumb own print (inr h) = ap (λ o. is_kid name o || (thumb && is_none_and o (bytes_eq name print))) h.0 ∙ ap (λ b. b && bytes_eq name print) h.1 ∙ (bytes_eq-Decides name print).1 (sym h.2)

-- ---- the pair

fitting : (p : Settings) (s : SignatureParts) (key : KeyParts) (verifiers : List Meaning) → NoRow (bar_rows p s verifiers) → fits p s key ≡ true → IsEligible p s key verifiers
fitting p s key verifiers fails fit =
    let parts = and_parts (some_passes (is_for key) (alg s) && permits_of (codes "verify") key) (answers_to p s key) fit in
    let rest = and_parts (some_passes (is_for key) (alg s)) (permits_of (codes "verify") key) parts.0 in
    let permits = and_parts (is_for_signatures key.key_use) (allows (codes "verify") key.key_ops) rest.1 in
    let at = some_at (is_for key) (alg s) rest.0 in
    let for_key = and_parts (suits at.0 key.octets) (option_map_or (bytes_eq (name_of at.0)) key.alg true) at.2 in
    let can = some_at (can_verify verifiers) (alg s) (not_false (some_passes (can_verify verifiers) (alg s)) (row_fails (codes "NoVerifier") (bar_rows p s verifiers) (not (some_passes (can_verify verifiers) (alg s)) ⇒ NoVerifier) fails refl)) in
    let same : can.0 ≡ at.0 = some_same can.0 at.0 (sym can.1 ∙ at.1) in
    record {
      unbarred = fails;
      algorithm = at.0;
      named = at.1;
      has_verifier = subst (λ a. can_verify verifiers a ≡ true) same can.2;
      suited = for_key.0;
      key_alg = λ name is. sym ((bytes_eq-Decides (name_of at.0) name).0 (every_at (bytes_eq (name_of at.0)) key.alg for_key.1 name is));
      key_use = uses key.key_use permits.0;
      key_ops = allowed (codes "verify") key.key_ops permits.1;
      answers = λ name is. named name p.header.thumb_kid key.kid key.thumbprint (every_at (λ n. has_name n p.header.thumb_kid key) (kid s) parts.1 name is);
    }
  where
    some_same : (a b : Alg) → Some a ≡ Some b → a ≡ b
    some_same a b e = cc

pub eligible_is : (p : Settings) (s : SignatureParts) (key : KeyParts) (verifiers : List Meaning) → (bar_of p s verifiers ≡ None → NoRow (bar_rows p s verifiers)) → eligible_for p s key verifiers ≡ true → IsEligible p s key verifiers
unfolding eligible_for
eligible_is p s key verifiers fails e =
    let parts = and_parts (is_none (bar_of p s verifiers)) (fits p s key) e in
    let unbarred = none_from (bar_of p s verifiers) parts.0 in
    fitting p s key verifiers (fails unbarred) parts.1

pub is_eligible : (p : Settings) (s : SignatureParts) (key : KeyParts) (verifiers : List Meaning) → (NoRow (bar_rows p s verifiers) → bar_of p s verifiers ≡ None) → IsEligible p s key verifiers → eligible_for p s key verifiers ≡ true
unfolding eligible_for
is_eligible p s key verifiers unbarred h =
    let a = h.algorithm in
    let for_alg = some_from (is_for key) (alg s) a h.named
    (and_from (suits a key.octets) (option_map_or (bytes_eq (name_of a)) key.alg true) h.suited
    (every_from (bytes_eq (name_of a)) key.alg (λ name is. (bytes_eq-Decides (name_of a) name).1 (sym (h.key_alg name is))))) in
    let permits = and_from (is_for_signatures key.key_use) (allows (codes "verify") key.key_ops) (uses_from key.key_use h.key_use) (allowed_from (codes "verify") key.key_ops h.key_ops) in
    let answers = every_from (λ n. has_name n p.header.thumb_kid key) (kid s) (λ name is. named_from name p.header.thumb_kid key.kid key.thumbprint (h.answers name is)) in
    and_from (is_none (bar_of p s verifiers)) (fits p s key) (ap is_none (unbarred h.unbarred))
    (and_from (some_passes (is_for key) (alg s) && permits_of (codes "verify") key) (answers_to p s key)
    (and_from (some_passes (is_for key) (alg s)) (permits_of (codes "verify") key) for_alg permits)
    answers)
