-- The text of a thumbprint is the compact JSON of the members that a key has to have.
use Rattle.std.proofs.Common.{◌≡◌, ◌≢◌, ◌↔◌, ℕ, Bool, true, false, not, cond, List, [], ◌∷◌, ◌++◌, Option, Some, None, option_and_then, option_map, is_some, refl, sym, ap, subst, ◌∙◌, append_assoc}
use Rattle.std.specs.Prelude.{codes, unwrap_or}
use Rattle.std.specs.List.{list_all}
use Rattle.std.specs.Str.{bytes_eq}
use Rattle.std.proofs.lemmas.Bool.{and_parts}
use Rattle.std.proofs.lemmas.Slice.Eq.{bytes_eq-Decides}
use Rattle.json.specs.Print.{escape_byte}
use Rattle.serde_json.specs.Data.{string, object, Members, no_members, put}
use Rattle.serde_json.specs.Written.{compact_text}
use Rattle.jwt_text.specs.Base64url.{Spells, spelling, octets_of}
use Rattle.jwt_text.specs.Members.{text_at}
use Rattle.jwt_text.specs.Rows.{NoRow, ◌⇒◌}
use Rattle.jwt_mac.specs.declared.key_view.EcCurve.{EcCurve}
use Rattle.jwt_mac.specs.declared.key_view.EcCurve.TheVariants.{P256, P384, P521}
use Rattle.jwt_mac.specs.declared.key_view.EdCurve.{EdCurve}
use Rattle.jwt_mac.specs.declared.key_view.EdCurve.TheVariants.{Ed25519, Ed448}
use Rattle.jwt_keys.specs.Kinds.{key_type_named, key_type_at, curve_named, ed_curve_named, kind_named, kind_at, required, encoded}
use Rattle.jwt_keys.specs.SkipTable.{octets_at, is_misspelled, shape_rows, octet_rows_of}
use Rattle.jwt_keys.specs.Thumbprints.{member_text, oct_text, rsa_text, ec_text, okp_text, thumbprint_text}
use Rattle.jwt_keys.specs.Laws.{picked, ThumbprintsAreOfJson}
use Rattle.jwt_keys.specs.declared.kind.KeyKind.{KeyKind}
use Rattle.jwt_keys.specs.declared.kind.KeyKind.TheVariants as kind
use Rattle.jwt_keys.specs.declared.kind.KeyType.{KeyType}
use Rattle.jwt_keys.specs.declared.kind.KeyType.TheVariants.{Oct, Rsa, Ec, Okp}
use Rattle.jwt_keys.specs.declared.skip.SkipReason.TheVariants.{NotObject}

-- a text stands in JSON as it is
abbrev Plain : List ℕ → Type 0
Plain t = compact_text (string t) ≡ 34 ∷ (t ++ 34 ∷ [])

-- ---- names that are known

named : (t name : List ℕ) → bytes_eq t name ≡ true → t ≡ name
named t name e = (bytes_eq-Decides t name).0 e

module _ (t : List ℕ) where
  curve_by : (a b c : Bool) → bytes_eq t (codes "P-256") ≡ a → bytes_eq t (codes "P-384") ≡ b → bytes_eq t (codes "P-521") ≡ c → (curve : EcCurve)
      → cond a (Some P256) (cond b (Some P384) (cond c (Some P521) None)) ≡ Some curve → Plain t
  unfolding escape_byte
  curve_by true b c p q r curve e = subst Plain (sym (named t (codes "P-256") p)) refl
  curve_by false true c p q r curve e = subst Plain (sym (named t (codes "P-384") q)) refl
  curve_by false false true p q r curve e = subst Plain (sym (named t (codes "P-521") r)) refl
  curve_by false false false p q r curve e = absurd cc

  ed_curve_by : (a b : Bool) → bytes_eq t (codes "Ed25519") ≡ a → bytes_eq t (codes "Ed448") ≡ b → (curve : EdCurve) → cond a (Some Ed25519) (cond b (Some Ed448) None) ≡ Some curve → Plain t
  unfolding escape_byte
  ed_curve_by true b p q curve e = subst Plain (sym (named t (codes "Ed25519") p)) refl
  ed_curve_by false true p q curve e = subst Plain (sym (named t (codes "Ed448") q)) refl
  ed_curve_by false false p q curve e = absurd cc

  -- the name of a key type
  abbrev IsNamed : KeyType → Type 0
  IsNamed Oct = t ≡ codes "oct"
  IsNamed Rsa = t ≡ codes "RSA"
  IsNamed Ec = t ≡ codes "EC"
  IsNamed Okp = t ≡ codes "OKP"

  type_by : (a b c d : Bool) → bytes_eq t (codes "oct") ≡ a → bytes_eq t (codes "RSA") ≡ b → bytes_eq t (codes "EC") ≡ c → bytes_eq t (codes "OKP") ≡ d → (key_type : KeyType)
      → cond a (Some Oct) (cond b (Some Rsa) (cond c (Some Ec) (cond d (Some Okp) None))) ≡ Some key_type → IsNamed key_type
  type_by true b c d p q r s key_type e = let same : Oct ≡ key_type = cc in subst IsNamed same (named t (codes "oct") p)
  type_by false true c d p q r s key_type e = let same : Rsa ≡ key_type = cc in subst IsNamed same (named t (codes "RSA") q)
  type_by false false true d p q r s key_type e = let same : Ec ≡ key_type = cc in subst IsNamed same (named t (codes "EC") r)
  type_by false false false true p q r s key_type e = let same : Okp ≡ key_type = cc in subst IsNamed same (named t (codes "OKP") s)
  type_by false false false false p q r s key_type e = absurd cc

curve_plain : (o : Option (List ℕ)) (curve : EcCurve) → option_and_then curve_named o ≡ Some curve → Plain (unwrap_or o [])
curve_plain None curve e = absurd cc
curve_plain (Some t) curve e = curve_by t (bytes_eq t (codes "P-256")) (bytes_eq t (codes "P-384")) (bytes_eq t (codes "P-521")) refl refl refl curve e

ed_curve_plain : (o : Option (List ℕ)) (curve : EdCurve) → option_and_then ed_curve_named o ≡ Some curve → Plain (unwrap_or o [])
ed_curve_plain None curve e = absurd cc
ed_curve_plain (Some t) curve e = ed_curve_by t (bytes_eq t (codes "Ed25519")) (bytes_eq t (codes "Ed448")) refl refl curve e

type_named : (o : Option (List ℕ)) (key_type : KeyType) → option_and_then key_type_named o ≡ Some key_type → IsNamed (unwrap_or o []) key_type
type_named None key_type e = absurd cc
type_named (Some t) key_type e =
    type_by t (bytes_eq t (codes "oct")) (bytes_eq t (codes "RSA")) (bytes_eq t (codes "EC")) (bytes_eq t (codes "OKP")) refl refl refl refl key_type e

ec_curve : (o : Option EcCurve) (curve : EcCurve) → option_map kind.Ec o ≡ Some (kind.Ec curve) → o ≡ Some curve
ec_curve None curve e = absurd cc
ec_curve (Some c) curve e = cc

okp_curve : (o : Option EdCurve) (curve : EdCurve) → option_map kind.Okp o ≡ Some (kind.Okp curve) → o ≡ Some curve
okp_curve None curve e = absurd cc
okp_curve (Some c) curve e = cc

no_ec : (o : Option EcCurve) (k : KeyKind) → ((c : EcCurve) → kind.Ec c ≢ k) → option_map kind.Ec o ≢ Some k
no_ec None k never e = absurd cc
no_ec (Some c) k never e = never c cc

no_okp : (o : Option EdCurve) (k : KeyKind) → ((c : EdCurve) → kind.Okp c ≢ k) → option_map kind.Okp o ≢ Some k
no_okp None k never e = absurd cc
no_okp (Some c) k never e = never c cc

-- ---- the members that spell octets

there : (b : Bool) → not b ≡ false → b ≡ true
there true e = refl
there false e = absurd cc

spelled_row : (k : Option KeyKind) (kind : KeyKind) (ms : Members) → k ≡ Some kind → NoRow ((false ⇒ NotObject) ∷ (shape_rows ms ++ octet_rows_of k ms)) → is_misspelled kind ms ≡ false
spelled_row None kind ms e none = absurd cc
spelled_row (Some k) kind ms e none = let same : k ≡ kind = cc in subst (λ k. is_misspelled k ms ≡ false) same (none 7 _ refl)

-- ---- the objects

text_in : (t rest : List ℕ) → Plain t → compact_text (string t) ++ rest ≡ 34 ∷ (t ++ 34 ∷ rest)
text_in t rest p = ap (λ (u : List ℕ). u ++ rest) p ∙ ap (λ (u : List ℕ). 34 ∷ u) (append_assoc t (34 ∷ []) rest)

oct_json : (k t : List ℕ) → Plain k → t ≡ codes "oct" → oct_text k ≡ compact_text (object (put (codes "kty") (string t) (put (codes "k") (string k) no_members)))
unfolding escape_byte
oct_json k t p e =
    subst (λ t. oct_text k ≡ compact_text (object (put (codes "kty") (string t) (put (codes "k") (string k) no_members)))) (sym e)
    (ap (λ (u : List ℕ). codes "{\"k\":" ++ u) (sym (text_in k (codes ",\"kty\":\"oct\"}") p)))

rsa_json : (e n t : List ℕ) → Plain e → Plain n → t ≡ codes "RSA"
    → rsa_text e n ≡ compact_text (object (put (codes "kty") (string t) (put (codes "n") (string n) (put (codes "e") (string e) no_members))))
unfolding escape_byte
rsa_json e n t p q is =
    subst (λ t. rsa_text e n ≡ compact_text (object (put (codes "kty") (string t) (put (codes "n") (string n) (put (codes "e") (string e) no_members))))) (sym is)
    (ap (λ (u : List ℕ). codes "{\"e\":" ++ u) (sym (
    text_in e (codes ",\"kty\":\"RSA\",\"n\":" ++ (compact_text (string n) ++ codes "}")) p
    ∙ ap (λ (u : List ℕ). 34 ∷ (e ++ 34 ∷ (codes ",\"kty\":\"RSA\",\"n\":" ++ u))) (text_in n (codes "}") q))))

ec_json : (crv x y t : List ℕ) → Plain crv → Plain x → Plain y → t ≡ codes "EC"
    → ec_text crv x y ≡ compact_text (object (put (codes "kty") (string t) (put (codes "crv") (string crv) (put (codes "x") (string x) (put (codes "y") (string y) no_members)))))
unfolding escape_byte
ec_json crv x y t p q r is =
    subst (λ t. ec_text crv x y ≡ compact_text (object (put (codes "kty") (string t) (put (codes "crv") (string crv) (put (codes "x") (string x) (put (codes "y") (string y) no_members)))))) (sym is)
    (ap (λ (u : List ℕ). codes "{\"crv\":" ++ u) (sym (
    text_in crv (codes ",\"kty\":\"EC\",\"x\":" ++ (compact_text (string x) ++ (codes ",\"y\":" ++ (compact_text (string y) ++ codes "}")))) p
    ∙ ap (λ (u : List ℕ). 34 ∷ (crv ++ 34 ∷ (codes ",\"kty\":\"EC\",\"x\":" ++ u))) (
    text_in x (codes ",\"y\":" ++ (compact_text (string y) ++ codes "}")) q
    ∙ ap (λ (u : List ℕ). 34 ∷ (x ++ 34 ∷ (codes ",\"y\":" ++ u))) (text_in y (codes "}") r)))))

okp_json : (crv x t : List ℕ) → Plain crv → Plain x → t ≡ codes "OKP"
    → okp_text crv x ≡ compact_text (object (put (codes "kty") (string t) (put (codes "crv") (string crv) (put (codes "x") (string x) no_members))))
unfolding escape_byte
okp_json crv x t p q is =
    subst (λ t. okp_text crv x ≡ compact_text (object (put (codes "kty") (string t) (put (codes "crv") (string crv) (put (codes "x") (string x) no_members))))) (sym is)
    (ap (λ (u : List ℕ). codes "{\"crv\":" ++ u) (sym (
    text_in crv (codes ",\"kty\":\"OKP\",\"x\":" ++ (compact_text (string x) ++ codes "}")) p
    ∙ ap (λ (u : List ℕ). 34 ∷ (crv ++ 34 ∷ (codes ",\"kty\":\"OKP\",\"x\":" ++ u))) (text_in x (codes "}") q))))

module _ (spells : (text octets : List ℕ) → (octets_of text ≡ Some octets) ↔ Spells text octets) (plain : (octets : List ℕ) → Plain (spelling octets)) where
  spelled_plain : (o : Option (List ℕ)) → is_some (option_and_then octets_of o) ≡ true → Plain (unwrap_or o [])
  spelled_plain None e = absurd cc
  spelled_plain (Some t) e = go (octets_of t) refl e
    where
      go : (v : Option (List ℕ)) → octets_of t ≡ v → is_some v ≡ true → Plain t
      go None is e = absurd cc
      go (Some v) is e = subst Plain (sym ((spells t v).0 is).1) (plain v)

  member_plain : (name : List ℕ) (ms : Members) → is_some (octets_at name ms) ≡ true → Plain (member_text name ms)
  member_plain name ms e = spelled_plain (text_at name ms) e

  text_is : (ms : Members) (key_type : KeyType) (kind : KeyKind) → option_and_then key_type_named (text_at (codes "kty") ms) ≡ Some key_type → kind_named key_type ms ≡ Some kind
      → list_all (λ name. is_some (octets_at name ms)) (encoded kind) ≡ true
      → thumbprint_text kind ms ≡ compact_text (object (picked (codes "kty" ∷ required key_type) ms))
  unfolding thumbprint_text
  text_is ms Oct kind.Oct t k all =
      oct_json (member_text (codes "k") ms) (member_text (codes "kty") ms) (member_plain (codes "k") ms (and_parts _ _ all).0) (type_named (text_at (codes "kty") ms) Oct t)
  text_is ms Oct kind.Rsa t k all = absurd cc
  text_is ms Oct (kind.Ec curve) t k all = absurd cc
  text_is ms Oct (kind.Okp curve) t k all = absurd cc
  text_is ms Rsa kind.Oct t k all = absurd cc
  text_is ms Rsa kind.Rsa t k all =
      let rest = (and_parts _ _ all).1 in
      rsa_json (member_text (codes "e") ms) (member_text (codes "n") ms) (member_text (codes "kty") ms)
      (member_plain (codes "e") ms (and_parts _ _ rest).0) (member_plain (codes "n") ms (and_parts _ _ all).0) (type_named (text_at (codes "kty") ms) Rsa t)
  text_is ms Rsa (kind.Ec curve) t k all = absurd cc
  text_is ms Rsa (kind.Okp curve) t k all = absurd cc
  text_is ms Ec kind.Oct t k all = absurd (no_ec (option_and_then curve_named (text_at (codes "crv") ms)) kind.Oct (λ c e. cc) k)
  text_is ms Ec kind.Rsa t k all = absurd (no_ec (option_and_then curve_named (text_at (codes "crv") ms)) kind.Rsa (λ c e. cc) k)
  text_is ms Ec (kind.Ec curve) t k all =
      let rest = (and_parts _ _ all).1 in
      ec_json (member_text (codes "crv") ms) (member_text (codes "x") ms) (member_text (codes "y") ms) (member_text (codes "kty") ms)
      (curve_plain (text_at (codes "crv") ms) curve (ec_curve (option_and_then curve_named (text_at (codes "crv") ms)) curve k))
      (member_plain (codes "x") ms (and_parts _ _ all).0) (member_plain (codes "y") ms (and_parts _ _ rest).0) (type_named (text_at (codes "kty") ms) Ec t)
  text_is ms Ec (kind.Okp curve) t k all = absurd (no_ec (option_and_then curve_named (text_at (codes "crv") ms)) (kind.Okp curve) (λ c e. cc) k)
  text_is ms Okp kind.Oct t k all = absurd (no_okp (option_and_then ed_curve_named (text_at (codes "crv") ms)) kind.Oct (λ c e. cc) k)
  text_is ms Okp kind.Rsa t k all = absurd (no_okp (option_and_then ed_curve_named (text_at (codes "crv") ms)) kind.Rsa (λ c e. cc) k)
  text_is ms Okp (kind.Ec curve) t k all = absurd (no_okp (option_and_then ed_curve_named (text_at (codes "crv") ms)) (kind.Ec curve) (λ c e. cc) k)
  text_is ms Okp (kind.Okp curve) t k all =
      okp_json (member_text (codes "crv") ms) (member_text (codes "x") ms) (member_text (codes "kty") ms)
      (ed_curve_plain (text_at (codes "crv") ms) curve (okp_curve (option_and_then ed_curve_named (text_at (codes "crv") ms)) curve k))
      (member_plain (codes "x") ms (and_parts _ _ all).0) (type_named (text_at (codes "kty") ms) Okp t)

  by_type : (ms : Members) (key_type : KeyType) (kind : KeyKind) (o : Option KeyType) → key_type_at ms ≡ o → o ≡ Some key_type → option_and_then (λ key_type. kind_named key_type ms) o ≡ Some kind
      → kind_named key_type ms ≡ Some kind
  by_type ms key_type kind None is e k = absurd cc
  by_type ms key_type kind (Some found) is e k = let same : found ≡ key_type = cc in subst (λ f. kind_named f ms ≡ Some kind) same k

  pub thumbprints : ThumbprintsAreOfJson
  thumbprints ms key_type kind t k none =
      text_is ms key_type kind t (by_type ms key_type kind (key_type_at ms) refl t k) (there _ (spelled_row (kind_at ms) kind ms k none))
