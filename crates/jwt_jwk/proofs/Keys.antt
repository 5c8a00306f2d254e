-- The two laws: what is read is the encoding of a key, and the encoding of a key is read as that key.
use Rattle.std.proofs.Common.{◌≡◌, ℕ, ◌*◌, ◌<◌, true, cond, eqb, List, [], ◌∷◌, ◌++◌, length, take, drop, Result, Ok, Err, refl, sym, ap, subst, ◌∙◌, arith, inl, inr, ◌⊎◌, lit<}
use Rattle.std.specs.Prelude.{IfOk, IsOkAnd, ◌&&◌}
use Rattle.std.specs.Str.{bytes_eq}
use Rattle.std.proofs.lemmas.Bool.{eqb-true, eq-eqb, and_parts, and_from}
use Rattle.std.proofs.lemmas.List.{take_at, drop_at, take-append-drop, length-append, length-take, length-drop}
use Rattle.std.proofs.lemmas.Slice.Eq.{bytes_eq-Decides}
use Rattle.jwt_mac.specs.Verifying.{KeyOctets, OctKey, RsaKey, EcKey, OkpKey, key_octets}
use Rattle.jwt_mac.specs.declared.key_view.KeyView.{KeyView}
use Rattle.jwt_mac.specs.declared.key_view.EcCurve.{EcCurve}
use Rattle.jwt_mac.specs.declared.key_view.EcCurve.TheVariants.{P256, P384, P521}
use Rattle.jwt_mac.specs.declared.key_view.EdCurve.{EdCurve}
use Rattle.jwt_mac.specs.declared.key_view.EdCurve.TheVariants.{Ed25519, Ed448}
use Rattle.jwt_jwk.specs.declared.der.refusal.Refusal.{Refusal}
use Rattle.jwt_jwk.specs.declared.der.refusal.Refusal.TheVariants.{Point}
use Rattle.jwt_jwk.specs.declared.der.kind.Kind.{Kind}
use Rattle.jwt_jwk.specs.declared.der.kind.Kind.TheVariants.{Rsa, Ec, Okp}
use Rattle.jwt_jwk.specs.der.Der.{AreOctets, IsPublicKey, HasParts, IsRsaText, is_fit, length_octets, algorithm, subject_key, spki, sequence, bit_string, coordinate_size, point_size}
use Rattle.jwt_jwk.specs.der.Reading.{◌>>=◌, AgreesWith, algorithm_fault, algorithm_and_key, kind_of, read_key, rsa_of, ec_of, okp_of, point_fault, decoded_key, fitting, why_unfit, read, read_rsa}
use Rattle.jwt_jwk.proofs.Steps.{bind_ok, chosen, under_ok, ok_is, refused_is_no_value}
use Rattle.jwt_jwk.proofs.Elements.{parts_take, parts_again}
use Rattle.jwt_jwk.proofs.Numbers.{rsa_takes, rsa_again, length-rsa}

-- ---- kinds

abbrev algorithm_for : Kind → List ℕ
algorithm_for Rsa = algorithm (RsaKey [] [])
algorithm_for (Ec curve) = algorithm (EcKey curve [] [])
algorithm_for (Okp curve) = algorithm (OkpKey curve [])

named : (octets text : List ℕ) (here kind : Kind) (r : Result Kind Refusal) → cond (bytes_eq octets text) (Ok here) r ≡ Ok kind → ((octets ≡ text) × (here ≡ kind)) ⊎ (r ≡ Ok kind)
named octets text here kind r e =
    elim (chosen (bytes_eq octets text) (Ok here) r (Ok kind) e) [
      | inl (t, s) ↦ inl ((bytes_eq-Decides octets text).0 t, ok_is here kind s)
      | inr (t, s) ↦ inr s
    ]

abbrev after_5 : List ℕ → Result Kind Refusal
after_5 o = cond (bytes_eq o (algorithm_for (Okp Ed448))) (Ok (Okp Ed448)) (Err (algorithm_fault o))

abbrev after_4 : List ℕ → Result Kind Refusal
after_4 o = cond (bytes_eq o (algorithm_for (Okp Ed25519))) (Ok (Okp Ed25519)) (after_5 o)

abbrev after_3 : List ℕ → Result Kind Refusal
after_3 o = cond (bytes_eq o (algorithm_for (Ec P521))) (Ok (Ec P521)) (after_4 o)

abbrev after_2 : List ℕ → Result Kind Refusal
after_2 o = cond (bytes_eq o (algorithm_for (Ec P384))) (Ok (Ec P384)) (after_3 o)

abbrev after_1 : List ℕ → Result Kind Refusal
after_1 o = cond (bytes_eq o (algorithm_for (Ec P256))) (Ok (Ec P256)) (after_2 o)

none_left : (fault : Refusal) (kind : Kind) → Err fault ≡ Ok kind → ⊥
none_left fault kind e = cc

kind_takes : (octets : List ℕ) (kind : Kind) → kind_of octets ≡ Ok kind → octets ≡ algorithm_for kind
unfolding kind_of
kind_takes o kind e =
    let P : Kind → Type 0 = λ k. o ≡ algorithm_for k in
    elim (named o (algorithm_for Rsa) Rsa kind (after_1 o) e) [
      | inl (t, s) ↦ subst P s t
      | inr e1 ↦ elim (named o (algorithm_for (Ec P256)) (Ec P256) kind (after_2 o) e1) [
        | inl (t, s) ↦ subst P s t
        | inr e2 ↦ elim (named o (algorithm_for (Ec P384)) (Ec P384) kind (after_3 o) e2) [
          | inl (t, s) ↦ subst P s t
          | inr e3 ↦ elim (named o (algorithm_for (Ec P521)) (Ec P521) kind (after_4 o) e3) [
            | inl (t, s) ↦ subst P s t
            | inr e4 ↦ elim (named o (algorithm_for (Okp Ed25519)) (Okp Ed25519) kind (after_5 o) e4) [
              | inl (t, s) ↦ subst P s t
              | inr e5 ↦ elim (named o (algorithm_for (Okp Ed448)) (Okp Ed448) kind (Err (algorithm_fault o)) e5) [
                | inl (t, s) ↦ subst P s t
                | inr e6 ↦ absurd (none_left (algorithm_fault o) kind e6)
              ]
            ]
          ]
        ]
      ]
    ]

kind_again : (kind : Kind) → kind_of (algorithm_for kind) ≡ Ok kind
unfolding kind_of length_octets
kind_again Rsa = refl
kind_again (Ec P256) = refl
kind_again (Ec P384) = refl
kind_again (Ec P521) = refl
kind_again (Okp Ed25519) = refl
kind_again (Okp Ed448) = refl

-- ---- points

ec_takes : (curve : EcCurve) (bits : List ℕ) (p : List ℕ × List ℕ) → ec_of curve bits ≡ Ok p → (bits ≡ 4 ∷ (p.0 ++ p.1)) × ((length p.0 ≡ coordinate_size curve) × (length p.1 ≡ coordinate_size curve))
unfolding ec_of
ec_takes curve [] p e = absurd cc
ec_takes curve (first ∷ rest) p e =
    let size : ℕ = coordinate_size curve in
    let u = under_ok (eqb first 4 && eqb (length rest) (2 * coordinate_size curve)) (point_fault first) (Ok (take (coordinate_size curve) rest, drop (coordinate_size curve) rest)) p e in
    let tests = and_parts (eqb first 4) (eqb (length rest) (2 * coordinate_size curve)) u.0 in
    let four : first ≡ 4 = eqb-true _ _ tests.0 in
    let long : length rest ≡ 2 * coordinate_size curve = eqb-true _ _ tests.1 in
    let whole : first ∷ rest ≡ 4 ∷ (take (coordinate_size curve) rest ++ drop (coordinate_size curve) rest) = ap (λ (a : ℕ). a ∷ rest) four ∙ ap (λ (r : List ℕ). 4 ∷ r) (sym (take-append-drop (coordinate_size curve) rest)) in
    let x_long : length (take (coordinate_size curve) rest) ≡ coordinate_size curve = omega (arith, length-take (coordinate_size curve) rest) in
    let y_long : length (drop (coordinate_size curve) rest) ≡ coordinate_size curve = omega (arith, length-drop (coordinate_size curve) rest) in
    subst (λ (y : List ℕ × List ℕ). (first ∷ rest ≡ 4 ∷ (y.0 ++ y.1)) × ((length y.0 ≡ coordinate_size curve) × (length y.1 ≡ coordinate_size curve))) (ok_is (take (coordinate_size curve) rest, drop (coordinate_size curve) rest) p u.1) (whole, (x_long, y_long))

ec_again : (curve : EcCurve) (x y : List ℕ) → length x ≡ coordinate_size curve → length y ≡ coordinate_size curve → ec_of curve (4 ∷ (x ++ y)) ≡ Ok (x, y)
unfolding ec_of
ec_again curve x y x_long y_long =
    let long : length (x ++ y) ≡ 2 * coordinate_size curve = omega (arith, length-append x y) in
    let test : (eqb 4 4 && eqb (length (x ++ y)) (2 * coordinate_size curve)) ≡ true = and_from _ _ refl (eq-eqb _ _ long) in
    rw (test, take_at x y (coordinate_size curve) x_long, drop_at x y (coordinate_size curve) x_long) refl

okp_takes : (curve : EdCurve) (bits x : List ℕ) → okp_of curve bits ≡ Ok x → (bits ≡ x) × (length x ≡ point_size curve)
unfolding okp_of
okp_takes curve bits x e =
    let u = under_ok (eqb (length bits) (point_size curve)) Point (Ok bits) x e in
    let same : bits ≡ x = ok_is bits x u.1 in
    (same, subst (λ (y : List ℕ). length y ≡ point_size curve) same (eqb-true _ _ u.0))

okp_again : (curve : EdCurve) (x : List ℕ) → length x ≡ point_size curve → okp_of curve x ≡ Ok x
unfolding okp_of
okp_again curve x long = rw (eq-eqb (length x) (point_size curve) long) refl

-- ---- keys

record IsKeyIn (kind : Kind) (bits : List ℕ) (k : KeyOctets) : Type 0 where
  is : HasParts k
  text : bits ≡ subject_key k
  named_so : algorithm_for kind ≡ algorithm k

key_takes : (kind : Kind) (bits : List ℕ) (k : KeyOctets) → AreOctets bits → read_key kind bits ≡ Ok k → IsKeyIn kind bits k
unfolding read_key
key_takes Rsa bits k fits e =
    let b = bind_ok (rsa_of bits) (λ p. Ok (RsaKey p.0 p.1)) k e in
    let t = rsa_takes bits b.0 fits b.1 in
    let here : IsKeyIn Rsa bits (RsaKey b.0.0 b.0.1) = record { is = t.1; text = t.0; named_so = refl } in
    subst (λ (y : KeyOctets). IsKeyIn Rsa bits y) (ok_is (RsaKey b.0.0 b.0.1) k b.2) here
key_takes (Ec curve) bits k fits e =
    let b = bind_ok (ec_of curve bits) (λ p. Ok (EcKey curve p.0 p.1)) k e in
    let t = ec_takes curve bits b.0 b.1 in
    let here : IsKeyIn (Ec curve) bits (EcKey curve b.0.0 b.0.1) = record { is = t.1; text = t.0; named_so = refl } in
    subst (λ (y : KeyOctets). IsKeyIn (Ec curve) bits y) (ok_is (EcKey curve b.0.0 b.0.1) k b.2) here
key_takes (Okp curve) bits k fits e =
    let b = bind_ok (okp_of curve bits) (λ x. Ok (OkpKey curve x)) k e in
    let t = okp_takes curve bits b.0 b.1 in
    let here : IsKeyIn (Okp curve) bits (OkpKey curve b.0) = record { is = t.1; text = t.0; named_so = refl } in
    subst (λ (y : KeyOctets). IsKeyIn (Okp curve) bits y) (ok_is (OkpKey curve b.0) k b.2) here

record IsReadAs (k : KeyOctets) : Type 0 where
  kind : Kind
  algorithm_is : kind_of (algorithm k) ≡ Ok kind
  key_is : read_key kind (subject_key k) ≡ Ok k
  algorithm_short : length (algorithm k) < 1000
  key_short : length (subject_key k) < 60000

short_algorithm : (kind : Kind) → length (algorithm_for kind) < 1000
unfolding length_octets
short_algorithm Rsa = lit< tt
short_algorithm (Ec P256) = lit< tt
short_algorithm (Ec P384) = lit< tt
short_algorithm (Ec P521) = lit< tt
short_algorithm (Okp Ed25519) = lit< tt
short_algorithm (Okp Ed448) = lit< tt

few_coordinates : (curve : EcCurve) → coordinate_size curve < 100
few_coordinates P256 = lit< tt
few_coordinates P384 = lit< tt
few_coordinates P521 = lit< tt

few_octets : (curve : EdCurve) → point_size curve < 100
few_octets Ed25519 = lit< tt
few_octets Ed448 = lit< tt

key_again : (k : KeyOctets) → HasParts k → IsReadAs k
unfolding read_key
key_again (OctKey k) is = absurd is
key_again (RsaKey n e) is = record {
  kind = Rsa;
  algorithm_is = kind_again Rsa;
  key_is = rw (rsa_again n e is.0 is.1) refl;
  algorithm_short = short_algorithm Rsa;
  key_short = length-rsa n e is.0 is.1;
}
key_again (EcKey curve x y) is = record {
  kind = Ec curve;
  algorithm_is = kind_again (Ec curve);
  key_is = rw (ec_again curve x y is.0 is.1) refl;
  algorithm_short = short_algorithm (Ec curve);
  key_short = omega (arith, length-append x y, is.0, is.1, few_coordinates curve);
}
key_again (OkpKey curve x) is = record {
  kind = Okp curve;
  algorithm_is = kind_again (Okp curve);
  key_is = rw (okp_again curve x is) refl;
  algorithm_short = short_algorithm (Okp curve);
  key_short = omega (arith, is, few_octets curve);
}

-- ---- all of it

encoded_takes : (bytes : List ℕ) (k : KeyOctets) → AreOctets bytes → decoded_key bytes ≡ Ok k → HasParts k × (bytes ≡ spki k)
unfolding decoded_key
encoded_takes bytes k fits e =
    let a = bind_ok (algorithm_and_key bytes) (λ parts. kind_of parts.0 >>= λ kind. read_key kind parts.1) k e in
    let b = bind_ok (kind_of a.0.0) (λ kind. read_key kind a.0.1) k a.2 in
    let t = parts_take bytes a.0 fits a.1 in
    let same : a.0.0 ≡ algorithm_for b.0 = kind_takes a.0.0 b.0 b.1 in
    let key = key_takes b.0 a.0.1 k t.1 b.2 in
    (key.is, t.0 ∙ ap (λ (q : List ℕ). sequence (sequence q ++ bit_string a.0.1)) (same ∙ key.named_so) ∙ ap (λ (q : List ℕ). sequence (sequence (algorithm k) ++ bit_string q)) key.text)

encoded_again : (k : KeyOctets) → HasParts k → decoded_key (spki k) ≡ Ok k
unfolding decoded_key
encoded_again k is =
    let r = key_again k is in
    rw (parts_again (algorithm k) (subject_key k) r.algorithm_short r.key_short, r.algorithm_is, r.key_is) refl

fit_is : (key k : KeyOctets) → fitting key ≡ Ok k → (is_fit k ≡ true) × (key ≡ k)
unfolding fitting
fit_is key k e =
    let u = under_ok (is_fit key) (why_unfit key) (Ok key) k e in
    let same : key ≡ k = ok_is key k u.1 in
    (subst (λ (y : KeyOctets). is_fit y ≡ true) same u.0, same)

fits_again : (k : KeyOctets) → is_fit k ≡ true → fitting k ≡ Ok k
unfolding fitting
fits_again k fit = rw fit refl

pub read_takes : (bytes : List ℕ) (k : KeyOctets) → AreOctets bytes → read bytes ≡ Ok k → IsPublicKey k × (bytes ≡ spki k)
unfolding read
read_takes bytes k fits e =
    let a = bind_ok (decoded_key bytes) fitting k e in
    let f = fit_is a.0 k a.2 in
    let t = encoded_takes bytes k fits (a.1 ∙ ap (λ (y : KeyOctets). Ok y) f.1) in
    (record { parts = t.0; fit = f.0 }, t.1)

pub read_again : (k : KeyOctets) → IsPublicKey k → read (spki k) ≡ Ok k
unfolding read
read_again k is = rw (encoded_again k is.parts, fits_again k is.fit) refl

-- ---- RSAPublicKey alone

rsa_read_takes : (bytes : List ℕ) (k : KeyOctets) → AreOctets bytes → read_rsa bytes ≡ Ok k → IsPublicKey k × IsRsaText k bytes
unfolding read_rsa
rsa_read_takes bytes k fits e =
    let a = bind_ok (rsa_of bytes) (λ p. fitting (RsaKey p.0 p.1)) k e in
    let f = fit_is (RsaKey a.0.0 a.0.1) k a.2 in
    let t = rsa_takes bytes a.0 fits a.1 in
    let fit : is_fit (RsaKey a.0.0 a.0.1) ≡ true = subst (λ (y : KeyOctets). is_fit y ≡ true) (sym f.1) f.0 in
    let here : IsPublicKey (RsaKey a.0.0 a.0.1) × IsRsaText (RsaKey a.0.0 a.0.1) bytes = (record { parts = t.1; fit = fit }, t.0) in
    subst (λ (y : KeyOctets). IsPublicKey y × IsRsaText y bytes) f.1 here

rsa_read_again : (k : KeyOctets) (bytes : List ℕ) → IsPublicKey k → IsRsaText k bytes → read_rsa bytes ≡ Ok k
unfolding read_rsa
rsa_read_again (RsaKey n e) bytes is text = rw (text, rsa_again n e is.parts.0 is.parts.1, fits_again (RsaKey n e) is.fit) refl
rsa_read_again (OctKey k) bytes is text = absurd text
rsa_read_again (EcKey curve x y) bytes is text = absurd text
rsa_read_again (OkpKey curve x) bytes is text = absurd text

-- ---- what the functions ensure

pub key_found : (bytes : List ℕ) (r : Result KeyView Refusal) → AreOctets bytes → AgreesWith key_octets r (read bytes) → IfOk r (λ k. IsPublicKey (key_octets k) × (bytes ≡ spki (key_octets k)))
key_found bytes (Ok v) fits given = read_takes bytes (key_octets v) fits given
key_found bytes (Err d) fits given = tt

pub key_only : (bytes : List ℕ) (r : Result KeyView Refusal) → AgreesWith key_octets r (read bytes) → (k : KeyOctets) → IsPublicKey k → bytes ≡ spki k → IsOkAnd r (λ v. key_octets v ≡ k)
key_only bytes (Ok v) given k is e = ok_is (key_octets v) k (sym given ∙ ap read e ∙ read_again k is)
key_only bytes (Err d) given k is e =
    absurd (refused_is_no_value d k (sym given ∙ ap read e ∙ read_again k is))

pub rsa_found : (bytes : List ℕ) (r : Result KeyView Refusal) → AreOctets bytes → AgreesWith key_octets r (read_rsa bytes) → IfOk r (λ k. IsPublicKey (key_octets k) × IsRsaText (key_octets k) bytes)
rsa_found bytes (Ok v) fits given = rsa_read_takes bytes (key_octets v) fits given
rsa_found bytes (Err d) fits given = tt

pub rsa_only : (bytes : List ℕ) (r : Result KeyView Refusal) → AgreesWith key_octets r (read_rsa bytes) → (k : KeyOctets) → IsPublicKey k → IsRsaText k bytes → IsOkAnd r (λ v. key_octets v ≡ k)
rsa_only bytes (Ok v) given k is text = ok_is (key_octets v) k (sym given ∙ rsa_read_again k bytes is text)
rsa_only bytes (Err d) given k is text =
    absurd (refused_is_no_value d k (sym given ∙ rsa_read_again k bytes is text))
