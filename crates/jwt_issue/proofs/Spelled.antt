-- The signatures that are issued, and what is issued in compact form.
use Rattle.std.proofs.Common.{◌||◌, ◌≡◌, Bool, ℕ, ◌<◌, ◌==◌, true, false, not, List, [], ◌∷◌, ◌++◌, Option, None, codes, IsUtf8, length, inl, refl, sym, ap, ◌∙◌, arith, append_assoc}
use Rattle.std.specs.Prelude.{All}
use Rattle.std.specs.List.{list_all}
use Rattle.std.proofs.lemmas.Bool.{and_parts, not-true}
use Rattle.std.proofs.lemmas.List.Sums.{AllPass-from_list_all}
use Rattle.std.proofs.lemmas.Str.{IsUtf8-append}
use Rattle.json.specs.Print.{escape, escape_byte, quoted}
use Rattle.json.proofs.Printed.Utf8.{IsUtf8-are_ascii}
use Rattle.serde_json.specs.Data.{Members, object}
use Rattle.serde_json.specs.Written.{compact_text}
use Rattle.jwt_text.specs.Base64url.{AreOctets, Spells, spelling}
use Rattle.jwt_text.specs.ObjectText.{IsObjectText}
use Rattle.jwt_jws.specs.Forms.{Spelled, is_period, opens_object, compact_token as spelled_compact}
use Rattle.jwt_jws.specs.SignedToken.{IsProtected, IsSignature, IsSignedToken}
use Rattle.jwt_jws.specs.declared.fault.Form.{Form}
use Rattle.jwt_jws.specs.declared.fault.Form.TheVariants.{Compact, General, Flattened}
use Rattle.jwt_issue.specs.Issued.{PairParts, header, header_spelling, signer_of, in_compact_form, signature_text, text_members}
use Rattle.jwt_issue.specs.Signed.{tag_over, signature_over, compact_signed}
use Rattle.jwt_issue.proofs.Lengths.{length_spelling}
use Rattle.jwt_issue.proofs.Characters.{spelling_passes, escape_spelling, utf8_spelling, utf8_octets}

-- no octet of the text is a period
abbrev HasNoPeriod : List ℕ → Type 0
HasNoPeriod t = All (λ c. is_period c ≡ false) t

abbrev IsProtectedText : List ℕ → Members → Type 0
IsProtectedText text p = (octets : List ℕ) × Spells text octets × IsObjectText octets p

-- ---- a signature

protected_in : (form : Form) (text : List ℕ) (ms : Members) → 0 < length text → IsProtectedText text ms → IsProtected form text ms
protected_in Compact text ms some is = is
protected_in General [] ms some is = absurd (omega arith)
protected_in General (c ∷ cs) ms some is = is
protected_in Flattened [] ms some is = absurd (omega arith)
protected_in Flattened (c ∷ cs) ms some is = is

-- the texts of a pair's signature
abbrev pub texts_of : Option (List ℕ) → List ℕ → PairParts → Spelled
texts_of typ claims pair = record { protected = header_spelling typ pair; header = None; signature = signature_text (spelling claims) (signer_of typ pair) }

-- JSON escapes no character of them, and they are UTF-8
abbrev pub IsPlain : Spelled → Type 0
IsPlain w = (escape w.protected ≡ w.protected) × (escape w.signature ≡ w.signature)

pub plain_texts : (typ : Option (List ℕ)) (claims : List ℕ) (pair : PairParts) → IsPlain (texts_of typ claims pair)
unfolding header_spelling signature_text
plain_texts typ claims pair = (escape_spelling _, escape_spelling _)

pub utf8_texts : (typ : Option (List ℕ)) (claims : List ℕ) (pair : PairParts) → IsUtf8 (texts_of typ claims pair).protected × IsUtf8 (texts_of typ claims pair).signature
unfolding header_spelling signature_text
utf8_texts typ claims pair = (utf8_spelling _, utf8_spelling _)

pub members_utf8 : (h g : List ℕ) → IsUtf8 h → IsUtf8 g → IsUtf8 (text_members h g)
members_utf8 h g p q =
    let first = IsUtf8-append (codes "\"protected\":\"") h (IsUtf8-are_ascii _ refl) p in
    let between = IsUtf8-append (codes "\"protected\":\"" ++ h) (codes "\",\"signature\":\"") first (IsUtf8-are_ascii _ refl) in
    let second = IsUtf8-append (codes "\"protected\":\"" ++ h ++ codes "\",\"signature\":\"") g between q in
    IsUtf8-append (codes "\"protected\":\"" ++ h ++ codes "\",\"signature\":\"" ++ g) (codes "\"}") second (IsUtf8-are_ascii _ refl)

pub quoted_plain : (s rest : List ℕ) → escape s ≡ s → quoted s ++ rest ≡ 34 ∷ (s ++ 34 ∷ rest)
quoted_plain s rest plain = ap (λ (t : List ℕ). 34 ∷ t) (append_assoc (escape s) (34 ∷ []) rest ∙ ap (λ (t : List ℕ). t ++ 34 ∷ rest) plain)

-- so the members of a signature are written as JSON writes them
pub members_plain : (w : Spelled) → IsPlain w
    → text_members w.protected w.signature
    ≡ quoted (codes "protected") ++ 58 ∷ (quoted w.protected ++ 44 ∷ (quoted (codes "signature") ++ 58 ∷ (quoted w.signature ++ 125 ∷ [])))
unfolding escape_byte
members_plain w plain =
    let h = w.protected in
    let g = w.signature in
    let between = codes "\",\"signature\":\"" in
    let grouped = append_assoc (h ++ between) g (codes "\"}") ∙ append_assoc h between (g ++ codes "\"}") in
    let last = ap (λ (t : List ℕ). h ++ 34 ∷ 44 ∷ (codes "\"signature\":" ++ t)) (sym (quoted_plain g (125 ∷ []) plain.1)) in
    let first = sym (quoted_plain h (44 ∷ (codes "\"signature\":" ++ (quoted g ++ 125 ∷ []))) plain.0) in
    ap (λ (t : List ℕ). codes "\"protected\":" ++ t) (ap (λ (t : List ℕ). 34 ∷ t) (grouped ∙ last) ∙ first)

some_text : (typ : Option (List ℕ)) (pair : PairParts) → 0 < length (header_spelling typ pair)
unfolding header_spelling
some_text typ pair = omega (arith, length_spelling (compact_text (object (header typ pair))))

protected_spells : (typ : Option (List ℕ)) (pair : PairParts)
    → IsUtf8 (compact_text (object (header typ pair))) → IsObjectText (compact_text (object (header typ pair))) (header typ pair)
    → IsProtectedText (header_spelling typ pair) (header typ pair)
unfolding header_spelling
protected_spells typ pair utf8 text = (compact_text (object (header typ pair)), (utf8_octets _ utf8, refl), text)

-- they stand for it in each form
pub signature_is : (form : Form) (typ : Option (List ℕ)) (claims : List ℕ) (pair : PairParts)
    → IsUtf8 (compact_text (object (header typ pair))) → IsObjectText (compact_text (object (header typ pair))) (header typ pair)
    → AreOctets (tag_over typ claims pair)
    → IsSignature form (texts_of typ claims pair) (signature_over typ claims pair)
unfolding signature_text
signature_is form typ claims pair utf8 text tag = record {
  protected_text = refl;
  protected = protected_in form (header_spelling typ pair) (header typ pair) (some_text typ pair) (protected_spells typ pair utf8 text);
  unprotected = refl;
  disjoint = refl;
  octets = (tag, refl);
}

-- ---- compact form

no_period : (v : List ℕ) → HasNoPeriod (spelling v)
no_period v = λ k d low. not-true _ (AllPass-from_list_all (λ c. not (is_period c)) (spelling v) (spelling_passes (λ c. not (is_period c)) refl v) k d low)

-- no JSON white space
abbrev is_no_space : ℕ → Bool
is_no_space c = not (c == 9 || c == 10 || c == 13 || c == 32)

opens_none : (t rest : List ℕ) → list_all is_no_space t ≡ true → list_all (λ c. not (c == 123)) t ≡ true → 0 < length t → opens_object (t ++ rest) ≡ false
opens_none [] rest no_space no_brace some = absurd (omega arith)
opens_none (c ∷ t) rest no_space no_brace some =
    let spaceless = (and_parts (is_no_space c) (list_all is_no_space t) no_space).0 in
    let braceless = (and_parts (not (c == 123)) (list_all (λ c. not (c == 123)) t) no_brace).0 in
    rw spaceless (not-true (c == 123) braceless)

opens_no_object : (typ : Option (List ℕ)) (pair : PairParts) (rest : List ℕ) → opens_object (header_spelling typ pair ++ rest) ≡ false
unfolding header_spelling
opens_no_object typ pair rest =
    let octets = compact_text (object (header typ pair)) in
    opens_none (spelling octets) rest (spelling_passes is_no_space refl octets) (spelling_passes (λ c. not (c == 123)) refl octets) (some_text typ pair)

regroup : (h p g : List ℕ) → h ++ 46 ∷ [] ++ p ++ 46 ∷ [] ++ g ≡ h ++ 46 ∷ (p ++ 46 ∷ g)
regroup h p g = simp append_assoc

three_texts : (typ : Option (List ℕ)) (claims : List ℕ) (pair : PairParts)
    → HasNoPeriod (header_spelling typ pair) × HasNoPeriod (spelling claims) × HasNoPeriod (signature_text (spelling claims) (signer_of typ pair))
unfolding header_spelling signature_text
three_texts typ claims pair = (no_period _, no_period claims, no_period _)

-- what is issued in compact form is a signed token with these claims
pub compact_is_signed : (most : ℕ) (typ : Option (List ℕ)) (claims : List ℕ) (pair : PairParts)
    → IsUtf8 (compact_text (object (header typ pair))) → IsObjectText (compact_text (object (header typ pair))) (header typ pair)
    → AreOctets claims → AreOctets (tag_over typ claims pair)
    → IsSignedToken most (in_compact_form (spelling claims) (signer_of typ pair)) (compact_signed typ claims pair)
compact_is_signed most typ claims pair utf8 text payload tag =
    let h = header_spelling typ pair in
    let p = spelling claims in
    let g = signature_text p (signer_of typ pair) in
    let apart = three_texts typ claims pair in
    rw (regroup h p g) (record {
      texts = (
        spelled_compact h p g,
        inl (h, p, g, record { joined = refl; protected = apart.0; payload = apart.1; signature = apart.2; no_object = opens_no_object typ pair (46 ∷ (p ++ 46 ∷ g)) }, refl),
        refl,
        refl,
        (signature_is Compact typ claims pair utf8 text tag, tt),
      );
      payload = (payload, refl);
    })
