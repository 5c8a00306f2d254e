-- What is issued in general JSON form is the compact text of an object, and a signed token.
use Rattle.std.proofs.Common.{◌≡◌, ℕ, suc, ◌+◌, ◌<◌, ◌≤◌, Bool, true, false, List, [], ◌∷◌, ◌++◌, length, map, Option, Some, codes, IsUtf8, inl, inr, refl, sym, ap, ap₂, subst, ◌∙◌, arith, append_assoc}
use Rattle.std.specs.List.{All, AllZip, join_with_byte}
use Rattle.std.proofs.lemmas.List.{length-map}
use Rattle.std.proofs.lemmas.Str.{IsUtf8-append, IsUtf8-nil}
use Rattle.json.specs.Print.{escape, escape_byte, quoted}
use Rattle.json.specs.Tree as tree
use Rattle.json.proofs.Printed.Trees.{ArePrintable-json_tokens}
use Rattle.json.proofs.Printed.Utf8.{IsUtf8-are_ascii}
use Rattle.serde_json.specs.Data.{Data, Items, Members, no_members, member, string, array, object}
use Rattle.serde_json.specs.Find.{as_object}
use Rattle.serde_json.specs.Read.{of_json, of_items}
use Rattle.serde_json.specs.View.{items_of}
use Rattle.serde_json.specs.Written.{compact_text, items_text, outline, items_outline}
use Rattle.jwt_text.specs.Base64url.{AreOctets, spelling}
use Rattle.jwt_text.specs.Members.{elements}
use Rattle.jwt_text.specs.ObjectText.{colons, items_entries, IsObjectText}
use Rattle.jwt_jws.specs.Forms.{Spelled}
use Rattle.jwt_jws.specs.SignedToken.{IsSpelledIn, IsSignature, IsSignedToken}
use Rattle.jwt_jws.specs.declared.fault.Form.TheVariants.{General}
use Rattle.jwt_issue.specs.Issued.{PairParts, header, signer_of, signature_element, general_token, text_members}
use Rattle.jwt_issue.specs.Signed.{tag_over, signature_over, general_signed}
use Rattle.jwt_issue.proofs.Characters.{escape_spelling, utf8_spelling}
use Rattle.jwt_issue.proofs.HeaderTexts.{header_text, reads, one}
use Rattle.jwt_issue.proofs.Spelled.{IsPlain, texts_of, plain_texts, utf8_texts, quoted_plain, members_plain, members_utf8, signature_is}

-- the element is an object that has the texts of a signature
abbrev IsElement : Data → Spelled → Type 0
IsElement d w = (m : Members) × (as_object d ≡ Some m) × IsSpelledIn m w

-- ---- the value

-- one element of `signatures`
abbrev one_signature : Spelled → Data
one_signature w = object (member (codes "protected") (string w.protected) (member (codes "signature") (string w.signature) no_members))

abbrev data_of : Option (List ℕ) → List ℕ → PairParts → Data
data_of typ claims pair = one_signature (texts_of typ claims pair)

abbrev listed : Option (List ℕ) → List ℕ → List PairParts → Items
listed typ claims pairs = items_of (map (data_of typ claims) pairs)

abbrev whole : Option (List ℕ) → List ℕ → List PairParts → Members
whole typ claims pairs = member (codes "payload") (string (spelling claims)) (member (codes "signatures") (array (listed typ claims pairs)) no_members)

-- ---- its text

abbrev texts : Option (List ℕ) → List ℕ → List PairParts → List (List ℕ)
texts typ claims pairs = map (signature_element (spelling claims)) (map (signer_of typ) pairs)

plain_element : (w : Spelled) → IsPlain w → codes "{" ++ text_members w.protected w.signature ≡ compact_text (one_signature w)
plain_element w plain = ap (λ (t : List ℕ). 123 ∷ t) (members_plain w plain)

element_text : (typ : Option (List ℕ)) (claims : List ℕ) (pair : PairParts) → signature_element (spelling claims) (signer_of typ pair) ≡ compact_text (data_of typ claims pair)
element_text typ claims pair = plain_element (texts_of typ claims pair) (plain_texts typ claims pair)

listed_text : (typ : Option (List ℕ)) (claims : List ℕ) (pair : PairParts) (pairs : List PairParts)
    → join_with_byte 44 (texts typ claims (pair ∷ pairs)) ++ 93 ∷ [] ≡ items_text false (listed typ claims (pair ∷ pairs))
listed_text typ claims pair [] = ap (λ (t : List ℕ). t ++ 93 ∷ []) (element_text typ claims pair)
listed_text typ claims pair (next ∷ pairs) =
    append_assoc (signature_element (spelling claims) (signer_of typ pair)) (44 ∷ join_with_byte 44 (texts typ claims (next ∷ pairs))) (93 ∷ [])
    ∙ ap₂ (λ (s t : List ℕ). s ++ 44 ∷ t) (element_text typ claims pair) (listed_text typ claims next pairs)

around : (p list read : List ℕ) → escape p ≡ p → list ++ 93 ∷ [] ≡ read
    → codes "{\"payload\":\"" ++ p ++ codes "\",\"signatures\":[" ++ list ++ codes "]}"
    ≡ 123 ∷ (quoted (codes "payload") ++ 58 ∷ (quoted p ++ 44 ∷ (quoted (codes "signatures") ++ 58 ∷ (91 ∷ (read ++ 125 ∷ [])))))
unfolding escape_byte
around p list read plain same =
    let between = codes "\",\"signatures\":[" in
    let grouped = append_assoc (p ++ between) list (codes "]}") ∙ append_assoc p between (list ++ codes "]}") in
    let closed = sym (append_assoc list (93 ∷ []) (125 ∷ [])) ∙ ap (λ (t : List ℕ). t ++ 125 ∷ []) same in
    let last = ap (λ (t : List ℕ). p ++ (between ++ t)) closed in
    let first = sym (quoted_plain p (44 ∷ (codes "\"signatures\":[" ++ (read ++ 125 ∷ []))) plain) in
    ap (λ (t : List ℕ). codes "{\"payload\":" ++ t) (ap (λ (t : List ℕ). 34 ∷ t) (grouped ∙ last) ∙ first)

general_text : (typ : Option (List ℕ)) (claims : List ℕ) (pair : PairParts) (pairs : List PairParts)
    → general_token (spelling claims) (map (signer_of typ) (pair ∷ pairs)) ≡ compact_text (object (whole typ claims (pair ∷ pairs)))
general_text typ claims pair pairs = around (spelling claims) _ _ (escape_spelling claims) (listed_text typ claims pair pairs)

-- ---- which is UTF-8

element_utf8 : (typ : Option (List ℕ)) (claims : List ℕ) (pair : PairParts) → IsUtf8 (signature_element (spelling claims) (signer_of typ pair))
element_utf8 typ claims pair =
    let utf8 = utf8_texts typ claims pair in
    IsUtf8-append (codes "{") _ (IsUtf8-are_ascii _ refl) (members_utf8 _ _ utf8.0 utf8.1)

joined_utf8 : (typ : Option (List ℕ)) (claims : List ℕ) (pairs : List PairParts) → IsUtf8 (join_with_byte 44 (texts typ claims pairs))
joined_utf8 typ claims [] = IsUtf8-nil
joined_utf8 typ claims (pair ∷ []) = element_utf8 typ claims pair
joined_utf8 typ claims (pair ∷ next ∷ pairs) =
    IsUtf8-append _ _ (element_utf8 typ claims pair) (IsUtf8-append (44 ∷ []) _ (IsUtf8-are_ascii _ refl) (joined_utf8 typ claims (next ∷ pairs)))

general_utf8 : (typ : Option (List ℕ)) (claims : List ℕ) (pairs : List PairParts) → IsUtf8 (general_token (spelling claims) (map (signer_of typ) pairs))
general_utf8 typ claims pairs =
    let p = spelling claims in
    let list = join_with_byte 44 (texts typ claims pairs) in
    let first = IsUtf8-append (codes "{\"payload\":\"") p (IsUtf8-are_ascii _ refl) (utf8_spelling claims) in
    let between = IsUtf8-append (codes "{\"payload\":\"" ++ p) (codes "\",\"signatures\":[") first (IsUtf8-are_ascii _ refl) in
    let second = IsUtf8-append (codes "{\"payload\":\"" ++ p ++ codes "\",\"signatures\":[") list between (joined_utf8 typ claims pairs) in
    IsUtf8-append (codes "{\"payload\":\"" ++ p ++ codes "\",\"signatures\":[" ++ list) (codes "]}") second (IsUtf8-are_ascii _ refl)

-- ---- and is read back

numbers : (typ : Option (List ℕ)) (claims : List ℕ) (pairs : List PairParts) → tree.ItemsHaveNumbers (items_outline (listed typ claims pairs))
numbers typ claims [] = tt
numbers typ claims (pair ∷ pairs) = ((tt, (tt, tt)), numbers typ claims pairs)

items_read : (typ : Option (List ℕ)) (claims : List ℕ) (pairs : List PairParts) → of_items (items_outline (listed typ claims pairs)) ≡ Some (listed typ claims pairs)
items_read typ claims [] = refl
items_read typ claims (pair ∷ pairs) = rw (items_read typ claims pairs)

whole_read : (typ : Option (List ℕ)) (claims : List ℕ) (pairs : List PairParts) → of_json (outline (object (whole typ claims pairs))) ≡ Some (object (whole typ claims pairs))
whole_read typ claims pairs = rw (items_read typ claims pairs)

shallow : (typ : Option (List ℕ)) (claims : List ℕ) (pairs : List PairParts) → tree.items_depth (items_outline (listed typ claims pairs)) ≤ 1
shallow typ claims [] = omega arith
shallow typ claims (pair ∷ pairs) = let rest = shallow typ claims pairs in omega (arith, rest)

-- ---- with as many colons as entries

regroup : (k h l g rest : List ℕ) → (123 ∷ (k ++ 58 ∷ (h ++ 44 ∷ (l ++ 58 ∷ (g ++ 125 ∷ []))))) ++ rest ≡ 123 ∷ (k ++ 58 ∷ (h ++ 44 ∷ (l ++ 58 ∷ (g ++ 125 ∷ rest))))
regroup k h l g rest = simp append_assoc

module _ (law : (text rest : List ℕ) → colons (quoted text ++ rest) ≡ colons rest) where
  element_colons : (w : Spelled) (rest : List ℕ) → colons (compact_text (one_signature w) ++ rest) ≡ suc (suc (colons rest))
  element_colons w rest =
      ap colons (regroup (quoted (codes "protected")) (quoted w.protected) (quoted (codes "signature")) (quoted w.signature) rest)
      ∙ one law (codes "protected") w.protected _ ∙ ap suc (one law (codes "signature") w.signature (125 ∷ rest))

  one_more : (typ : Option (List ℕ)) (claims : List ℕ) (pair : PairParts) (pairs : List PairParts) (rest : List ℕ)
      → colons (items_text true (listed typ claims pairs) ++ rest) ≡ items_entries (listed typ claims pairs) + colons rest
      → suc (suc (colons (items_text true (listed typ claims pairs) ++ rest))) ≡ items_entries (listed typ claims (pair ∷ pairs)) + colons rest
  one_more typ claims pair pairs rest later = omega (arith, later)

  listed_colons : (typ : Option (List ℕ)) (claims : List ℕ) (later : Bool) (pairs : List PairParts) (rest : List ℕ)
      → colons (items_text later (listed typ claims pairs) ++ rest) ≡ items_entries (listed typ claims pairs) + colons rest
  listed_colons typ claims true [] rest = omega arith
  listed_colons typ claims false [] rest = omega arith
  listed_colons typ claims true (pair ∷ pairs) rest =
      let w = texts_of typ claims pair in
      let more = items_text true (listed typ claims pairs) in
      ap colons (append_assoc (compact_text (one_signature w)) more rest) ∙ element_colons w (more ++ rest) ∙ one_more typ claims pair pairs rest (listed_colons typ claims true pairs rest)
  listed_colons typ claims false (pair ∷ pairs) rest =
      let w = texts_of typ claims pair in
      let more = items_text true (listed typ claims pairs) in
      ap colons (append_assoc (compact_text (one_signature w)) more rest) ∙ element_colons w (more ++ rest) ∙ one_more typ claims pair pairs rest (listed_colons typ claims true pairs rest)

  whole_is : (typ : Option (List ℕ)) (claims : List ℕ) (pairs : List PairParts)
      → IsUtf8 (compact_text (object (whole typ claims pairs))) → IsObjectText (compact_text (object (whole typ claims pairs))) (whole typ claims pairs)
  whole_is typ claims pairs utf8 =
      let d = object (whole typ claims pairs) in
      let few = shallow typ claims pairs in
      let rest = listed_colons typ claims false pairs (125 ∷ []) in (
        reads d (ArePrintable-json_tokens (outline d) (tt, (numbers typ claims pairs, tt))) (whole_read typ claims pairs) (omega (arith, few)) utf8,
        one law (codes "payload") (spelling claims) _ ∙ ap suc (law (codes "signatures") _ ∙ ap suc rest) ∙ omega arith,
      )

  general_is : (typ : Option (List ℕ)) (claims : List ℕ) (pair : PairParts) (pairs : List PairParts)
      → IsObjectText (general_token (spelling claims) (map (signer_of typ) (pair ∷ pairs))) (whole typ claims (pair ∷ pairs))
  general_is typ claims pair pairs =
      let same = general_text typ claims pair pairs in
      subst (λ (t : List ℕ). IsObjectText t (whole typ claims (pair ∷ pairs))) (sym same)
      (whole_is typ claims (pair ∷ pairs) (subst IsUtf8 same (general_utf8 typ claims (pair ∷ pairs))))

  -- ---- the signed token

  signatures_are : (typ : Option (List ℕ)) (claims : List ℕ) (pairs : List PairParts)
      → All (λ pair. IsUtf8 (compact_text (object (header typ pair)))) pairs → All (λ pair. AreOctets (tag_over typ claims pair)) pairs
      → AllZip (IsSignature General) (map (texts_of typ claims) pairs) (map (signature_over typ claims) pairs)
  signatures_are typ claims [] utf8 tags = tt
  signatures_are typ claims (pair ∷ pairs) utf8 tags = (
    signature_is General typ claims pair (utf8 0 pair (omega arith)) (header_text law typ pair (utf8 0 pair (omega arith))) (tags 0 pair (omega arith)),
    signatures_are typ claims pairs (λ k d low. utf8 (suc k) d (omega arith)) (λ k d low. tags (suc k) d (omega arith)),
  )

  elements_are : (typ : Option (List ℕ)) (claims : List ℕ) (pairs : List PairParts) → AllZip IsElement (map (data_of typ claims) pairs) (map (texts_of typ claims) pairs)
  elements_are typ claims [] = tt
  elements_are typ claims (pair ∷ pairs) = ((_, refl, record { signature = refl; protected = inr refl; header = refl }), elements_are typ claims pairs)

  same_elements : (ds : List Data) → elements (items_of ds) ≡ ds
  same_elements [] = refl
  same_elements (d ∷ ds) = ap (λ (es : List Data). d ∷ es) (same_elements ds)

  some_pairs : (most : ℕ) (typ : Option (List ℕ)) (claims : List ℕ) (pair : PairParts) (pairs : List PairParts)
      → length (pair ∷ pairs) ≤ most
      → All (λ p. IsUtf8 (compact_text (object (header typ p)))) (pair ∷ pairs)
      → AreOctets claims → All (λ p. AreOctets (tag_over typ claims p)) (pair ∷ pairs)
      → IsSignedToken most (general_token (spelling claims) (map (signer_of typ) (pair ∷ pairs))) (general_signed typ claims (pair ∷ pairs))
  some_pairs most typ claims pair pairs few utf8 payload tags =
      let ws = map (texts_of typ claims) (pair ∷ pairs) in
      let size = length-map (pair ∷ pairs) (texts_of typ claims) in
      let ds = map (data_of typ claims) (pair ∷ pairs) in
      record {
        texts = (
          record { form = General; payload = spelling claims; signatures = ws },
          inr (record {
            opens = refl;
            members = whole typ claims (pair ∷ pairs);
            text = general_is typ claims pair pairs;
            plain = refl;
            shape = inl (record {
              form = refl;
              one_at_the_top = refl;
              payload = refl;
              listed = (ds, ap Some (same_elements ds), elements_are typ claims (pair ∷ pairs));
              some = omega arith;
              few = omega (arith, size);
            });
          }),
          refl,
          refl,
          signatures_are typ claims (pair ∷ pairs) utf8 tags,
        );
        payload = (payload, refl);
      }

  pub general_is_signed : (most : ℕ) (typ : Option (List ℕ)) (claims : List ℕ) (pairs : List PairParts)
      → 0 < length pairs → length pairs ≤ most
      → All (λ p. IsUtf8 (compact_text (object (header typ p)))) pairs
      → AreOctets claims → All (λ p. AreOctets (tag_over typ claims p)) pairs
      → IsSignedToken most (general_token (spelling claims) (map (signer_of typ) pairs)) (general_signed typ claims pairs)
  general_is_signed most typ claims [] some few utf8 payload tags = absurd (omega arith)
  general_is_signed most typ claims (pair ∷ pairs) some few utf8 payload tags = some_pairs most typ claims pair pairs few utf8 payload tags
