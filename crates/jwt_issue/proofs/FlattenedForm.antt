-- What is issued in flattened JSON form is the compact text of an object, and a signed token.
use Rattle.std.proofs.Common.{◌≡◌, ℕ, suc, List, [], ◌∷◌, ◌++◌, Option, codes, IsUtf8, inr, refl, sym, ap, subst, ◌∙◌, arith, rules, append_assoc}
use Rattle.std.proofs.lemmas.Str.{IsUtf8-append}
use Rattle.json.specs.Print.{escape, escape_byte, quoted, ArePrintable}
use Rattle.json.proofs.Printed.Utf8.{IsUtf8-are_ascii}
use Rattle.serde_json.specs.Data.{Members, no_members, member, string, object}
use Rattle.serde_json.specs.Written.{compact_text}
use Rattle.jwt_text.specs.Base64url.{AreOctets, spelling}
use Rattle.jwt_text.specs.ObjectText.{colons, IsObjectText}
use Rattle.jwt_jws.specs.SignedToken.{IsSignedToken}
use Rattle.jwt_jws.specs.declared.fault.Form.TheVariants.{Flattened}
use Rattle.jwt_jws.specs.Forms.{Spelled}
use Rattle.jwt_issue.specs.Issued.{PairParts, header, signer_of, flattened_token, text_members}
use Rattle.jwt_issue.specs.Signed.{tag_over, flattened_signed}
use Rattle.jwt_issue.proofs.Characters.{escape_spelling, utf8_spelling}
use Rattle.jwt_issue.proofs.HeaderTexts.{header_text, reads, one}
use Rattle.jwt_issue.proofs.Spelled.{IsPlain, texts_of, plain_texts, utf8_texts, quoted_plain, members_plain, members_utf8, signature_is}

abbrev flat : List ℕ → Spelled → Members
flat p w = member (codes "payload") (string p) (member (codes "protected") (string w.protected) (member (codes "signature") (string w.signature) no_members))

-- ---- its text

plain_text : (p : List ℕ) (w : Spelled) → escape p ≡ p → IsPlain w
    → codes "{\"payload\":\"" ++ p ++ codes "\"," ++ text_members w.protected w.signature ≡ compact_text (object (flat p w))
unfolding escape_byte
plain_text p w payload plain =
    let rest = text_members w.protected w.signature in
    let grouped = ap (λ (t : List ℕ). 34 ∷ t) (append_assoc p (codes "\",") rest) in
    ap (λ (t : List ℕ). codes "{\"payload\":" ++ t) (grouped ∙ sym (quoted_plain p (44 ∷ rest) payload) ∙ ap (λ (t : List ℕ). quoted p ++ 44 ∷ t) (members_plain w plain))

flattened_text : (typ : Option (List ℕ)) (claims : List ℕ) (pair : PairParts)
    → flattened_token (spelling claims) (signer_of typ pair) ≡ compact_text (object (flat (spelling claims) (texts_of typ claims pair)))
flattened_text typ claims pair = plain_text (spelling claims) (texts_of typ claims pair) (escape_spelling claims) (plain_texts typ claims pair)

flattened_utf8 : (typ : Option (List ℕ)) (claims : List ℕ) (pair : PairParts) → IsUtf8 (flattened_token (spelling claims) (signer_of typ pair))
flattened_utf8 typ claims pair =
    let p = spelling claims in
    let w = texts_of typ claims pair in
    let utf8 = utf8_texts typ claims pair in
    let first = IsUtf8-append (codes "{\"payload\":\"") p (IsUtf8-are_ascii _ refl) (utf8_spelling claims) in
    let between = IsUtf8-append (codes "{\"payload\":\"" ++ p) (codes "\",") first (IsUtf8-are_ascii _ refl) in
    IsUtf8-append (codes "{\"payload\":\"" ++ p ++ codes "\",") (text_members w.protected w.signature) between (members_utf8 w.protected w.signature utf8.0 utf8.1)

module _ (law : (text rest : List ℕ) → colons (quoted text ++ rest) ≡ colons rest) where
  flat_is : (p : List ℕ) (w : Spelled) → IsUtf8 (compact_text (object (flat p w))) → IsObjectText (compact_text (object (flat p w))) (flat p w)
  unfolding ArePrintable
  flat_is p w utf8 = (
    reads (object (flat p w)) (search rules) refl (omega arith) utf8,
    one law (codes "payload") p _ ∙ ap suc (one law (codes "protected") w.protected _ ∙ ap suc (one law (codes "signature") w.signature (125 ∷ []))),
  )

  flattened_is : (typ : Option (List ℕ)) (claims : List ℕ) (pair : PairParts)
      → IsObjectText (flattened_token (spelling claims) (signer_of typ pair)) (flat (spelling claims) (texts_of typ claims pair))
  flattened_is typ claims pair =
      let same = flattened_text typ claims pair in
      let members = flat (spelling claims) (texts_of typ claims pair) in
      subst (λ (t : List ℕ). IsObjectText t members) (sym same) (flat_is (spelling claims) (texts_of typ claims pair) (subst IsUtf8 same (flattened_utf8 typ claims pair)))

  -- ---- the signed token

  pub flattened_is_signed : (most : ℕ) (typ : Option (List ℕ)) (claims : List ℕ) (pair : PairParts)
      → IsUtf8 (compact_text (object (header typ pair))) → AreOctets claims → AreOctets (tag_over typ claims pair)
      → IsSignedToken most (flattened_token (spelling claims) (signer_of typ pair)) (flattened_signed typ claims pair)
  flattened_is_signed most typ claims pair utf8 payload tag =
      let w = texts_of typ claims pair in
      record {
        texts = (
          record { form = Flattened; payload = spelling claims; signatures = w ∷ [] },
          inr (record {
            opens = refl;
            members = flat (spelling claims) w;
            text = flattened_is typ claims pair;
            plain = refl;
            shape = inr (record { form = refl; alone = refl; payload = refl; signature = (w, refl, record { signature = refl; protected = inr refl; header = refl }) });
          }),
          refl,
          refl,
          (signature_is Flattened typ claims pair utf8 (header_text law typ pair utf8) tag, tt),
        );
        payload = (payload, refl);
      }
