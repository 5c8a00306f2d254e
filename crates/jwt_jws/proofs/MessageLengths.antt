-- A signing input is no longer than the token that it is of.
use Rattle.std.proofs.Common.{◌≡◌, ◌≢◌, ⊎_elim, ℕ, suc, ◌+◌, ◌<◌, ◌≤◌, List, [], ◌∷◌, ◌++◌, length, Option, Some, None, option_and_then, option_map, refl, sym, ap, subst, arith, length-append}
use Rattle.std.specs.Prelude.{All, codes}
use Rattle.std.specs.List.{AllZip}
use Rattle.std.proofs.lemmas.List.Elements.{All-nil, All-cons, All-head, All-tail}
use Rattle.serde_json.specs.Data.{Data, null, boolean, number, string, array, object, Items, no_items, item, Members}
use Rattle.serde_json.specs.Find.{get_member, as_str, as_array, as_object}
use Rattle.jwt_mac.specs.Verifying.{signing_input}
use Rattle.jwt_text.specs.Members.{elements, text_at}
use Rattle.jwt_text.specs.ObjectText.{IsObjectText, reading}
use Rattle.jwt_text.specs.TextLengths.{text_octets, items_text_octets, members_text_octets}
use Rattle.jwt_jws.specs.Token.{SignatureParts, Token, message_of}
use Rattle.jwt_jws.specs.Forms.{Spelled, SpelledToken, compact_token}
use Rattle.jwt_jws.specs.CompactForm.{IsCompact}
use Rattle.jwt_jws.specs.SignedToken.{IsSpelledIn, IsGeneral, IsFlattened, IsJson, IsSpelledToken, IsSignature, MessagesFit, SignaturesAreFew}
use Rattle.jwt_jws.specs.declared.fault.Form.{Form}
use Rattle.jwt_jws.proofs.Shapes.{IsElement}

-- ---- the laws of the lengths of texts

abbrev pub TextLaw : Type 0
TextLaw = (text : List ℕ) (d : Data) → reading text ≡ Some d → text_octets d ≤ length text

abbrev pub MemberLaw : Type 0
MemberLaw = (a : List ℕ) (ms : Members) (d : Data) → get_member a ms ≡ Some d → length a + text_octets d ≤ members_text_octets ms

abbrev pub MembersLaw : Type 0
MembersLaw = (a b : List ℕ) (ms : Members) (d e : Data) → a ≢ b → get_member a ms ≡ Some d → get_member b ms ≡ Some e
    → length a + text_octets d + (length b + text_octets e) ≤ members_text_octets ms

-- ---- a member of a kind

is_string : (o : Option Data) (s : List ℕ) → option_and_then as_str o ≡ Some s → (d : Data) × (o ≡ Some d) × (text_octets d ≡ length s)
is_string None s e = absurd cc
is_string (Some null) s e = absurd cc
is_string (Some (boolean b)) s e = absurd cc
is_string (Some (number n)) s e = absurd cc
is_string (Some (string t)) s e = let same : t ≡ s = cc in (string t, refl, ap length same)
is_string (Some (array ds)) s e = absurd cc
is_string (Some (object ms)) s e = absurd cc

is_list : (o : Option Data) (ds : List Data) → option_map elements (option_and_then as_array o) ≡ Some ds → (is : Items) × (o ≡ Some (array is)) × (elements is ≡ ds)
is_list None ds e = absurd cc
is_list (Some null) ds e = absurd cc
is_list (Some (boolean b)) ds e = absurd cc
is_list (Some (number n)) ds e = absurd cc
is_list (Some (string t)) ds e = absurd cc
is_list (Some (array is)) ds e = (is, refl, cc)
is_list (Some (object ms)) ds e = absurd cc

is_object : (d : Data) (ms : Members) → as_object d ≡ Some ms → text_octets d ≡ members_text_octets ms
is_object null ms e = absurd cc
is_object (boolean b) ms e = absurd cc
is_object (number n) ms e = absurd cc
is_object (string t) ms e = absurd cc
is_object (array ds) ms e = absurd cc
is_object (object ns) ms e = let same : ns ≡ ms = cc in ap members_text_octets same

-- ---- the texts of a token

abbrev Short : ℕ → Spelled → Type 0
Short n w = length w.protected ≤ n

module _ (texts : TextLaw) (member : MemberLaw) (members : MembersLaw) where
  protected_fits : (m : Members) (w : Spelled) → IsSpelledIn m w → length w.protected ≤ members_text_octets m
  protected_fits m w h =
      ⊎_elim (λ none. omega (arith, ap length none.1))
      (λ some. let d = is_string (get_member (codes "protected") m) w.protected some in omega (arith, member (codes "protected") m d.0 d.1, d.2)) h.protected

  elements_fit : (ds : Items) (ws : List Spelled) (n : ℕ) → AllZip IsElement (elements ds) ws → items_text_octets ds ≤ n → All (Short n) ws
  elements_fit no_items [] n h le = All-nil (Short n)
  elements_fit no_items (w ∷ ws) n h le = absurd h
  elements_fit (item d ds) [] n h le = absurd h
  elements_fit (item d ds) (w ∷ ws) n h le =
      All-cons (Short n) w ws (omega (arith, is_object d h.0.0 h.0.1, protected_fits h.0.0 w h.0.2)) (elements_fit ds ws n h.1 (omega arith))

  -- with the payload's text and the period between the two
  abbrev Fits : List ℕ → List ℕ → Spelled → Type 0
  Fits z payload w = length w.protected + 1 + length payload ≤ length z

  narrower : (n : ℕ) (z payload : List ℕ) (ws : List Spelled) → n + 1 + length payload ≤ length z → All (Short n) ws → All (Fits z payload) ws
  narrower n z payload ws le h = λ i w low. omega (arith, h i w low)

  only : (z payload : List ℕ) (w : Spelled) → Fits z payload w → All (Fits z payload) (w ∷ [])
  only z payload w h = All-cons (Fits z payload) w [] h (All-nil (Fits z payload))

  compact_fits : (z h p g : List ℕ) → IsCompact z h p g → All (Fits z p) (compact_token h p g).signatures
  compact_fits z h p g is = only z p _ (omega (arith, ap length is.joined, length-append h (46 ∷ (p ++ 46 ∷ g)), length-append p (46 ∷ g)))

  general_fits : (most : ℕ) (z : List ℕ) (m : Members) (t : SpelledToken) → IsObjectText z m → IsGeneral most m t → All (Fits z t.payload) t.signatures
  general_fits most z m t text is =
      let p = is_string (get_member (codes "payload") m) t.payload is.payload in
      let l = is_list (get_member (codes "signatures") m) is.listed.0 is.listed.1 in
      let zipped : AllZip IsElement (elements l.0) t.signatures = subst (λ ds. AllZip IsElement ds t.signatures) (sym l.2) is.listed.2 in
      narrower (items_text_octets l.0) z t.payload t.signatures
      (omega (arith, texts z (object m) text.0, members (codes "payload") (codes "signatures") m p.0 (array l.0) (λ e. absurd cc) p.1 l.1, p.2))
      (elements_fit l.0 t.signatures (items_text_octets l.0) zipped (omega arith))

  alone_fits : (z : List ℕ) (m : Members) (payload : List ℕ) (w : Spelled) → IsObjectText z m → text_at (codes "payload") m ≡ Some payload → IsSpelledIn m w → Fits z payload w
  alone_fits z m payload w text is h =
      let p = is_string (get_member (codes "payload") m) payload is in
      ⊎_elim
      (λ none. omega (arith, ap length none.1, texts z (object m) text.0, member (codes "payload") m p.0 p.1, p.2))
      (λ some.
      let d = is_string (get_member (codes "protected") m) w.protected some in
      omega (arith, texts z (object m) text.0, members (codes "payload") (codes "protected") m p.0 d.0 (λ e. absurd cc) p.1 d.1, p.2, d.2)) h.protected

  flattened_fits : (z : List ℕ) (m : Members) (t : SpelledToken) → IsObjectText z m → IsFlattened m t → All (Fits z t.payload) t.signatures
  flattened_fits z m t text is =
      subst (All (Fits z t.payload)) (sym is.signature.1) (only z t.payload is.signature.0 (alone_fits z m t.payload is.signature.0 text is.payload is.signature.2))

  spelled_fits : (most : ℕ) (z : List ℕ) (t : SpelledToken) → IsSpelledToken most z t → All (Fits z t.payload) t.signatures
  spelled_fits most z t is =
      ⊎_elim
      (λ c. subst (λ u. All (Fits z u.payload) u.signatures) (sym c.4) (compact_fits z c.0 c.1 c.2 c.3))
      (λ (j : IsJson most z t). ⊎_elim (general_fits most z j.members t j.text) (flattened_fits z j.members t j.text) j.shape) is

  abbrev Bounded : List ℕ → Token → SignatureParts → Type 0
  Bounded z t s = length (signing_input (message_of t s)) ≤ length z

  joined_length : (h p : List ℕ) → length (h ++ 46 ∷ [] ++ p) ≡ length h + suc (length p)
  joined_length h p = omega (arith, length-append (h ++ 46 ∷ []) p, length-append h (46 ∷ []))

  input_length : (t : Token) (s : SignatureParts) → length (signing_input (message_of t s)) ≡ length s.protected_text + suc (length t.payload_text)
  input_length t s = joined_length s.protected_text t.payload_text

  signed_fits : (form : Form) (z : List ℕ) (t : Token) (payload : List ℕ) → t.payload_text ≡ payload → (ws : List Spelled) (ss : List SignatureParts)
      → All (Fits z payload) ws → AllZip (IsSignature form) ws ss → All (Bounded z t) ss
  signed_fits form z t payload same [] [] fits is = All-nil (Bounded z t)
  signed_fits form z t payload same [] (s ∷ ss) fits is = absurd is
  signed_fits form z t payload same (w ∷ ws) [] fits is = absurd is
  signed_fits form z t payload same (w ∷ ws) (s ∷ ss) fits is =
      All-cons (Bounded z t) s ss
      (omega (arith, input_length t s, ap length is.0.protected_text, ap length same, All-head (Fits z payload) w ws fits))
      (signed_fits form z t payload same ws ss (All-tail (Fits z payload) w ws fits) is.1)

  pub messages_fit : MessagesFit
  messages_fit most z t is =
      let w = is.texts in
      signed_fits w.0.form z t w.0.payload w.3 w.0.signatures t.signatures (spelled_fits most z w.0 w.1) w.4

-- ---- the number of signatures

zip_length : {A B : Type 0} (R : A → B → Type 0) (xs : List A) (ys : List B) → AllZip R xs ys → length ys ≡ length xs
zip_length R [] [] h = refl
zip_length R [] (y ∷ ys) h = absurd h
zip_length R (x ∷ xs) [] h = absurd h
zip_length R (x ∷ xs) (y ∷ ys) h = ap suc (zip_length R xs ys h.1)

spelled_few : (most : ℕ) (z : List ℕ) (t : SpelledToken) → 0 < most → IsSpelledToken most z t → length t.signatures ≤ most
spelled_few most z t some is =
    ⊎_elim
    (λ c. subst (λ u. length u.signatures ≤ most) (sym c.4) (omega arith))
    (λ (j : IsJson most z t). ⊎_elim (λ (g : IsGeneral most j.members t). g.few) (λ (f : IsFlattened j.members t). omega (arith, ap length f.signature.1)) j.shape) is

pub signatures_are_few : SignaturesAreFew
signatures_are_few most z t some is =
    let w = is.texts in
    omega (arith, zip_length (IsSignature w.0.form) w.0.signatures t.signatures w.4, spelled_few most z w.0 some w.1)
