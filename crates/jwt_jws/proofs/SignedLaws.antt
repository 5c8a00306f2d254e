-- Reading a signed token, against what a signed token is.
use Rattle.std.proofs.Common.{◌≡◌, ℕ, ◌+◌, ◌<◌, ◌≤◌, ◌⊎◌, inl, inr, ◌↔◌, Bool, true, false, cond, List, [], ◌∷◌, length, Option, Some, None, Result, Ok, Err, refl, sym, ap, subst, ◌∙◌, arith}
use Rattle.std.specs.Prelude.{option_map, option_and_then, is_some, codes, nat_lt, if◌then◌else◌}
use Rattle.std.specs.List.{AllZip}
use Rattle.std.proofs.lemmas.Bool.{ltb-false, le-ltb}
use Rattle.serde_json.specs.Data.{Data, Members}
use Rattle.serde_json.specs.Find.{get_member, as_object, as_str}
use Rattle.jwt_text.specs.Answers.{◌>>=◌, or_fault, some_or, each}
use Rattle.jwt_text.specs.Base64url.{Spells, spelled}
use Rattle.jwt_text.specs.Members.{has, text_at, list_at}
use Rattle.jwt_text.specs.ObjectText.{IsObjectText, object_of}
use Rattle.jwt_text.specs.declared.fault.TextFault.{TextFault}
use Rattle.jwt_text.specs.declared.fault.TextFault.TheVariants as text
use Rattle.jwt_jws.specs.Token.{SignatureParts, Token}
use Rattle.jwt_jws.specs.Forms.{Spelled, SpelledToken, protected_text, spelled_signature, spelled_element, flattened, general, within, json_of, read_as, protected_of, unprotected_of, overlap, signature_of, signed_of, spelled_token, form_of, compact, opens_object}
use Rattle.jwt_jws.specs.SignedToken.{IsSpelledIn, IsGeneral, IsFlattened, IsSpelledToken, IsProtected, IsSignature, IsSignedToken}
use Rattle.jwt_jws.specs.declared.fault.Form.{Form}
use Rattle.jwt_jws.specs.declared.fault.Form.TheVariants.{Compact, General, Flattened}
use Rattle.jwt_jws.specs.declared.fault.FormFault.{FormFault}
use Rattle.jwt_jws.specs.declared.fault.FormFault.TheVariants.{Members as WrongMembers, TooManySignatures, Base64, Header, NamesOverlap, Encrypted}
use Rattle.jwt_jws.specs.declared.fault.Place.TheVariants.{Payload, Protected, Signature}
use Rattle.jwt_jws.proofs.CompactLaws.{reads_compact, is_read_compact}
use Rattle.jwt_jws.proofs.Each.{bind_ok}
use Rattle.jwt_jws.proofs.Shapes.{IsElement, IsProtectedText}

-- ---- steps

pub or_fault_ok : {A E : Type 0} (f : FormFault) (r : Result A E) (x : A) → or_fault f r ≡ Ok x → r ≡ Ok x
or_fault_ok f (Ok y) x e = cc e
or_fault_ok f (Err d) x e = absurd cc

pub some_or_ok : {A : Type 0} (f : FormFault) (o : Option A) (x : A) → some_or f o ≡ Ok x → o ≡ Some x
some_or_ok f (Some y) x e = cc e
some_or_ok f None x e = absurd cc

-- ---- the elements of a list

pub each_zip : {A B : Type 0} (f : ℕ → A → Result B FormFault) (R : A → B → Type 0) → ((i : ℕ) (x : A) (y : B) → f i x ≡ Ok y → R x y)
    → (i : ℕ) (xs : List A) (ys : List B) → each f i xs ≡ Ok ys → AllZip R xs ys
each_zip f R is i [] [] e = tt
each_zip f R is i [] (y ∷ ys) e = absurd cc
each_zip f R is i (x ∷ xs) ys e =
    let first = bind_ok (f i x) (λ z. each f (i + 1) xs >>= λ zs. Ok (z ∷ zs)) ys e in
    let rest = bind_ok (each f (i + 1) xs) (λ zs. Ok (first.0 ∷ zs)) ys first.2 in
    let parts : first.0 ∷ rest.0 ≡ ys = cc (rest.2) in
    subst (AllZip R (x ∷ xs)) parts (is i x first.0 first.1, each_zip f R is (i + 1) xs rest.0 rest.1)

pub zip_each : {A B : Type 0} (f : ℕ → A → Result B FormFault) (R : A → B → Type 0) → ((i : ℕ) (x : A) (y : B) → R x y → f i x ≡ Ok y)
    → (i : ℕ) (xs : List A) (ys : List B) → AllZip R xs ys → each f i xs ≡ Ok ys
zip_each f R is i [] [] h = refl
zip_each f R is i [] (y ∷ ys) h = absurd h
zip_each f R is i (x ∷ xs) [] h = absurd h
zip_each f R is i (x ∷ xs) (y ∷ ys) h = rw (is i x y h.0, zip_each f R is (i + 1) xs ys h.1) refl

-- ---- one signature; `spells` and `objects` are the laws of the texts

abbrev pub SpellsLaw : Type 0
SpellsLaw = (t v : List ℕ) → (spelled t ≡ Ok v) ↔ Spells t v

abbrev pub ObjectLaw : Type 0
ObjectLaw = (t : List ℕ) (ms : Members) → (object_of t ≡ Ok ms) ↔ IsObjectText t ms

abbrev pub header_read : ℕ → List ℕ → Result Members FormFault
header_read i text = or_fault (Base64 (Protected i)) (spelled text) >>= λ octets. or_fault (Header i) (object_of octets)

text_read : SpellsLaw → ObjectLaw → (i : ℕ) (text : List ℕ) (p : Members) → header_read i text ≡ Ok p → IsProtectedText text p
text_read spells objects i text p e =
    let b = bind_ok (or_fault (Base64 (Protected i)) (spelled text)) (λ octets. or_fault (Header i) (object_of octets)) p e in
    (b.0, (spells text b.0).0 (or_fault_ok (Base64 (Protected i)) (spelled text) b.0 b.1), (objects b.0 p).0 (or_fault_ok (Header i) (object_of b.0) p b.2))

text_made : SpellsLaw → ObjectLaw → (i : ℕ) (text : List ℕ) (p : Members) → IsProtectedText text p → header_read i text ≡ Ok p
text_made spells objects i text p h = rw ((spells text h.0).1 h.1, (objects h.0 p).1 h.2) refl

pub protected_read : SpellsLaw → ObjectLaw → (form : Form) (i : ℕ) (text : List ℕ) (p : Members) → protected_of form i text ≡ Ok p → IsProtected form text p
unfolding protected_of
protected_read spells objects Compact i text p e = text_read spells objects i text p e
protected_read spells objects General i [] p e = cc
protected_read spells objects General i (c ∷ cs) p e = text_read spells objects i (c ∷ cs) p e
protected_read spells objects Flattened i [] p e = cc
protected_read spells objects Flattened i (c ∷ cs) p e = text_read spells objects i (c ∷ cs) p e

pub protected_made : SpellsLaw → ObjectLaw → (form : Form) (i : ℕ) (text : List ℕ) (p : Members) → IsProtected form text p → protected_of form i text ≡ Ok p
unfolding protected_of
protected_made spells objects Compact i text p h = text_made spells objects i text p h
protected_made spells objects General i [] p h = ap Ok (sym h)
protected_made spells objects General i (c ∷ cs) p h = text_made spells objects i (c ∷ cs) p h
protected_made spells objects Flattened i [] p h = ap Ok (sym h)
protected_made spells objects Flattened i (c ∷ cs) p h = text_made spells objects i (c ∷ cs) p h

pub unprotected_read : (i : ℕ) (header : Option (Option Members)) (u : Option Members) → unprotected_of i header ≡ Ok u → header ≡ option_map Some u
unprotected_read i None u e = let same : None ≡ u = cc in ap (option_map Some) same
unprotected_read i (Some None) u e = absurd cc
unprotected_read i (Some (Some m)) u e = let same : Some m ≡ u = cc in ap (option_map Some) same

pub unprotected_made : (i : ℕ) (header : Option (Option Members)) (u : Option Members) → header ≡ option_map Some u → unprotected_of i header ≡ Ok u
unprotected_made i header None h = rw h refl
unprotected_made i header (Some m) h = rw h refl

-- the last step, where no name is in both headers
abbrev pub signed_octets : ℕ → Bool → List ℕ → Result (List ℕ) FormFault
signed_octets i twice text = if◌then◌else◌ twice (Err (NamesOverlap i)) (or_fault (Base64 (Signature i)) (spelled text))

pub octets_read : SpellsLaw → (i : ℕ) (twice : Bool) (text octets : List ℕ) → signed_octets i twice text ≡ Ok octets → (twice ≡ false) × Spells text octets
octets_read spells i true text octets e = absurd cc
octets_read spells i false text octets e = (refl, (spells text octets).0 (or_fault_ok (Base64 (Signature i)) (spelled text) octets e))

pub signature_read : SpellsLaw → ObjectLaw → (form : Form) (i : ℕ) (w : Spelled) (s : SignatureParts) → signature_of form i w ≡ Ok s → IsSignature form w s
unfolding signature_of
signature_read spells objects form i w s e =
    let P = bind_ok (protected_of form i w.protected) (λ p. unprotected_of i w.header >>= λ u. signed_octets i (overlap p u) w.signature >>= λ o. Ok (made p u o)) s e in
    let U = bind_ok (unprotected_of i w.header) (λ u. signed_octets i (overlap P.0 u) w.signature >>= λ o. Ok (made P.0 u o)) s P.2 in
    let G = bind_ok (signed_octets i (overlap P.0 U.0) w.signature) (λ o. Ok (made P.0 U.0 o)) s U.2 in
    let read = octets_read spells i (overlap P.0 U.0) w.signature G.0 G.1 in
    let same : made P.0 U.0 G.0 ≡ s = cc (G.2) in
    subst (IsSignature form w) same (record {
      protected_text = refl;
      protected = protected_read spells objects form i w.protected P.0 P.1;
      unprotected = unprotected_read i w.header U.0 U.1;
      disjoint = read.0;
      octets = read.1;
    })
  where
    made : Members → Option Members → List ℕ → SignatureParts
    made p u o = record { protected_text = w.protected; protected = p; unprotected = u; octets = o }

pub signature_made : SpellsLaw → ObjectLaw → (form : Form) (i : ℕ) (w : Spelled) (s : SignatureParts) → IsSignature form w s → signature_of form i w ≡ Ok s
unfolding signature_of
signature_made spells objects form i w s h =
    rw (protected_made spells objects form i w.protected s.protected h.protected, unprotected_made i w.header s.unprotected h.unprotected, h.disjoint, (spells w.signature s.octets).1 h.octets, ← h.protected_text) refl

-- ---- the texts of a token in JSON form

-- an absent `protected` is the empty text
abbrev pub HasProtected : Members → List ℕ → Type 0
HasProtected m text = ((has (codes "protected") m ≡ false) × (text ≡ [])) ⊎ (text_at (codes "protected") m ≡ Some text)

pub has_text : (name : List ℕ) (m : Members) (text : List ℕ) → text_at name m ≡ Some text → has name m ≡ true
has_text name m text e = found (get_member name m) e
  where
    found : (o : Option Data) → option_and_then as_str o ≡ Some text → is_some o ≡ true
    found None e = absurd cc
    found (Some d) e = refl

protected_text_read : (m : Members) (text : List ℕ) → protected_text m ≡ Ok text → HasProtected m text
protected_text_read m text e = by_presence (has (codes "protected") m) refl e
  where
    by_presence : (b : Bool) → has (codes "protected") m ≡ b → cond b (some_or WrongMembers (text_at (codes "protected") m)) (Ok []) ≡ Ok text → HasProtected m text
    by_presence true is e = inr (some_or_ok WrongMembers (text_at (codes "protected") m) text e)
    by_presence false is e = inl (is, cc e)

protected_text_made : (m : Members) (text : List ℕ) → HasProtected m text → protected_text m ≡ Ok text
protected_text_made m text (inl absent) = rw absent.0 (ap Ok (sym absent.1))
protected_text_made m text (inr there) = rw (has_text (codes "protected") m text there, there) refl

spelled_read : (m : Members) (w : Spelled) → spelled_signature m ≡ Ok w → IsSpelledIn m w
unfolding spelled_signature
spelled_read m w e =
    let S = bind_ok (some_or WrongMembers (text_at (codes "signature") m)) (λ g. protected_text m >>= λ h. Ok (made h g)) w e in
    let P = bind_ok (protected_text m) (λ h. Ok (made h S.0)) w S.2 in
    let same : made P.0 S.0 ≡ w = cc (P.2) in
    subst (IsSpelledIn m) same (record {
      signature = some_or_ok WrongMembers (text_at (codes "signature") m) S.0 S.1;
      protected = protected_text_read m P.0 P.1;
      header = refl;
    })
  where
    made : List ℕ → List ℕ → Spelled
    made h g = record { protected = h; header = option_map as_object (get_member (codes "header") m); signature = g }

spelled_made : (m : Members) (w : Spelled) → IsSpelledIn m w → spelled_signature m ≡ Ok w
unfolding spelled_signature
spelled_made m w h = rw (h.signature, protected_text_made m w.protected h.protected, ← h.header) refl

pub element_read : (i : ℕ) (d : Data) (w : Spelled) → spelled_element i d ≡ Ok w → IsElement d w
element_read i d w e =
    let M = bind_ok (some_or WrongMembers (as_object d)) spelled_signature w e in
    (M.0, some_or_ok WrongMembers (as_object d) M.0 M.1, spelled_read M.0 w M.2)

pub element_made : (i : ℕ) (d : Data) (w : Spelled) → IsElement d w → spelled_element i d ≡ Ok w
element_made i d w h = rw h.1 (spelled_made h.0 w h.2)

-- ---- general and flattened form

within_read : (most : ℕ) (ws vs : List Spelled) → within most ws ≡ Ok vs → (ws ≡ vs) × (0 < length vs) × (length vs ≤ most)
within_read most [] vs e = absurd cc
within_read most (w ∷ ws) vs e = by_size (nat_lt most (length (w ∷ ws))) refl e
  where
    by_size : (b : Bool) → nat_lt most (length (w ∷ ws)) ≡ b → cond b (Err TooManySignatures) (Ok (w ∷ ws)) ≡ Ok vs → ((w ∷ ws) ≡ vs) × (0 < length vs) × (length vs ≤ most)
    by_size true is e = absurd cc
    by_size false is e =
        let same : (w ∷ ws) ≡ vs = cc e in
        let few : length (w ∷ ws) ≤ most = ltb-false most (length (w ∷ ws)) is in
        (same, subst (λ (xs : List Spelled). 0 < length xs) same (omega arith), subst (λ (xs : List Spelled). length xs ≤ most) same few)

pub within_made : (most : ℕ) (ws : List Spelled) → 0 < length ws → length ws ≤ most → within most ws ≡ Ok ws
within_made most [] some few = absurd (omega arith)
within_made most (w ∷ ws) some few = rw (le-ltb most (length (w ∷ ws)) few) refl

general_read : (most : ℕ) (m : Members) (t : SpelledToken) → has (codes "signature") m ≡ false → general most m ≡ Ok t → IsGeneral most m t
unfolding general
general_read most m t top e =
    let P = bind_ok (some_or WrongMembers (text_at (codes "payload") m)) (λ p. some_or WrongMembers (list_at (codes "signatures") m) >>= λ ds. each spelled_element 0 ds >>= λ es. within most es >>= λ ws. Ok (made p ws)) t e in
    let L = bind_ok (some_or WrongMembers (list_at (codes "signatures") m)) (λ ds. each spelled_element 0 ds >>= λ es. within most es >>= λ ws. Ok (made P.0 ws)) t P.2 in
    let E = bind_ok (each spelled_element 0 L.0) (λ es. within most es >>= λ ws. Ok (made P.0 ws)) t L.2 in
    let W = bind_ok (within most E.0) (λ ws. Ok (made P.0 ws)) t E.2 in
    let sized = within_read most E.0 W.0 W.1 in
    let same : made P.0 W.0 ≡ t = cc (W.2) in
    let zipped : AllZip IsElement L.0 W.0 = subst (λ (ws : List Spelled). AllZip IsElement L.0 ws) sized.0 (each_zip spelled_element IsElement element_read 0 L.0 E.0 E.1) in
    subst (IsGeneral most m) same (record {
      form = refl;
      one_at_the_top = top;
      payload = some_or_ok WrongMembers (text_at (codes "payload") m) P.0 P.1;
      listed = (L.0, some_or_ok WrongMembers (list_at (codes "signatures") m) L.0 L.1, zipped);
      some = sized.1;
      few = sized.2;
    })
  where
    made : List ℕ → List Spelled → SpelledToken
    made p ws = record { form = General; payload = p; signatures = ws }

pub general_made : (most : ℕ) (m : Members) (t : SpelledToken) → IsGeneral most m t → general most m ≡ Ok t
unfolding general
general_made most m t h =
    rw (h.payload, h.listed.1, zip_each spelled_element IsElement element_made 0 h.listed.0 t.signatures h.listed.2, within_made most t.signatures h.some h.few, ← h.form) refl

flattened_read : (m : Members) (t : SpelledToken) → has (codes "signatures") m ≡ false → flattened m ≡ Ok t → IsFlattened m t
unfolding flattened
flattened_read m t alone e =
    let P = bind_ok (some_or WrongMembers (text_at (codes "payload") m)) (λ p. spelled_signature m >>= λ w. Ok (made p w)) t e in
    let W = bind_ok (spelled_signature m) (λ w. Ok (made P.0 w)) t P.2 in
    let same : made P.0 W.0 ≡ t = cc (W.2) in
    subst (IsFlattened m) same (record {
      form = refl;
      alone = alone;
      payload = some_or_ok WrongMembers (text_at (codes "payload") m) P.0 P.1;
      signature = (W.0, refl, spelled_read m W.0 W.1);
    })
  where
    made : List ℕ → Spelled → SpelledToken
    made p w = record { form = Flattened; payload = p; signatures = w ∷ [] }

pub flattened_made : (m : Members) (t : SpelledToken) → IsFlattened m t → flattened m ≡ Ok t
unfolding flattened
flattened_made m t h = rw (h.payload, spelled_made m h.signature.0 h.signature.2, ← h.form, ← h.signature.1) refl

-- ---- the texts of a token

pub read_as_ok : (r : Result Members TextFault) (m : Members) → read_as r ≡ Ok m → r ≡ Ok m
read_as_ok (Ok x) m e = cc e
read_as_ok (Err text.OutOfMemory) m e = absurd cc
read_as_ok (Err text.Read) m e = absurd cc
read_as_ok (Err text.TooLong) m e = absurd cc
read_as_ok (Err text.Base64) m e = absurd cc
read_as_ok (Err text.Json) m e = absurd cc
read_as_ok (Err text.NotObject) m e = absurd cc
read_as_ok (Err text.NameTwice) m e = absurd cc

abbrev pub IsMembers : ℕ → Members → SpelledToken → Type 0
IsMembers most m t = (has (codes "ciphertext") m ≡ false) × (IsGeneral most m t ⊎ IsFlattened m t)

abbrev pub json_by : Bool → Bool → Bool → Result SpelledToken FormFault → Result SpelledToken FormFault → Result SpelledToken FormFault
json_by encrypted one several flat many = cond encrypted (Err Encrypted) (cond one (cond several (Err WrongMembers) flat) many)

pub json_read : (most : ℕ) (m : Members) (t : SpelledToken) → json_of most m ≡ Ok t → IsMembers most m t
unfolding json_of
json_read most m t e = by_members (has (codes "ciphertext") m) (has (codes "signature") m) (has (codes "signatures") m) refl refl refl e
  where
    by_members : (c s ss : Bool) → has (codes "ciphertext") m ≡ c → has (codes "signature") m ≡ s → has (codes "signatures") m ≡ ss
        → json_by c s ss (flattened m) (general most m) ≡ Ok t → IsMembers most m t
    by_members true s ss c_is s_is ss_is e = absurd cc
    by_members false true true c_is s_is ss_is e = absurd cc
    by_members false true false c_is s_is ss_is e = (c_is, inr (flattened_read m t ss_is e))
    by_members false false ss c_is s_is ss_is e = (c_is, inl (general_read most m t s_is e))

pub json_made : (most : ℕ) (m : Members) (t : SpelledToken) → IsMembers most m t → json_of most m ≡ Ok t
unfolding json_of
json_made most m t (clear, inl general_form) = rw (clear, general_form.one_at_the_top) (general_made most m t general_form)
json_made most m t (clear, inr flat) =
    let w = flat.signature.0 in
    rw (clear, has_text (codes "signature") m w.signature flat.signature.2.signature, flat.alone) (flattened_made m t flat)

pub spelled_token_read : ObjectLaw → (most : ℕ) (z : List ℕ) (t : SpelledToken) → spelled_token most z ≡ Ok t → IsSpelledToken most z t
unfolding spelled_token
spelled_token_read objects most z t e = by_brace (opens_object z) refl e
  where
    by_brace : (b : Bool) → opens_object z ≡ b → cond b (read_as (object_of z) >>= json_of most) (compact z) ≡ Ok t → IsSpelledToken most z t
    by_brace true is e =
        let M = bind_ok (read_as (object_of z)) (json_of most) t e in
        let form = json_read most M.0 t M.2 in
        inr (record { opens = is; members = M.0; text = (objects z M.0).0 (read_as_ok (object_of z) M.0 M.1); plain = form.0; shape = form.1 })
    by_brace false is e = inl (is_read_compact z t is e)

pub spelled_token_made : ObjectLaw → (most : ℕ) (z : List ℕ) (t : SpelledToken) → IsSpelledToken most z t → spelled_token most z ≡ Ok t
unfolding spelled_token
spelled_token_made objects most z t (inl c) = rw c.3.no_object (reads_compact z c.0 c.1 c.2 c.3 ∙ ap Ok (sym c.4))
spelled_token_made objects most z t (inr j) = rw (j.opens, (objects z j.members).1 j.text) (json_made most j.members t (j.plain, j.shape))

-- ---- the token

signed_read : SpellsLaw → ObjectLaw → (w : SpelledToken) (t : Token) → signed_of w ≡ Ok t
    → (t.form ≡ w.form) × (t.payload_text ≡ w.payload) × AllZip (IsSignature w.form) w.signatures t.signatures × Spells t.payload_text t.payload
unfolding signed_of
signed_read spells objects w t e =
    let P = bind_ok (or_fault (Base64 Payload) (spelled w.payload)) (λ p. each (signature_of w.form) 0 w.signatures >>= λ ss. Ok (made p ss)) t e in
    let S = bind_ok (each (signature_of w.form) 0 w.signatures) (λ ss. Ok (made P.0 ss)) t P.2 in
    let same : made P.0 S.0 ≡ t = cc (S.2) in
    subst (λ (x : Token). (x.form ≡ w.form) × (x.payload_text ≡ w.payload) × AllZip (IsSignature w.form) w.signatures x.signatures × Spells x.payload_text x.payload) same
    (refl, refl, each_zip (signature_of w.form) (IsSignature w.form) (signature_read spells objects w.form) 0 w.signatures S.0 S.1, (spells w.payload P.0).0 (or_fault_ok (Base64 Payload) (spelled w.payload) P.0 P.1))
  where
    made : List ℕ → List SignatureParts → Token
    made p ss = record { form = w.form; payload_text = w.payload; payload = p; signatures = ss }

signed_made : SpellsLaw → ObjectLaw → (w : SpelledToken) (t : Token) → t.form ≡ w.form → t.payload_text ≡ w.payload
    → AllZip (IsSignature w.form) w.signatures t.signatures → Spells t.payload_text t.payload → signed_of w ≡ Ok t
unfolding signed_of
signed_made spells objects w t form text zipped payload =
    let spelled_payload : Spells w.payload t.payload = subst (λ (x : List ℕ). Spells x t.payload) text payload in
    rw ((spells w.payload t.payload).1 spelled_payload, zip_each (signature_of w.form) (IsSignature w.form) (signature_made spells objects w.form) 0 w.signatures t.signatures zipped, ← form, ← text) refl

-- no octets are no texts
some_octet : (most : ℕ) (z : List ℕ) (t : Token) → form_of most z ≡ Ok t → (spelled_token most z >>= signed_of) ≡ Ok t
unfolding form_of
some_octet most [] t e = absurd cc
some_octet most (c ∷ cs) t e = e

pub token_read : SpellsLaw → ObjectLaw → (most : ℕ) (z : List ℕ) (t : Token) → form_of most z ≡ Ok t → IsSignedToken most z t
token_read spells objects most z t e =
    let W = bind_ok (spelled_token most z) signed_of t (some_octet most z t e) in
    let read = signed_read spells objects W.0 t W.2 in
    record {
      texts = (W.0, spelled_token_read objects most z W.0 W.1, read.0, read.1, read.2);
      payload = read.3;
    }

pub empty_is_none : (most : ℕ) (w : SpelledToken) → spelled_token most [] ≡ Ok w → ⊥
unfolding spelled_token compact
empty_is_none most w e = cc e

pub token_made : SpellsLaw → ObjectLaw → (most : ℕ) (z : List ℕ) (t : Token) → IsSignedToken most z t → form_of most z ≡ Ok t
unfolding form_of
token_made spells objects most [] t h = absurd (empty_is_none most h.texts.0 (spelled_token_made objects most [] h.texts.0 h.texts.1))
token_made spells objects most (c ∷ cs) t h =
    rw (spelled_token_made objects most (c ∷ cs) h.texts.0 h.texts.1) (signed_made spells objects h.texts.0 t h.texts.2 h.texts.3 h.texts.4 h.payload)
