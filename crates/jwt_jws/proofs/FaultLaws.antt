-- The fault that reading answers, against the first cause that holds.
use Rattle.std.proofs.Common.{◌≡◌, ◌≢◌, ℕ, zero, suc, ◌+◌, ◌<◌, ◌⊎◌, inl, inr, ◌↔◌, Bool, true, false, cond, List, [], ◌∷◌, length, Option, Some, None, Result, Ok, Err, refl, sym, subst, ◌∙◌, arith}
use Rattle.std.specs.Prelude.{option_map, codes, nat_lt, slice_get}
use Rattle.std.specs.List.{count_by, slice_split}
use Rattle.std.proofs.lemmas.Bool.{cases_eq, ltb-true}
use Rattle.std.proofs.lemmas.List.Splits.{length-slice_split}
use Rattle.serde_json.specs.Data.{Data, Members, object}
use Rattle.serde_json.specs.Find.{get_member, as_object}
use Rattle.jwt_text.specs.Answers.{◌>>=◌, or_fault, some_or, each, IsFirstFault}
use Rattle.jwt_text.specs.Base64url.{Spells, spelled}
use Rattle.jwt_text.specs.Members.{has, text_at, list_at}
use Rattle.jwt_text.specs.ObjectText.{IsObjectText, reading, colons, members_entries, object_of}
use Rattle.jwt_text.specs.declared.fault.TextFault.{TextFault}
use Rattle.jwt_text.specs.declared.fault.TextFault.TheVariants as text
use Rattle.jwt_jws.specs.Token.{SignatureParts, Token}
use Rattle.jwt_jws.specs.Forms.{Spelled, SpelledToken, is_period, compact_of, compact, protected_text, spelled_signature, spelled_element, flattened, general, within, json_of, read_as, protected_of, unprotected_of, overlap, signature_of, signed_of, spelled_token, form_of, opens_object}
use Rattle.jwt_jws.specs.SignedToken.{IsGeneral, IsFlattened, IsSpelledToken, IsProtected}
use Rattle.jwt_jws.specs.FormFaults.{IsSignatureFault, IsFirstSignatureFault, IsFormFault}
use Rattle.jwt_jws.specs.declared.fault.Form.{Form}
use Rattle.jwt_jws.specs.declared.fault.Form.TheVariants.{Compact, General, Flattened}
use Rattle.jwt_jws.specs.declared.fault.FormFault.{FormFault}
use Rattle.jwt_jws.specs.declared.fault.FormFault.TheVariants as fault
use Rattle.jwt_jws.specs.declared.fault.Place.TheVariants as place
use Rattle.jwt_jws.proofs.SignedLaws.{SpellsLaw, ObjectLaw, or_fault_ok, some_or_ok, each_zip, zip_each, header_read, signed_octets, protected_read, unprotected_read, signature_read, has_text, element_read, element_made, flattened_made, read_as_ok, spelled_token_read, json_by}
use Rattle.jwt_jws.proofs.Shapes.{IsElement, IsProtectedText, SpellsNothing}

-- the fault of a step is its own, or that of what follows
pub bind_err : {A B : Type 0} (P : Type 0) (r : Result A FormFault) (f : A → Result B FormFault) (e : FormFault) → (r >>= f) ≡ Err e
    → (r ≡ Err e → P) → ((x : A) → r ≡ Ok x → f x ≡ Err e → P) → P
bind_err P (Ok x) f e is own later = later x refl is
bind_err P (Err d) f e is own later = own cc

or_fault_err : {A E : Type 0} (f : FormFault) (r : Result A E) (e : FormFault) → or_fault f r ≡ Err e → (f ≡ e) × ((x : A) → r ≡ Ok x → ⊥)
or_fault_err f (Ok y) e is = absurd cc
or_fault_err f (Err d) e is = (cc is, λ x wrong. cc wrong)

some_or_err : {A : Type 0} (f : FormFault) (o : Option A) (e : FormFault) → some_or f o ≡ Err e → (f ≡ e) × (o ≡ None)
some_or_err f (Some y) e is = absurd cc
some_or_err f None e is = (cc is, refl)

-- the law of what a text spells, where it spells nothing
spells_nothing : SpellsLaw → (t : List ℕ) → ((octets : List ℕ) → spelled t ≡ Ok octets → ⊥) → SpellsNothing t
spells_nothing spells t h = λ octets s. h octets ((spells t octets).1 s)

-- ---- the faults of a signature

abbrev HeaderFault : ℕ → List ℕ → (Members → Type 0) → FormFault → Type 0
HeaderFault i text IsHeader e =
    ((fault.Base64 (place.Protected i) ≡ e) × SpellsNothing text)
    ⊎ ((fault.Header i ≡ e) × ((octets : List ℕ) × Spells text octets) × ((p : Members) → ¬ IsHeader p))

text_fault : SpellsLaw → ObjectLaw → (i : ℕ) (text : List ℕ) (e : FormFault) → header_read i text ≡ Err e → HeaderFault i text (IsProtectedText text) e
text_fault spells objects i text e is =
    bind_err (HeaderFault i text (IsProtectedText text) e) (or_fault (fault.Base64 (place.Protected i)) (spelled text)) (λ octets. or_fault (fault.Header i) (object_of octets)) e is
    (λ own. let f = or_fault_err (fault.Base64 (place.Protected i)) (spelled text) e own in inl (f.0, spells_nothing spells text f.1))
    (λ octets was later.
    let f = or_fault_err (fault.Header i) (object_of octets) e later in
    let read = or_fault_ok (fault.Base64 (place.Protected i)) (spelled text) octets was in
    inr (
      f.0,
      (octets, (spells text octets).0 read),
      λ p h.
          let again = (spells text h.0).1 h.1 in
          let same : h.0 ≡ octets = cc (again, read) in
          f.1 p ((objects octets p).1 (subst (λ (o : List ℕ). IsObjectText o p) same h.2)),
    ))

protected_answer : SpellsLaw → ObjectLaw → (form : Form) (i : ℕ) (text : List ℕ) (e : FormFault) → protected_of form i text ≡ Err e → HeaderFault i text (IsProtected form text) e
unfolding protected_of
protected_answer spells objects Compact i text e is = text_fault spells objects i text e is
protected_answer spells objects General i [] e is = absurd cc
protected_answer spells objects General i (c ∷ cs) e is = text_fault spells objects i (c ∷ cs) e is
protected_answer spells objects Flattened i [] e is = absurd cc
protected_answer spells objects Flattened i (c ∷ cs) e is = text_fault spells objects i (c ∷ cs) e is

protected_fault : SpellsLaw → ObjectLaw → (form : Form) (i : ℕ) (w : Spelled) (e : FormFault) → protected_of form i w.protected ≡ Err e → IsSignatureFault form i w e
protected_fault spells objects form i w e is = told (protected_answer spells objects form i w.protected e is)
  where
    told : HeaderFault i w.protected (IsProtected form w.protected) e → IsSignatureFault form i w e
    told (inl f) = subst (IsSignatureFault form i w) f.0 (refl, f.1)
    told (inr f) = subst (IsSignatureFault form i w) f.0 (refl, f.1, f.2)

unprotected_fault : (i : ℕ) (header : Option (Option Members)) (e : FormFault) → unprotected_of i header ≡ Err e → (fault.UnprotectedKind i ≡ e) × (header ≡ Some None)
unprotected_fault i None e is = absurd cc
unprotected_fault i (Some None) e is = (cc is, refl)
unprotected_fault i (Some (Some m)) e is = absurd cc

octets_fault : SpellsLaw → (i : ℕ) (twice : Bool) (text : List ℕ) (e : FormFault) → signed_octets i twice text ≡ Err e
    → ((fault.NamesOverlap i ≡ e) × (twice ≡ true)) ⊎ ((fault.Base64 (place.Signature i) ≡ e) × (twice ≡ false) × SpellsNothing text)
octets_fault spells i true text e is = inl (cc is, refl)
octets_fault spells i false text e is =
    let f = or_fault_err (fault.Base64 (place.Signature i)) (spelled text) e is in
    inr (f.0, refl, spells_nothing spells text f.1)

signature_fault : SpellsLaw → ObjectLaw → (form : Form) (i : ℕ) (w : Spelled) (e : FormFault) → signature_of form i w ≡ Err e → IsSignatureFault form i w e
unfolding signature_of
signature_fault spells objects form i w e is =
    bind_err (IsSignatureFault form i w e) (protected_of form i w.protected) (λ p. unprotected_of i w.header >>= λ u. signed_octets i (overlap p u) w.signature >>= λ o. Ok (made p u o)) e is
    (protected_fault spells objects form i w e)
    (λ p p_is after.
    let header = protected_read spells objects form i w.protected p p_is in
    bind_err (IsSignatureFault form i w e) (unprotected_of i w.header) (λ u. signed_octets i (overlap p u) w.signature >>= λ o. Ok (made p u o)) e after
    (λ own. let f = unprotected_fault i w.header e own in subst (IsSignatureFault form i w) f.0 (refl, (p, header), f.1))
    (λ u u_is rest.
    bind_err (IsSignatureFault form i w e) (signed_octets i (overlap p u) w.signature) (λ o. Ok (made p u o)) e rest
    (λ own. told p u header (unprotected_read i w.header u u_is) (octets_fault spells i (overlap p u) w.signature e own))
    (λ o _ wrong. absurd cc)))
  where
    made : Members → Option Members → List ℕ → SignatureParts
    made p u o = record { protected_text = w.protected; protected = p; unprotected = u; octets = o }

    told : (p : Members) (u : Option Members) → IsProtected form w.protected p → w.header ≡ option_map Some u
        → ((fault.NamesOverlap i ≡ e) × (overlap p u ≡ true)) ⊎ ((fault.Base64 (place.Signature i) ≡ e) × (overlap p u ≡ false) × SpellsNothing w.signature)
        → IsSignatureFault form i w e
    told p u header unprotected (inl f) = subst (IsSignatureFault form i w) f.0 (refl, (p, u, record { protected = header; unprotected = unprotected }, f.1))
    told p u header unprotected (inr f) = subst (IsSignatureFault form i w) f.0 (refl, (p, u, record { protected = header; unprotected = unprotected }, f.1), f.2)

-- ---- the first signature with a fault

first_later : {A B : Type 0} (f : ℕ → A → Result B FormFault) (n : ℕ) (a : A) (xs : List A) (e : FormFault) (z : B) → f n a ≡ Ok z → IsFirstFault f (n + 1) xs e → IsFirstFault f n (a ∷ xs) e
first_later {A = A} {B = B} f n a xs e z ok h =
    let at : n + 1 + h.0 ≡ n + suc h.0 = omega arith in
    (suc h.0, h.1, h.2, subst (λ (k : ℕ). f k h.1 ≡ Err e) at h.3, before)
  where
    before : (k : ℕ) (y : A) → k < suc h.0 → slice_get (a ∷ xs) k ≡ Some y → (w : B) × (f (n + k) y ≡ Ok w)
    before zero y lt is =
        let same : a ≡ y = cc in
        let at : n ≡ n + zero = omega arith in
        let here : f n y ≡ Ok z = rw (← same) ok in
        (z, subst (λ (k : ℕ). f k y ≡ Ok z) at here)
    before (suc k) y lt is =
        let w = h.4 k y (omega arith) is in
        let at : n + 1 + k ≡ n + suc k = omega arith in
        (w.0, subst (λ (m : ℕ). f m y ≡ Ok w.0) at w.1)

each_first : {A B : Type 0} (f : ℕ → A → Result B FormFault) (n : ℕ) (xs : List A) (e : FormFault) → each f n xs ≡ Err e → IsFirstFault f n xs e
each_first f n [] e is = absurd cc
each_first {A = A} {B = B} f n (a ∷ xs) e is =
    bind_err (IsFirstFault f n (a ∷ xs) e) (f n a) (λ y. each f (n + 1) xs >>= λ ys. Ok (y ∷ ys)) e is
    (λ own.
    let at : n ≡ n + zero = omega arith in
    (zero, a, refl, subst (λ (k : ℕ). f k a ≡ Err e) at own, λ k y lt _. absurd (omega arith)))
    (λ z ok rest.
    bind_err (IsFirstFault f n (a ∷ xs) e) (each f (n + 1) xs) (λ ys. Ok (z ∷ ys)) e rest
    (λ (tail : each f (n + 1) xs ≡ Err e). first_later f n a xs e z ok (each_first f (n + 1) xs e tail))
    (λ ys _ wrong. absurd cc))

signatures_fault : SpellsLaw → ObjectLaw → (form : Form) (ws : List Spelled) (e : FormFault) → each (signature_of form) 0 ws ≡ Err e → IsFirstSignatureFault form ws e
signatures_fault spells objects form ws e is =
    let h = each_first (signature_of form) 0 ws e is in
    let at : 0 + h.0 ≡ h.0 = omega arith in (
      h.0,
      h.1,
      h.2,
      signature_fault spells objects form h.0 h.1 e (subst (λ (k : ℕ). signature_of form k h.1 ≡ Err e) at h.3),
      λ k v lt is_v. let s = h.4 k v lt is_v in (s.0, signature_read spells objects form (0 + k) v s.0 s.1),
    )

-- the faults that a signature has are answered of a token by the last line of `IsFormFault`
abbrev SignedFault : ℕ → List ℕ → FormFault → Type 0
SignedFault most z e = (w : SpelledToken) × IsSpelledToken most z w × ((octets : List ℕ) × Spells w.payload octets) × IsFirstSignatureFault w.form w.signatures e

signed_fault : (most : ℕ) (z : List ℕ) (e : FormFault) → SignedFault most z e → IsFormFault most z e
signed_fault most z fault.OutOfMemory h = h
signed_fault most z fault.Empty h = absurd h.3.3
signed_fault most z fault.Encrypted h = absurd h.3.3
signed_fault most z fault.Segments h = absurd h.3.3
signed_fault most z fault.Json h = absurd h.3.3
signed_fault most z fault.NameTwice h = absurd h.3.3
signed_fault most z fault.Members h = absurd h.3.3
signed_fault most z fault.TooManySignatures h = absurd h.3.3
signed_fault most z (fault.Base64 place.Payload) h = absurd h.3.3
signed_fault most z (fault.Base64 (place.Protected i)) h = h
signed_fault most z (fault.Base64 (place.Signature i)) h = h
signed_fault most z (fault.Header i) h = h
signed_fault most z (fault.UnprotectedKind i) h = h
signed_fault most z (fault.NamesOverlap i) h = h

-- ---- the texts of a token

-- in compact form, by the number of parts
segments_fault : (parts : List (List ℕ)) (e : FormFault) → compact_of parts ≡ Err e
    → ((fault.Encrypted ≡ e) × (length parts ≡ 5)) ⊎ ((fault.Segments ≡ e) × (length parts ≢ 3) × (length parts ≢ 5))
segments_fault [] e is = inr (cc is, λ h. absurd (omega arith), λ h. absurd (omega arith))
segments_fault (a ∷ []) e is = inr (cc is, λ h. absurd (omega arith), λ h. absurd (omega arith))
segments_fault (a ∷ b ∷ []) e is = inr (cc is, λ h. absurd (omega arith), λ h. absurd (omega arith))
segments_fault (a ∷ b ∷ c ∷ []) e is = absurd cc
segments_fault (a ∷ b ∷ c ∷ d ∷ []) e is = inr (cc is, λ h. absurd (omega arith), λ h. absurd (omega arith))
segments_fault (a ∷ b ∷ c ∷ d ∷ f ∷ []) e is = inl (cc is, refl)
segments_fault (a ∷ b ∷ c ∷ d ∷ f ∷ x ∷ rest) e is = inr (cc is, λ h. absurd (omega arith), λ h. absurd (omega arith))

compact_fault : (most : ℕ) (z : List ℕ) (e : FormFault) → z ≢ [] → opens_object z ≡ false → compact z ≡ Err e → IsFormFault most z e
unfolding compact
compact_fault most z e some closed is = told (segments_fault (slice_split is_period z) e is)
  where
    count : length (slice_split is_period z) ≡ count_by is_period z + 1
    count = length-slice_split is_period z

    told : ((fault.Encrypted ≡ e) × (length (slice_split is_period z) ≡ 5)) ⊎ ((fault.Segments ≡ e) × (length (slice_split is_period z) ≢ 3) × (length (slice_split is_period z) ≢ 5)) → IsFormFault most z e
    told (inl f) = let counted = count in let four : count_by is_period z ≡ 4 = omega (arith, counted, f.1) in subst (IsFormFault most z) f.0 (inl (some, closed, four))
    told (inr f) =
        let counted = count in
        subst (IsFormFault most z) f.0 (some, closed, (λ two. f.1 (omega (arith, counted, two)), λ four. f.2 (omega (arith, counted, four))))

-- in JSON form, by the members of the object

protected_text_fault : (m : Members) (e : FormFault) → protected_text m ≡ Err e → fault.Members ≡ e
protected_text_fault m e is = by_presence (has (codes "protected") m) is
  where
    by_presence : (b : Bool) → cond b (some_or fault.Members (text_at (codes "protected") m)) (Ok []) ≡ Err e → fault.Members ≡ e
    by_presence true is = (some_or_err fault.Members (text_at (codes "protected") m) e is).0
    by_presence false is = absurd cc

spelled_fault : (m : Members) (e : FormFault) → spelled_signature m ≡ Err e → fault.Members ≡ e
unfolding spelled_signature
spelled_fault m e is =
    bind_err (fault.Members ≡ e) (some_or fault.Members (text_at (codes "signature") m)) (λ g. protected_text m >>= λ h. Ok (made h g)) e is
    (λ own. (some_or_err fault.Members (text_at (codes "signature") m) e own).0)
    (λ g _ after.
    bind_err (fault.Members ≡ e) (protected_text m) (λ h. Ok (made h g)) e after (protected_text_fault m e) (λ h _ wrong. absurd cc))
  where
    made : List ℕ → List ℕ → Spelled
    made h g = record { protected = h; header = option_map as_object (get_member (codes "header") m); signature = g }

element_fault : (i : ℕ) (d : Data) (e : FormFault) → spelled_element i d ≡ Err e → fault.Members ≡ e
element_fault i d e is =
    bind_err (fault.Members ≡ e) (some_or fault.Members (as_object d)) spelled_signature e is
    (λ own. (some_or_err fault.Members (as_object d) e own).0)
    (λ m _ after. spelled_fault m e after)

elements_fault : (ds : List Data) (e : FormFault) → each spelled_element 0 ds ≡ Err e → fault.Members ≡ e
elements_fault ds e is = let h = each_first spelled_element 0 ds e is in element_fault (0 + h.0) h.1 e h.3

flattened_fault : (m : Members) (e : FormFault) → flattened m ≡ Err e → fault.Members ≡ e
unfolding flattened
flattened_fault m e is =
    bind_err (fault.Members ≡ e) (some_or fault.Members (text_at (codes "payload") m)) (λ p. spelled_signature m >>= λ w. Ok (made p w)) e is
    (λ own. (some_or_err fault.Members (text_at (codes "payload") m) e own).0)
    (λ p _ after.
    bind_err (fault.Members ≡ e) (spelled_signature m) (λ w. Ok (made p w)) e after (spelled_fault m e) (λ w _ wrong. absurd cc))
  where
    made : List ℕ → Spelled → SpelledToken
    made p w = record { form = Flattened; payload = p; signatures = w ∷ [] }

abbrev GeneralFault : ℕ → Members → FormFault → Type 0
GeneralFault most m e = (fault.Members ≡ e) ⊎ ((fault.TooManySignatures ≡ e) × ((n : ℕ) × (t : SpelledToken) × IsGeneral n m t × (most < length t.signatures)))

within_fault : (most : ℕ) (ws : List Spelled) (e : FormFault) → within most ws ≡ Err e
    → (fault.Members ≡ e) ⊎ ((fault.TooManySignatures ≡ e) × (0 < length ws) × (most < length ws))
within_fault most [] e is = inl cc
within_fault most (w ∷ ws) e is = by_size (nat_lt most (length (w ∷ ws))) refl is
  where
    by_size : (b : Bool) → nat_lt most (length (w ∷ ws)) ≡ b → cond b (Err fault.TooManySignatures) (Ok (w ∷ ws)) ≡ Err e
        → (fault.Members ≡ e) ⊎ ((fault.TooManySignatures ≡ e) × (0 < length (w ∷ ws)) × (most < length (w ∷ ws)))
    by_size true size is = inr (cc is, omega arith, ltb-true most (length (w ∷ ws)) size)
    by_size false size is = absurd cc

abbrev pub general_token : List ℕ → List Spelled → SpelledToken
general_token p ws = record { form = General; payload = p; signatures = ws }

general_fault : (most : ℕ) (m : Members) (e : FormFault) → has (codes "signature") m ≡ false → general most m ≡ Err e → GeneralFault most m e
unfolding general
general_fault most m e top is =
    bind_err (GeneralFault most m e) (some_or fault.Members (text_at (codes "payload") m)) (λ p. some_or fault.Members (list_at (codes "signatures") m) >>= λ ds. each spelled_element 0 ds >>= λ es. within most es >>= λ ws. Ok (general_token p ws)) e is
    (λ own. inl (some_or_err fault.Members (text_at (codes "payload") m) e own).0)
    (λ p p_is after.
    bind_err (GeneralFault most m e) (some_or fault.Members (list_at (codes "signatures") m)) (λ ds. each spelled_element 0 ds >>= λ es. within most es >>= λ ws. Ok (general_token p ws)) e after
    (λ own. inl (some_or_err fault.Members (list_at (codes "signatures") m) e own).0)
    (λ ds ds_is rest.
    bind_err (GeneralFault most m e) (each spelled_element 0 ds) (λ es. within most es >>= λ ws. Ok (general_token p ws)) e rest
    (λ own. inl (elements_fault ds e own))
    (λ es es_is last.
    bind_err (GeneralFault most m e) (within most es) (λ ws. Ok (general_token p ws)) e last
    (λ own. told p ds es p_is ds_is es_is (within_fault most es e own))
    (λ ws _ wrong. absurd cc))))
  where
    told : (p : List ℕ) (ds : List Data) (es : List Spelled) → some_or fault.Members (text_at (codes "payload") m) ≡ Ok p → some_or fault.Members (list_at (codes "signatures") m) ≡ Ok ds
        → each spelled_element 0 ds ≡ Ok es → (fault.Members ≡ e) ⊎ ((fault.TooManySignatures ≡ e) × (0 < length es) × (most < length es)) → GeneralFault most m e
    told p ds es p_is ds_is es_is (inl f) = inl f
    told p ds es p_is ds_is es_is (inr f) = inr (
      f.0,
      (
        length es,
        general_token p es,
        record {
          form = refl;
          one_at_the_top = top;
          payload = some_or_ok fault.Members (text_at (codes "payload") m) p p_is;
          listed = (ds, some_or_ok fault.Members (list_at (codes "signatures") m) ds ds_is, each_zip spelled_element IsElement element_read 0 ds es es_is);
          some = f.1;
          few = omega arith;
        },
        f.2,
      ),
    )

-- an object in general form has no other fault than too many signatures
pub general_from : (most n : ℕ) (m : Members) (t : SpelledToken) → IsGeneral n m t → general most m ≡ (within most t.signatures >>= λ ws. Ok (general_token t.payload ws))
unfolding general
general_from most n m t h =
    rw (h.payload, h.listed.1, zip_each spelled_element IsElement element_made 0 h.listed.0 t.signatures h.listed.2) refl

within_some : (most : ℕ) (p : List ℕ) (ws : List Spelled) → 0 < length ws → (within most ws >>= λ vs. Ok (general_token p vs)) ≡ Err fault.Members → ⊥
within_some most p [] some is = absurd (omega arith)
within_some most p (w ∷ ws) some is = by_size (nat_lt most (length (w ∷ ws))) is
  where
    by_size : (b : Bool) → (cond b (Err fault.TooManySignatures) (Ok (w ∷ ws)) >>= λ vs. Ok (general_token p vs)) ≡ Err fault.Members → ⊥
    by_size true is = cc is
    by_size false is = cc is

no_general : (most : ℕ) (m : Members) → general most m ≡ Err fault.Members → (n : ℕ) (t : SpelledToken) → IsGeneral n m t → ⊥
no_general most m is n t h = within_some most t.payload t.signatures h.some (sym (general_from most n m t h) ∙ is)

abbrev pub JsonFault : ℕ → Members → FormFault → Type 0
JsonFault most m e =
    ((fault.Encrypted ≡ e) × (has (codes "ciphertext") m ≡ true))
    ⊎ ((has (codes "ciphertext") m ≡ false) × (((fault.Members ≡ e) × ((n : ℕ) (t : SpelledToken) → ¬ (IsGeneral n m t ⊎ IsFlattened m t)))
    ⊎ ((fault.TooManySignatures ≡ e) × ((n : ℕ) × (t : SpelledToken) × IsGeneral n m t × (most < length t.signatures)))))

pub json_fault : (most : ℕ) (m : Members) (e : FormFault) → json_of most m ≡ Err e → JsonFault most m e
unfolding json_of
json_fault most m e is = by_members (has (codes "ciphertext") m) (has (codes "signature") m) (has (codes "signatures") m) refl refl refl is
  where
    shape : (s ss : Bool) → has (codes "signature") m ≡ s → has (codes "signatures") m ≡ ss
        → (s ≡ false → (n : ℕ) (t : SpelledToken) → IsGeneral n m t → ⊥) → (ss ≡ false → (t : SpelledToken) → IsFlattened m t → ⊥)
        → (n : ℕ) (t : SpelledToken) → (IsGeneral n m t ⊎ IsFlattened m t) → ⊥
    shape s ss s_is ss_is general_not flat_not n t (inl g) = general_not (sym s_is ∙ g.one_at_the_top) n t g
    shape s ss s_is ss_is general_not flat_not n t (inr f) = flat_not (sym ss_is ∙ f.alone) t f

    one_at_top : (t : SpelledToken) → IsFlattened m t → has (codes "signature") m ≡ true
    one_at_top t f = has_text (codes "signature") m f.signature.0.signature f.signature.2.signature

    by_members : (c s ss : Bool) → has (codes "ciphertext") m ≡ c → has (codes "signature") m ≡ s → has (codes "signatures") m ≡ ss
        → json_by c s ss (flattened m) (general most m) ≡ Err e → JsonFault most m e
    by_members true s ss c_is s_is ss_is is = inl (cc is, c_is)
    by_members false true true c_is s_is ss_is is = inr (c_is, inl (cc is, shape true true s_is ss_is (λ wrong. absurd cc) (λ wrong. absurd cc)))
    by_members false true false c_is s_is ss_is is =
        inr (c_is, inl (flattened_fault m e is, shape true false s_is ss_is (λ wrong. absurd cc) (λ _ t f. let made = flattened_made m t f in cc (made, is))))
    by_members false false ss c_is s_is ss_is is = told (general_fault most m e s_is is)
      where
        told : GeneralFault most m e → JsonFault most m e
        told (inl f) =
            let none = no_general most m (subst (λ (x : FormFault). general most m ≡ Err x) (sym f) is) in
            inr (c_is, inl (f, shape false ss s_is ss_is (λ _ n t g. none n t g) (λ _ t flat. let there = one_at_top t flat in cc (there, s_is))))
        told (inr f) = inr (c_is, inr f)

-- ---- the whole

-- the law of the faults of an object text
abbrev pub ObjectFaultsLaw : Type 0
ObjectFaultsLaw = (t : List ℕ) → (object_of t ≡ Err text.NameTwice) ↔ ((ms : Members) × (reading t ≡ Some (object ms)) × (colons t ≢ members_entries ms))

-- octets that are refused by another fault than a doubled name are read as no object
not_read : ObjectLaw → ObjectFaultsLaw → (z : List ℕ) (d : TextFault) → object_of z ≡ Err d → d ≢ text.NameTwice → (m : Members) → reading z ≡ Some (object m) → ⊥
not_read objects twice z d is other m read = elim (cases_eq (colons z) (members_entries m)) [
  | inl same ↦ (let made = (objects z m).1 (read, same) in cc (made, is))
  | inr differ ↦ (let made = (twice z).1 (m, read, differ) in other (cc (made, is)))
]

read_as_err : (r : Result Members TextFault) (e : FormFault) → read_as r ≡ Err e
    → ((fault.NameTwice ≡ e) × (r ≡ Err text.NameTwice)) ⊎ ((fault.Json ≡ e) × ((d : TextFault) × (r ≡ Err d) × (d ≢ text.NameTwice)))
read_as_err (Ok x) e is = absurd cc
read_as_err (Err text.OutOfMemory) e is = inr (cc is, (text.OutOfMemory, refl, λ wrong. cc wrong))
read_as_err (Err text.Read) e is = inr (cc is, (text.Read, refl, λ wrong. cc wrong))
read_as_err (Err text.TooLong) e is = inr (cc is, (text.TooLong, refl, λ wrong. cc wrong))
read_as_err (Err text.Base64) e is = inr (cc is, (text.Base64, refl, λ wrong. cc wrong))
read_as_err (Err text.Json) e is = inr (cc is, (text.Json, refl, λ wrong. cc wrong))
read_as_err (Err text.NotObject) e is = inr (cc is, (text.NotObject, refl, λ wrong. cc wrong))
read_as_err (Err text.NameTwice) e is = inl (cc is, refl)

object_fault : ObjectLaw → ObjectFaultsLaw → (most : ℕ) (z : List ℕ) (e : FormFault) → opens_object z ≡ true → read_as (object_of z) ≡ Err e → IsFormFault most z e
object_fault objects twice most z e brace is = told (read_as_err (object_of z) e is)
  where
    told : ((fault.NameTwice ≡ e) × (object_of z ≡ Err text.NameTwice)) ⊎ ((fault.Json ≡ e) × ((d : TextFault) × (object_of z ≡ Err d) × (d ≢ text.NameTwice))) → IsFormFault most z e
    told (inl f) = subst (IsFormFault most z) f.0 (brace, (twice z).0 f.1)
    told (inr f) = subst (IsFormFault most z) f.0 (brace, not_read objects twice z f.1.0 f.1.1 f.1.2)

members_fault : (most : ℕ) (z : List ℕ) (m : Members) (e : FormFault) → opens_object z ≡ true → IsObjectText z m → json_of most m ≡ Err e → IsFormFault most z e
members_fault most z m e brace text is = told (json_fault most m e is)
  where
    told : JsonFault most m e → IsFormFault most z e
    told (inl f) = subst (IsFormFault most z) f.0 (inr (brace, (m, text, f.1)))
    told (inr (clear, inl f)) = subst (IsFormFault most z) f.0 (m, (brace, text, clear), f.1)
    told (inr (clear, inr f)) = subst (IsFormFault most z) f.0 (m, (brace, text, clear), f.1)

spelled_token_fault : ObjectLaw → ObjectFaultsLaw → (most : ℕ) (z : List ℕ) (e : FormFault) → z ≢ [] → spelled_token most z ≡ Err e → IsFormFault most z e
unfolding spelled_token
spelled_token_fault objects twice most z e some is = by_brace (opens_object z) refl is
  where
    by_brace : (b : Bool) → opens_object z ≡ b → cond b (read_as (object_of z) >>= json_of most) (compact z) ≡ Err e → IsFormFault most z e
    by_brace true brace is =
        bind_err (IsFormFault most z e) (read_as (object_of z)) (json_of most) e is
        (object_fault objects twice most z e brace)
        (λ m m_is after. members_fault most z m e brace ((objects z m).0 (read_as_ok (object_of z) m m_is)) after)
    by_brace false closed is = compact_fault most z e some closed is

token_fault : SpellsLaw → ObjectLaw → (most : ℕ) (z : List ℕ) (w : SpelledToken) (e : FormFault) → spelled_token most z ≡ Ok w → signed_of w ≡ Err e → IsFormFault most z e
unfolding signed_of
token_fault spells objects most z w e texts is =
    let form = spelled_token_read objects most z w texts in
    bind_err (IsFormFault most z e) (or_fault (fault.Base64 place.Payload) (spelled w.payload)) (λ p. each (signature_of w.form) 0 w.signatures >>= λ ss. Ok (made p ss)) e is
    (λ own.
    let f = or_fault_err (fault.Base64 place.Payload) (spelled w.payload) e own in
    subst (IsFormFault most z) f.0 (w, form, spells_nothing spells w.payload f.1))
    (λ p p_is after.
    let payload = (spells w.payload p).0 (or_fault_ok (fault.Base64 place.Payload) (spelled w.payload) p p_is) in
    bind_err (IsFormFault most z e) (each (signature_of w.form) 0 w.signatures) (λ ss. Ok (made p ss)) e after
    (λ own. signed_fault most z e (w, form, (p, payload), signatures_fault spells objects w.form w.signatures e own))
    (λ ss _ wrong. absurd cc))
  where
    made : List ℕ → List SignatureParts → Token
    made p ss = record { form = w.form; payload_text = w.payload; payload = p; signatures = ss }

pub form_fault : SpellsLaw → ObjectLaw → ObjectFaultsLaw → (most : ℕ) (z : List ℕ) (e : FormFault) → form_of most z ≡ Err e → IsFormFault most z e
unfolding form_of
form_fault spells objects twice most [] e is = let same : fault.Empty ≡ e = cc is in subst (IsFormFault most []) same refl
form_fault spells objects twice most (c ∷ cs) e is =
    bind_err (IsFormFault most (c ∷ cs) e) (spelled_token most (c ∷ cs)) signed_of e is
    (spelled_token_fault objects twice most (c ∷ cs) e (λ wrong. cc wrong))
    (λ w texts after. token_fault spells objects most (c ∷ cs) w e texts after)
