-- A cause that holds, where none before it does, is the fault that reading answers.
use Rattle.std.proofs.Common.{◌≡◌, ◌≢◌, ℕ, zero, suc, ◌+◌, ◌<◌, ◌⊎◌, inl, inr, true, false, List, [], ◌∷◌, length, Some, Result, Ok, Err, refl, sym, ap, subst, ◌∙◌, arith}
use Rattle.std.specs.Prelude.{codes, slice_get}
use Rattle.std.specs.List.{count_by, slice_split}
use Rattle.std.proofs.lemmas.Bool.{lt-ltb}
use Rattle.std.proofs.lemmas.List.Splits.{length-slice_split}
use Rattle.serde_json.specs.Data.{Members, no_members, object}
use Rattle.jwt_text.specs.Answers.{◌>>=◌, or_fault, each}
use Rattle.jwt_text.specs.Base64url.{Spells, spelling, spelled}
use Rattle.jwt_text.specs.Members.{has}
use Rattle.jwt_text.specs.ObjectText.{IsObjectText, reading, object_of}
use Rattle.jwt_text.specs.declared.fault.TextFault.{TextFault}
use Rattle.jwt_text.specs.declared.fault.TextFault.TheVariants as text
use Rattle.jwt_jws.specs.Forms.{Spelled, SpelledToken, is_period, compact_of, compact, within, json_of, read_as, protected_of, signature_of, signed_of, spelled_token, form_of, opens_object}
use Rattle.jwt_jws.specs.SignedToken.{IsGeneral, IsFlattened, IsSpelledToken, IsProtected}
use Rattle.jwt_jws.specs.FormFaults.{IsSignatureFault, IsFirstSignatureFault, IsFormFault}
use Rattle.jwt_jws.specs.declared.fault.Form.{Form}
use Rattle.jwt_jws.specs.declared.fault.Form.TheVariants.{Compact, General, Flattened}
use Rattle.jwt_jws.specs.declared.fault.FormFault.{FormFault}
use Rattle.jwt_jws.specs.declared.fault.FormFault.TheVariants as fault
use Rattle.jwt_jws.specs.declared.fault.Place.TheVariants as place
use Rattle.jwt_jws.proofs.SignedLaws.{SpellsLaw, ObjectLaw, header_read, protected_made, unprotected_made, signature_made, spelled_token_made, empty_is_none, json_read}
use Rattle.jwt_jws.proofs.FaultLaws.{ObjectFaultsLaw, JsonFault, json_fault, general_from, general_token}
use Rattle.jwt_jws.proofs.Shapes.{IsProtectedText, SpellsNothing}

-- what has no value has the fault
unread : {A E : Type 0} (f : FormFault) (r : Result A E) → ((x : A) → r ≡ Ok x → ⊥) → or_fault f r ≡ Err f
unread f (Ok x) none = absurd (none x refl)
unread f (Err e) none = refl

unspelled : SpellsLaw → (f : FormFault) (t : List ℕ) → SpellsNothing t → or_fault f (spelled t) ≡ Err f
unspelled spells f t none = unread f (spelled t) (λ octets is. none octets ((spells t octets).0 is))

empty_spells : Spells [] []
unfolding spelling
empty_spells = (λ i. omega arith, refl)

-- ---- the faults of a signature

text_unspelled : SpellsLaw → (i : ℕ) (t : List ℕ) → SpellsNothing t → header_read i t ≡ Err (fault.Base64 (place.Protected i))
text_unspelled spells i t none = rw (unspelled spells (fault.Base64 (place.Protected i)) t none) refl

protected_unspelled : SpellsLaw → (form : Form) (i : ℕ) (t : List ℕ) → SpellsNothing t → protected_of form i t ≡ Err (fault.Base64 (place.Protected i))
unfolding protected_of
protected_unspelled spells Compact i t none = text_unspelled spells i t none
protected_unspelled spells General i [] none = absurd (none [] empty_spells)
protected_unspelled spells General i (c ∷ cs) none = text_unspelled spells i (c ∷ cs) none
protected_unspelled spells Flattened i [] none = absurd (none [] empty_spells)
protected_unspelled spells Flattened i (c ∷ cs) none = text_unspelled spells i (c ∷ cs) none

text_no_object : SpellsLaw → ObjectLaw → (i : ℕ) (t octets : List ℕ) → Spells t octets → ((p : Members) → ¬ IsProtectedText t p) → header_read i t ≡ Err (fault.Header i)
text_no_object spells objects i t octets s none =
    rw ((spells t octets).1 s) (unread (fault.Header i) (object_of octets) (λ p is. none p (octets, s, (objects octets p).0 is)))

protected_no_object : SpellsLaw → ObjectLaw → (form : Form) (i : ℕ) (t octets : List ℕ) → Spells t octets → ((p : Members) → ¬ IsProtected form t p)
    → protected_of form i t ≡ Err (fault.Header i)
unfolding protected_of
protected_no_object spells objects Compact i t octets s none = text_no_object spells objects i t octets s none
protected_no_object spells objects General i [] octets s none = absurd (none no_members refl)
protected_no_object spells objects General i (c ∷ cs) octets s none = text_no_object spells objects i (c ∷ cs) octets s none
protected_no_object spells objects Flattened i [] octets s none = absurd (none no_members refl)
protected_no_object spells objects Flattened i (c ∷ cs) octets s none = text_no_object spells objects i (c ∷ cs) octets s none

signature_cause : SpellsLaw → ObjectLaw → (form : Form) (i : ℕ) (w : Spelled) (e : FormFault) → IsSignatureFault form i w e → signature_of form i w ≡ Err e
unfolding signature_of
signature_cause spells objects form i w (fault.Base64 (place.Protected k)) h = rw (h.0, protected_unspelled spells form i w.protected h.1) refl
signature_cause spells objects form i w (fault.Header k) h = rw (h.0, protected_no_object spells objects form i w.protected h.1.0 h.1.1 h.2) refl
signature_cause spells objects form i w (fault.UnprotectedKind k) h = rw (h.0, protected_made spells objects form i w.protected h.1.0 h.1.1, h.2) refl
signature_cause spells objects form i w (fault.NamesOverlap k) (k_is, (p, u, headers, twice)) =
    rw (k_is, protected_made spells objects form i w.protected p headers.protected, unprotected_made i w.header u headers.unprotected, twice) refl
signature_cause spells objects form i w (fault.Base64 (place.Signature k)) (k_is, (p, u, headers, once), none) =
    rw (k_is, protected_made spells objects form i w.protected p headers.protected, unprotected_made i w.header u headers.unprotected, once, unspelled spells (fault.Base64 (place.Signature i)) w.signature none) refl
signature_cause spells objects form i w (fault.Base64 place.Payload) h = absurd h
signature_cause spells objects form i w fault.OutOfMemory h = absurd h
signature_cause spells objects form i w fault.Empty h = absurd h
signature_cause spells objects form i w fault.Encrypted h = absurd h
signature_cause spells objects form i w fault.Segments h = absurd h
signature_cause spells objects form i w fault.Json h = absurd h
signature_cause spells objects form i w fault.NameTwice h = absurd h
signature_cause spells objects form i w fault.Members h = absurd h
signature_cause spells objects form i w fault.TooManySignatures h = absurd h

-- the fault of the k-th element, where those before it have answers
each_cause : {A B : Type 0} (f : ℕ → A → Result B FormFault) (n k : ℕ) (xs : List A) (x : A) (e : FormFault) → slice_get xs k ≡ Some x → f (n + k) x ≡ Err e
    → ((j : ℕ) (y : A) → j < k → slice_get xs j ≡ Some y → (z : B) × (f (n + j) y ≡ Ok z)) → each f n xs ≡ Err e
each_cause f n k [] x e is fault before = cc is
each_cause f n zero (a ∷ xs) x e is fault before =
    let same : a ≡ x = cc is in
    let here : f n a ≡ Err e = rw same (subst (λ (m : ℕ). f m x ≡ Err e) (omega arith) fault) in
    rw here refl
each_cause f n (suc k) (a ∷ xs) x e is fault before =
    let first = before zero a (omega arith) refl in
    let here : f n a ≡ Ok first.0 = subst (λ (m : ℕ). f m a ≡ Ok first.0) (omega arith) first.1 in
    let rest = each_cause f (n + 1) k xs x e is (subst (λ (m : ℕ). f m x ≡ Err e) (omega arith) fault)
    (λ j y lt there. let b = before (suc j) y (omega (arith, lt)) there in (b.0, subst (λ (m : ℕ). f m y ≡ Ok b.0) (omega arith) b.1)) in
    rw (here, rest) refl

signatures_cause : SpellsLaw → ObjectLaw → (form : Form) (ws : List Spelled) (e : FormFault) → IsFirstSignatureFault form ws e → each (signature_of form) 0 ws ≡ Err e
signatures_cause spells objects form ws e (i, w, is, fault, before) =
    let zero_and : (k : ℕ) → k ≡ 0 + k = λ k. omega arith in
    each_cause (signature_of form) 0 i ws w e is (subst (λ (k : ℕ). signature_of form k w ≡ Err e) (zero_and i) (signature_cause spells objects form i w e fault))
    (λ k v lt there. let s = before k v lt there in (s.0, signature_made spells objects form (0 + k) v s.0 s.1))

-- ---- the texts of a token

segments_cause : (parts : List (List ℕ)) → length parts ≢ 3 → length parts ≢ 5 → compact_of parts ≡ Err fault.Segments
segments_cause [] three five = refl
segments_cause (a ∷ []) three five = refl
segments_cause (a ∷ b ∷ []) three five = refl
segments_cause (a ∷ b ∷ c ∷ []) three five = absurd (three refl)
segments_cause (a ∷ b ∷ c ∷ d ∷ []) three five = refl
segments_cause (a ∷ b ∷ c ∷ d ∷ f ∷ []) three five = absurd (five refl)
segments_cause (a ∷ b ∷ c ∷ d ∷ f ∷ x ∷ rest) three five = refl

encrypted_cause : (parts : List (List ℕ)) → length parts ≡ 5 → compact_of parts ≡ Err fault.Encrypted
encrypted_cause [] five = absurd (omega (arith, five))
encrypted_cause (a ∷ []) five = absurd (omega (arith, five))
encrypted_cause (a ∷ b ∷ []) five = absurd (omega (arith, five))
encrypted_cause (a ∷ b ∷ c ∷ []) five = absurd (omega (arith, five))
encrypted_cause (a ∷ b ∷ c ∷ d ∷ []) five = absurd (omega (arith, five))
encrypted_cause (a ∷ b ∷ c ∷ d ∷ f ∷ []) five = refl
encrypted_cause (a ∷ b ∷ c ∷ d ∷ f ∷ x ∷ rest) five = absurd (omega (arith, five))

compact_segments : (z : List ℕ) → count_by is_period z ≢ 2 → count_by is_period z ≢ 4 → compact z ≡ Err fault.Segments
unfolding compact
compact_segments z two four =
    let counted = length-slice_split is_period z in
    segments_cause (slice_split is_period z) (λ three. two (omega (arith, counted, three))) (λ five. four (omega (arith, counted, five)))

compact_encrypted : (z : List ℕ) → count_by is_period z ≡ 4 → compact z ≡ Err fault.Encrypted
unfolding compact
compact_encrypted z four = let counted = length-slice_split is_period z in encrypted_cause (slice_split is_period z) (omega (arith, counted, four))

read_as_other : (d : TextFault) → d ≢ text.NameTwice → read_as (Err d) ≡ Err fault.Json
read_as_other text.OutOfMemory other = refl
read_as_other text.Read other = refl
read_as_other text.TooLong other = refl
read_as_other text.Base64 other = refl
read_as_other text.Json other = refl
read_as_other text.NotObject other = refl
read_as_other text.NameTwice other = absurd (other refl)

-- what is read as no object
no_object : ObjectLaw → ObjectFaultsLaw → (z : List ℕ) → ((m : Members) → reading z ≢ Some (object m)) → read_as (object_of z) ≡ Err fault.Json
no_object objects twice z none = go (object_of z) refl
  where
    go : (r : Result Members TextFault) → r ≡ object_of z → read_as r ≡ Err fault.Json
    go (Ok m) is = absurd (none m ((objects z m).0 (sym is)).0)
    go (Err d) is = read_as_other d (λ name_twice. let t = (twice z).0 (sym is ∙ ap Err name_twice) in none t.0 t.1)

over : (most : ℕ) (p : List ℕ) (ws : List Spelled) → 0 < length ws → most < length ws → (within most ws >>= λ vs. Ok (general_token p vs)) ≡ Err fault.TooManySignatures
over most p [] some many = absurd (omega (arith, some))
over most p (w ∷ ws) some many = rw (lt-ltb most (length (w ∷ ws)) many) refl

too_many : (most n : ℕ) (m : Members) (t : SpelledToken) → has (codes "ciphertext") m ≡ false → IsGeneral n m t → most < length t.signatures → json_of most m ≡ Err fault.TooManySignatures
unfolding json_of
too_many most n m t clear g many = rw (clear, g.one_at_the_top) (general_from most n m t g ∙ over most t.payload t.signatures g.some many)

wrong_members : (most : ℕ) (m : Members) → has (codes "ciphertext") m ≡ false → ((n : ℕ) (t : SpelledToken) → ¬ (IsGeneral n m t ⊎ IsFlattened m t)) → json_of most m ≡ Err fault.Members
wrong_members most m clear none = go (json_of most m) refl
  where
    told : (e : FormFault) → JsonFault most m e → e ≡ fault.Members
    told e (inl f) = let never = sym clear ∙ f.1 in cc never
    told e (inr (_, inl f)) = sym f.0
    told e (inr (_, inr (_, (n, t, g, _)))) = absurd (none n t (inl g))

    go : (r : Result SpelledToken FormFault) → r ≡ json_of most m → r ≡ Err fault.Members
    go (Ok t) is = absurd (none most t (json_read most m t (sym is)).1)
    go (Err e) is = ap Err (told e (json_fault most m e (sym is)))

encrypted_json : (most : ℕ) (m : Members) → has (codes "ciphertext") m ≡ true → json_of most m ≡ Err fault.Encrypted
unfolding json_of
encrypted_json most m there = rw there refl

json_cause : ObjectLaw → (most : ℕ) (z : List ℕ) (m : Members) (e : FormFault) → opens_object z ≡ true → IsObjectText z m → json_of most m ≡ Err e → spelled_token most z ≡ Err e
unfolding spelled_token
json_cause objects most z m e brace is fault = rw (brace, (objects z m).1 is) fault

unread_cause : (most : ℕ) (z : List ℕ) (e : FormFault) → opens_object z ≡ true → read_as (object_of z) ≡ Err e → spelled_token most z ≡ Err e
unfolding spelled_token
unread_cause most z e brace is = rw (brace, is) refl

compact_cause : (most : ℕ) (z : List ℕ) (e : FormFault) → opens_object z ≡ false → compact z ≡ Err e → spelled_token most z ≡ Err e
unfolding spelled_token
compact_cause most z e closed is = rw (closed, is) refl

-- ---- the whole

no_octets : (most : ℕ) (z : List ℕ) → z ≡ [] → form_of most z ≡ Err fault.Empty
unfolding form_of
no_octets most z h = rw h refl

some_texts : (most : ℕ) (z : List ℕ) (e : FormFault) → z ≢ [] → spelled_token most z ≡ Err e → form_of most z ≡ Err e
unfolding form_of
some_texts most [] e some is = absurd (some refl)
some_texts most (c ∷ cs) e some is = rw is refl

brace_some : (z : List ℕ) → opens_object z ≡ true → z ≢ []
brace_some [] brace = absurd cc
brace_some (c ∷ cs) brace = λ wrong. cc wrong

token_texts : ObjectLaw → (most : ℕ) (z : List ℕ) (w : SpelledToken) (e : FormFault) → IsSpelledToken most z w → signed_of w ≡ Err e → form_of most z ≡ Err e
unfolding form_of
token_texts objects most [] w e texts is = absurd (empty_is_none most w (spelled_token_made objects most [] w texts))
token_texts objects most (c ∷ cs) w e texts is = rw (spelled_token_made objects most (c ∷ cs) w texts) is

payload_cause : SpellsLaw → (w : SpelledToken) → SpellsNothing w.payload → signed_of w ≡ Err (fault.Base64 place.Payload)
unfolding signed_of
payload_cause spells w none = rw (unspelled spells (fault.Base64 place.Payload) w.payload none) refl

abbrev SignedFault : ℕ → List ℕ → FormFault → Type 0
SignedFault most z e = (w : SpelledToken) × IsSpelledToken most z w × ((octets : List ℕ) × Spells w.payload octets) × IsFirstSignatureFault w.form w.signatures e

signed_cause : SpellsLaw → ObjectLaw → (most : ℕ) (z : List ℕ) (e : FormFault) → SignedFault most z e → form_of most z ≡ Err e
unfolding signed_of
signed_cause spells objects most z e (w, texts, (octets, payload), first) =
    token_texts objects most z w e texts (rw ((spells w.payload octets).1 payload, signatures_cause spells objects w.form w.signatures e first) refl)

pub cause_fault : SpellsLaw → ObjectLaw → ObjectFaultsLaw → (most : ℕ) (z : List ℕ) (e : FormFault) → IsFormFault most z e → form_of most z ≡ Err e
cause_fault spells objects twice most z fault.Empty h = no_octets most z h
cause_fault spells objects twice most z fault.Segments (some, closed, (two, four)) =
    some_texts most z fault.Segments some (compact_cause most z fault.Segments closed (compact_segments z two four))
cause_fault spells objects twice most z fault.Encrypted (inl (some, closed, four)) =
    some_texts most z fault.Encrypted some (compact_cause most z fault.Encrypted closed (compact_encrypted z four))
cause_fault spells objects twice most z fault.Encrypted (inr (brace, (m, is, there))) =
    some_texts most z fault.Encrypted (brace_some z brace) (json_cause objects most z m fault.Encrypted brace is (encrypted_json most m there))
cause_fault spells objects twice most z fault.Json (brace, none) =
    some_texts most z fault.Json (brace_some z brace) (unread_cause most z fault.Json brace (no_object objects twice z none))
cause_fault spells objects twice most z fault.NameTwice (brace, doubled) =
    some_texts most z fault.NameTwice (brace_some z brace) (unread_cause most z fault.NameTwice brace (rw ((twice z).1 doubled) refl))
cause_fault spells objects twice most z fault.Members (m, (brace, is, clear), none) =
    some_texts most z fault.Members (brace_some z brace) (json_cause objects most z m fault.Members brace is (wrong_members most m clear none))
cause_fault spells objects twice most z fault.TooManySignatures (m, (brace, is, clear), (n, t, g, many)) =
    some_texts most z fault.TooManySignatures (brace_some z brace) (json_cause objects most z m fault.TooManySignatures brace is (too_many most n m t clear g many))
cause_fault spells objects twice most z (fault.Base64 place.Payload) (w, texts, none) =
    token_texts objects most z w (fault.Base64 place.Payload) texts (payload_cause spells w none)
cause_fault spells objects twice most z (fault.Base64 (place.Protected i)) h = signed_cause spells objects most z (fault.Base64 (place.Protected i)) h
cause_fault spells objects twice most z (fault.Base64 (place.Signature i)) h = signed_cause spells objects most z (fault.Base64 (place.Signature i)) h
cause_fault spells objects twice most z (fault.Header i) h = signed_cause spells objects most z (fault.Header i) h
cause_fault spells objects twice most z (fault.UnprotectedKind i) h = signed_cause spells objects most z (fault.UnprotectedKind i) h
cause_fault spells objects twice most z (fault.NamesOverlap i) h = signed_cause spells objects most z (fault.NamesOverlap i) h
cause_fault spells objects twice most z fault.OutOfMemory h = signed_cause spells objects most z fault.OutOfMemory h
