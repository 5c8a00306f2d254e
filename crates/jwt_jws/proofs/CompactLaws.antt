-- The reader of compact form against its form.
use Rattle.std.proofs.Common.{◌≡◌, ℕ, Bool, true, false, cond, List, [], ◌∷◌, ◌++◌, Some, Ok, refl, sym, ap, subst, ◌∙◌}
use Rattle.std.specs.Prelude.{All}
use Rattle.std.specs.List.{slice_split, onto_first, join_with_byte}
use Rattle.std.proofs.lemmas.List.Splits.{slice_split_at, slice_split_none, join_with_byte-slice_split}
use Rattle.std.proofs.lemmas.List.Elements.{All-nil, All-cons, All-head, All-tail}
use Rattle.jwt_jws.specs.Forms.{SpelledToken, CompactTexts, is_period, compact, compact_of, compact_texts, compact_token, three_texts}
use Rattle.jwt_jws.specs.CompactForm.{IsCompact, ReadsCompact, IsReadCompact, PartsCompact}
use Rattle.jwt_jws.proofs.Shapes.{HasNoPeriod}
use Rattle.jwt_jws.proofs.Texts.{texts_read}

pub reads_compact : ReadsCompact
unfolding compact
reads_compact z h p g is =
    let parts : slice_split is_period z ≡ h ∷ p ∷ g ∷ [] = rw (is.joined, slice_split_at is_period h 46 (p ++ 46 ∷ g) is.protected refl, slice_split_at is_period p 46 g is.payload refl, slice_split_none is_period g is.signature) refl in
    rw parts refl

abbrev NotPeriod : ℕ → Type 0
NotPeriod c = is_period c ≡ false

onto_first_free : (x : ℕ) (parts : List (List ℕ)) → is_period x ≡ false → All HasNoPeriod parts → All HasNoPeriod (onto_first x parts)
onto_first_free x [] no_dot h = All-cons HasNoPeriod (x ∷ []) [] (All-cons NotPeriod x [] no_dot (All-nil NotPeriod)) (All-nil HasNoPeriod)
onto_first_free x (part ∷ parts) no_dot h = All-cons HasNoPeriod (x ∷ part) parts (All-cons NotPeriod x part no_dot (All-head HasNoPeriod part parts h)) (All-tail HasNoPeriod part parts h)

parts_step : (b : Bool) (x : ℕ) (xs : List ℕ) → is_period x ≡ b → All HasNoPeriod (slice_split is_period xs) → All HasNoPeriod (cond b ([] ∷ slice_split is_period xs) (onto_first x (slice_split is_period xs)))
parts_step true x xs e h = All-cons HasNoPeriod [] (slice_split is_period xs) (All-nil NotPeriod) h
parts_step false x xs e h = onto_first_free x (slice_split is_period xs) e h

parts_free : (z : List ℕ) → All HasNoPeriod (slice_split is_period z)
parts_free [] = All-cons HasNoPeriod [] [] (All-nil NotPeriod) (All-nil HasNoPeriod)
parts_free (x ∷ xs) = parts_step (is_period x) x xs refl (parts_free xs)

three_parts : (parts : List (List ℕ)) (t : SpelledToken) → compact_of parts ≡ Ok t → (h p g : List ℕ) × (parts ≡ h ∷ p ∷ g ∷ []) × (t ≡ compact_token h p g)
three_parts [] t e = absurd cc
three_parts (a ∷ []) t e = absurd cc
three_parts (a ∷ b ∷ []) t e = absurd cc
three_parts (h ∷ p ∷ g ∷ []) t e = (h, p, g, refl, cc)
three_parts (a ∷ b ∷ c ∷ d ∷ []) t e = absurd cc
three_parts (a ∷ b ∷ c ∷ d ∷ f ∷ []) t e = absurd cc
three_parts (a ∷ b ∷ c ∷ d ∷ f ∷ x ∷ rest) t e = absurd cc

pub is_read_compact : IsReadCompact
unfolding compact
is_read_compact z t closed e =
    let w = three_parts (slice_split is_period z) t e in
    let free : All HasNoPeriod (w.0 ∷ w.1 ∷ w.2 ∷ []) = subst (λ (ps : List (List ℕ)). All HasNoPeriod ps) w.3 (parts_free z) in
    let rest = All-tail HasNoPeriod w.0 (w.1 ∷ w.2 ∷ []) free in
    let last = All-tail HasNoPeriod w.1 (w.2 ∷ []) rest in
    let whole : join_with_byte 46 (slice_split is_period z) ≡ z = join_with_byte-slice_split 46 z in
    (w.0, w.1, w.2, record { joined = sym (rw w.3 at whole); protected = All-head HasNoPeriod w.0 (w.1 ∷ w.2 ∷ []) free; payload = All-head HasNoPeriod w.1 (w.2 ∷ []) rest; signature = All-head HasNoPeriod w.2 [] last; no_object = closed }, w.4)

inside : {A : Type 0} {x y : A} → Some x ≡ Some y → x ≡ y
inside e = cc e

three_are : (parts : List (List ℕ)) (h p g : List ℕ) → three_texts parts ≡ Some (record { protected = h; payload = p; signature = g }) → compact_of parts ≡ Ok (compact_token h p g)
three_are [] h p g e = absurd cc
three_are (a ∷ []) h p g e = absurd cc
three_are (a ∷ b ∷ []) h p g e = absurd cc
three_are (a ∷ b ∷ c ∷ []) h p g e = ap (λ (t : CompactTexts). Ok (compact_token t.protected t.payload t.signature)) (inside e)
three_are (a ∷ b ∷ c ∷ d ∷ rest) h p g e = absurd cc

texts_are : (z h p g : List ℕ) → compact_texts z ≡ Some (record { protected = h; payload = p; signature = g }) → compact z ≡ Ok (compact_token h p g)
unfolding compact
texts_are z h p g e = three_are (slice_split is_period z) h p g e

pub parts_compact : PartsCompact
parts_compact z h p g closed = (
  λ e. made e (is_read_compact z (compact_token h p g) closed (texts_are z h p g e)),
  λ is. texts_read z h p g (reads_compact z h p g is),
)
  where
    made : compact_texts z ≡ Some (record { protected = h; payload = p; signature = g })
        → (a b c : List ℕ) × IsCompact z a b c × (compact_token h p g ≡ compact_token a b c) → IsCompact z h p g
    made e (a, b, c, is, same) =
        subst (λ (t : CompactTexts). IsCompact z t.protected t.payload t.signature) (inside (sym (texts_read z a b c (reads_compact z a b c is)) ∙ e)) is
