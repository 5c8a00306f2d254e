-- The three texts that two periods part.
use Rattle.std.proofs.Common.{◌≡◌, ℕ, ◌+◌, List, [], ◌∷◌, ◌++◌, length, length-append, subst, arith, Option, Some, None, Result, Ok, Err, refl, ap}
use Rattle.std.specs.List.{slice_split, join_with_byte}
use Rattle.std.proofs.lemmas.List.Splits.{join_with_byte-slice_split}
use Rattle.jwt_jws.specs.Forms.{CompactTexts, Spelled, SpelledToken, is_period, compact, compact_of, compact_texts, compact_token, three_texts}
use Rattle.jwt_jws.specs.declared.fault.FormFault.{FormFault}

abbrev first_texts : List ℕ → List Spelled → Option CompactTexts
first_texts p [] = None
first_texts p (s ∷ ss) = Some (record { protected = s.protected; payload = p; signature = s.signature })

abbrev texts_in : Result SpelledToken FormFault → Option CompactTexts
texts_in (Ok t) = first_texts t.payload t.signatures
texts_in (Err e) = None

three_read : (parts : List (List ℕ)) (h p g : List ℕ) → compact_of parts ≡ Ok (compact_token h p g) → three_texts parts ≡ Some (record { protected = h; payload = p; signature = g })
three_read [] h p g e = absurd cc
three_read (a ∷ []) h p g e = absurd cc
three_read (a ∷ b ∷ []) h p g e = absurd cc
three_read (a ∷ b ∷ c ∷ []) h p g e = ap texts_in e
three_read (a ∷ b ∷ c ∷ d ∷ []) h p g e = absurd cc
three_read (a ∷ b ∷ c ∷ d ∷ f ∷ []) h p g e = absurd cc
three_read (a ∷ b ∷ c ∷ d ∷ f ∷ x ∷ rest) h p g e = absurd cc

three_none : (parts : List (List ℕ)) (e : FormFault) → compact_of parts ≡ Err e → three_texts parts ≡ None
three_none [] e is = refl
three_none (a ∷ []) e is = refl
three_none (a ∷ b ∷ []) e is = refl
three_none (a ∷ b ∷ c ∷ []) e is = absurd cc
three_none (a ∷ b ∷ c ∷ d ∷ []) e is = refl
three_none (a ∷ b ∷ c ∷ d ∷ f ∷ []) e is = refl
three_none (a ∷ b ∷ c ∷ d ∷ f ∷ x ∷ rest) e is = refl

pub texts_read : (z h p g : List ℕ) → compact z ≡ Ok (compact_token h p g) → compact_texts z ≡ Some (record { protected = h; payload = p; signature = g })
unfolding compact
texts_read z h p g e = three_read (slice_split is_period z) h p g e

pub texts_none : (z : List ℕ) (e : FormFault) → compact z ≡ Err e → compact_texts z ≡ None
unfolding compact
texts_none z e is = three_none (slice_split is_period z) e is

-- ---- their lengths

three_sized : (parts : List (List ℕ)) (z : List ℕ) (t : CompactTexts) → join_with_byte 46 parts ≡ z → three_texts parts ≡ Some t
    → length t.protected + length t.payload + length t.signature + 2 ≡ length z
three_sized [] z t join e = absurd cc
three_sized (a ∷ []) z t join e = absurd cc
three_sized (a ∷ b ∷ []) z t join e = absurd cc
three_sized (h ∷ p ∷ g ∷ []) z t join e =
    let sized : length h + length p + length g + 2 ≡ length z = omega (arith, ap length join, length-append h (46 ∷ (p ++ 46 ∷ g)), length-append p (46 ∷ g)) in
    subst (λ (x : CompactTexts). length x.protected + length x.payload + length x.signature + 2 ≡ length z) (inside e) sized
  where
    inside : {A : Type 0} {x y : A} → Some x ≡ Some y → x ≡ y
    inside e = cc e
three_sized (a ∷ b ∷ c ∷ d ∷ rest) z t join e = absurd cc

pub texts_sized : (z : List ℕ) (t : CompactTexts) → compact_texts z ≡ Some t → length t.protected + length t.payload + length t.signature + 2 ≡ length z
texts_sized z t e = three_sized (slice_split is_period z) z t (join_with_byte-slice_split 46 z) e
