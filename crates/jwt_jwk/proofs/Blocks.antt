-- Where a block's body ends.
use Rattle.std.proofs.Common.{◌≡◌, ◌≢◌, ℕ, ◌+◌, ◌<◌, ◌≤◌, Bool, true, false, List, ◌++◌, length, get_or, take, drop, Result, Ok, Err, codes, refl, sym, ap, subst, ◌∙◌, arith, inl, inr}
use Rattle.std.proofs.lemmas.Bool.{cases_order}
use Rattle.std.proofs.lemmas.List.{take_at, drop_at, length-append, append_cancel_left, get_or_append_left, get_or-append-add}
use Rattle.std.specs.Prelude.{if◌then◌else◌}
use Rattle.jwt_jwk.specs.text_blocks.Pem.{begin_line, begins, end_line, is_open_ssh, is_private, label_at, trimmed, FaultBehind, IsFirstFault, IsOneFault, IsPlain, IsBlock, IsOneBlock}
use Rattle.jwt_jwk.specs.declared.text_blocks.fault.PemFault.{PemFault}
use Rattle.jwt_jwk.specs.declared.text_blocks.fault.PemFault.TheVariants as fault
use Rattle.jwt_jwk.specs.declared.text_blocks.label.Label.{Label}
use Rattle.jwt_jwk.specs.declared.text_blocks.label.Label.TheVariants.{PublicKey, RsaPublicKey}

-- the first hyphen of a text stands at n
pub record IsFirstHyphen (text : List ℕ) (n : ℕ) : Type 0 where
  pub within : n ≤ length text
  pub before : (k : ℕ) → k < n → get_or text k 0 ≢ 45
  pub found : n < length text → get_or text n 0 ≡ 45

hyphen_at : (label : Label) (rest : List ℕ) → get_or (end_line label ++ rest) 0 0 ≡ 45
hyphen_at PublicKey rest = refl
hyphen_at RsaPublicKey rest = refl

some_end : (label : Label) → 0 < length (end_line label)
some_end PublicKey = omega arith
some_end RsaPublicKey = omega arith

place : (label : Label) (body rest : List ℕ) (n : ℕ) → IsPlain body → IsFirstHyphen (body ++ (end_line label ++ rest)) n → n ≡ length body
place label body rest n plain first =
    let more : length body < length (body ++ (end_line label ++ rest)) = omega (arith, length-append body (end_line label ++ rest), length-append (end_line label) rest, some_end label) in
    elim (cases_order n (length body)) [
      | inl same ↦ same
      | inr other ↦ elim other [
        | inl below ↦ absurd (plain n below (sym (get_or_append_left body (end_line label ++ rest) 0 n below) ∙ first.found (omega arith)))
        | inr above ↦
            let end : length body + 0 ≡ length body = omega arith in
            absurd (first.before (length body) above (ap (λ (k : ℕ). get_or (body ++ (end_line label ++ rest)) k 0) (sym end) ∙ get_or-append-add body (end_line label ++ rest) 0 0 ∙ hyphen_at label rest))
      ]
    ]

-- a block that stands in a text is split there
pub split : (label : Label) (text begin after body rest : List ℕ) (n : ℕ) → begin ≡ begin_line label → text ≡ begin ++ after → IsFirstHyphen after n → IsPlain body
    → text ≡ begin_line label ++ (body ++ (end_line label ++ rest)) → (take n after ≡ body) × (drop n after ≡ end_line label ++ rest)
split label text begin after body rest n is starts first plain whole =
    let behind : after ≡ body ++ (end_line label ++ rest) = append_cancel_left (begin_line label) after (body ++ (end_line label ++ rest)) (ap (λ (b : List ℕ). b ++ after) (sym is) ∙ sym starts ∙ whole) in
    let here : IsFirstHyphen (body ++ (end_line label ++ rest)) n = subst (λ (t : List ℕ). IsFirstHyphen t n) behind first in
    let at = place label body rest n plain here in
    (ap (take n) behind ∙ take_at body (end_line label ++ rest) n (sym at), ap (drop n) behind ∙ drop_at body (end_line label ++ rest) n (sym at))

-- ---- the label at the front

begun : (l : Label) (rest : List ℕ) → label_at (begin_line l ++ rest) ≡ Ok l
unfolding label_at
begun PublicKey rest = refl
begun RsaPublicKey rest = refl

label_is : (l found : Label) (text rest : List ℕ) → text ≡ begin_line l ++ rest → label_at text ≡ Ok found → found ≡ l
label_is l found text rest e h = let same : label_at text ≡ Ok l = ap label_at e ∙ begun l rest in cc

-- the block that a text is stands where its blanks end, and has the label that was found there
pub at_start : (label found : Label) (octets text start : List ℕ) → start ≡ trimmed text → (one : IsOneBlock label octets text)
    → label_at start ≡ Ok found → (found ≡ label) × IsBlock found octets start one.rest
at_start label found octets text start is one named =
    let moved : IsBlock label octets start one.rest = subst (λ (t : List ℕ). IsBlock label octets t one.rest) (sym is) one.block in
    let same : found ≡ label = label_is label found start (moved.body ++ (end_line label ++ one.rest)) moved.parts named in
    (same, subst (λ (l : Label). IsBlock l octets start one.rest) (sym same) moved)

-- the block with which a text begins stands where its blanks end, and has the label that was found there
pub at_front : (label found : Label) (octets text start rest : List ℕ) → start ≡ trimmed text → IsBlock label octets (trimmed text) rest
    → label_at start ≡ Ok found → (found ≡ label) × IsBlock found octets start rest
at_front label found octets text start rest is block named =
    let moved : IsBlock label octets start rest = subst (λ (t : List ℕ). IsBlock label octets t rest) (sym is) block in
    let same : found ≡ label = label_is label found start (moved.body ++ (end_line label ++ rest)) moved.parts named in
    (same, subst (λ (l : Label). IsBlock l octets start rest) (sym same) moved)

-- a text that begins with no label begins with no block
pub unbegun : (label : Label) (octets text start rest : List ℕ) (why : PemFault) → start ≡ trimmed text → IsBlock label octets (trimmed text) rest → label_at start ≡ Err why → ⊥
unbegun label octets text start rest why is block h =
    let begins : label_at start ≡ Ok label = ap label_at (is ∙ block.parts) ∙ begun label (block.body ++ (end_line label ++ rest)) in cc

-- ---- why there is no label

chosen : (a b c d e : Bool) → (if a then Ok PublicKey else if b then Ok RsaPublicKey else if c then Err fault.PrivateKey else if d then Err fault.Certificate else if e then Err fault.OpenSsh else Err fault.Line) ≡ Err fault.Trailing → ⊥
chosen true b c d e h = cc
chosen false true c d e h = cc
chosen false false true d e h = cc
chosen false false false true e h = cc
chosen false false false false true h = cc
chosen false false false false false h = cc

none_trails : (text : List ℕ) → label_at text ≡ Err fault.Trailing → ⊥
unfolding label_at
none_trails text h =
    chosen (begins (begin_line PublicKey) text) (begins (begin_line RsaPublicKey) text) (is_private text) (begins (codes "-----BEGIN CERTIFICATE-----") text) (is_open_ssh text) h

behind_label : (text start : List ℕ) (f : PemFault) → start ≡ trimmed text → label_at start ≡ Err f → IsFirstFault text f
behind_label text start f is h = subst (λ (r : Result Label PemFault). FaultBehind r (trimmed text) f) (sym (ap label_at (sym is) ∙ h)) refl

pub one_fault : (text start : List ℕ) (f : PemFault) → start ≡ trimmed text → label_at start ≡ Err f → IsOneFault text f
one_fault text start fault.Trailing is h = absurd (none_trails start h)
one_fault text start fault.PrivateKey is h = behind_label text start fault.PrivateKey is h
one_fault text start fault.Certificate is h = behind_label text start fault.Certificate is h
one_fault text start fault.OpenSsh is h = behind_label text start fault.OpenSsh is h
one_fault text start fault.Line is h = behind_label text start fault.Line is h
one_fault text start fault.Base64 is h = behind_label text start fault.Base64 is h
one_fault text start fault.OutOfMemory is h = behind_label text start fault.OutOfMemory is h
