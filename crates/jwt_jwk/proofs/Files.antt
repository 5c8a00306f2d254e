-- Files of several keys.
use Rattle.std.proofs.Common.{◌≡◌, ℕ, zero, suc, ◌-◌, ◌<◌, ◌≤◌, Bool, true, false, inr, codes, List, [], ◌∷◌, ◌++◌, length, Option, Result, Ok, Err, refl, sym, ap, subst, ◌∙◌, append_assoc, append-nil, arith}
use Rattle.std.specs.Prelude.{IfErr, IfOk, OnOk}
use Rattle.jwt_mac.specs.Verifying.{KeyOctets}
use Rattle.jwt_jwk.specs.der.Der.{AreOctets, IsPublicKey}
use Rattle.jwt_jwk.specs.text_blocks.Pem.{IsBlock, IsFirstFault, IsOneBlock, IsOneFault, trimmed}
use Rattle.jwt_jwk.specs.declared.text_blocks.fault.PemFault.{PemFault}
use Rattle.jwt_jwk.specs.declared.text_blocks.fault.PemFault.TheVariants as pem
use Rattle.jwt_jwk.specs.declared.text_blocks.label.Label.{Label}
use Rattle.jwt_jwk.specs.declared.text_blocks.label.Label.TheVariants.{PublicKey, RsaPublicKey}
use Rattle.jwt_jwk.specs.declared.fault.JwkFault.{JwkFault}
use Rattle.jwt_jwk.specs.declared.fault.JwkFault.TheVariants.{Pem, Key, TooManyKeys, OutOfMemory}
use Rattle.jwt_jwk.specs.Faults.{of_both, pem_fault}
use Rattle.jwt_jwk.specs.Jwk.{ReadsAsKey, jwk_text}
use Rattle.jwt_jwk.specs.Sets.{AreRead, IsJwkSet, jwk_texts, set_text}
use Rattle.jwt_jwk.specs.Refusals.{IsDerFault, IsFault, IsKeyFault, IsNextFault, IsPemFault, IsSetFault, reading_of}
use Rattle.jwt_jwk.specs.Converted.{Adds, IsEncoding, IsFileOf, IsFirst, IsJwkOfBlock, IsSetOf}
use Rattle.jwt_jwk.proofs.ReadBack.{ObjectTexts, QuotedTexts}
use Rattle.jwt_jwk.proofs.SetReadBack.{set_is, set_of_keys}
use Rattle.serde_json.specs.Written.{comma_if}

pub on_ok : {A E : Type 0} (r : Result A E) (P Q : Type 0) → (P → Q) → OnOk r P → OnOk r Q
on_ok (Ok x) P Q f h = f h
on_ok (Err e) P Q f h = tt

pub if_ok : {A E : Type 0} (r : Result A E) (P Q : A → Type 0) → ((x : A) → P x → Q x) → IfOk r P → IfOk r Q
if_ok (Ok x) P Q f h = f x h
if_ok (Err e) P Q f h = tt

pub on_err : {A E : Type 0} (r : Result A E) (P Q : E → Type 0) → ((e : E) → P e → Q e) → IfErr r P → IfErr r Q
on_err (Ok x) P Q f h = tt
on_err (Err e) P Q f h = f e h

-- what the first block is, as `first_block` says it
abbrev pub IsFound : List ℕ → Label → List ℕ → List ℕ → Type 0
IsFound text found items after = (label : Label) (octets rest : List ℕ) → AreOctets octets → IsBlock label octets (trimmed text) rest
    → (found ≡ label) × ((items ≡ octets) × (after ≡ rest))

above : (n : ℕ) → (n ≡ 0 → ⊥) → 0 < n
above zero some = absurd (some refl)
above (suc n) some = omega arith

-- a key set of the keys of a file, which has one
set_with : QuotedTexts → ObjectTexts → (kid : KeyOctets → Option (List ℕ)) (alg : Option (List ℕ)) (pem text : List ℕ) (keys : List KeyOctets) → (trimmed pem ≡ [] → ⊥)
    → IsFileOf keys pem → AreRead kid alg keys → length keys ≤ 1024 → text ≡ set_text (jwk_texts false kid alg keys) → IsSetOf pem kid alg text
set_with quotes objects kid alg pem text [] some file each few set = absurd (some file)
set_with quotes objects kid alg pem text (key ∷ keys) some file each few set = record {
  first = key;
  others = keys;
  few = omega (arith, few);
  file = file;
  set = set_of_keys quotes objects kid alg (key ∷ keys) text few each (set ∙ set_is kid alg (key ∷ keys));
}

pub whole_set : QuotedTexts → ObjectTexts → (kid : KeyOctets → Option (List ℕ)) (alg : Option (List ℕ)) (pem before after text : List ℕ) → before ≡ codes "{\"keys\":[" → (trimmed pem ≡ [] → ⊥)
    → Adds false kid alg 1024 pem before after → text ≡ after ++ codes "]}" → IsSetOf pem kid alg text
whole_set quotes objects kid alg pem before after text is some all ends =
    let texts = jwk_texts false kid alg all.keys in
    set_with quotes objects kid alg pem text all.keys some all.file all.each all.few
    (ends ∙ ap (λ (s : List ℕ). s ++ codes "]}") (all.appended ∙ ap (λ (s : List ℕ). s ++ texts) is) ∙ append_assoc (codes "{\"keys\":[") texts (codes "]}"))

-- the key set of a key's JWK
pub set_of_one : QuotedTexts → ObjectTexts → (kid : KeyOctets → Option (List ℕ)) (alg : Option (List ℕ)) (key : KeyOctets) (jwk : List ℕ) → jwk ≡ jwk_text (kid key) alg key
    → ReadsAsKey (kid key) alg key jwk → (text : List ℕ) → text ≡ set_text jwk → IsJwkSet kid alg (key ∷ []) text
set_of_one quotes objects kid alg key jwk is reads text around =
    let alone = append-nil (jwk_text (kid key) alg key) in
    set_of_keys quotes objects kid alg (key ∷ []) text (omega arith) (subst (ReadsAsKey (kid key) alg key) is reads, tt)
    (around ∙ ap set_text (is ∙ sym alone) ∙ set_is kid alg (key ∷ []))

-- ---- why not all of a file is taken

pub told : (text : List ℕ) (f : PemFault) → IsOneFault text f → IsPemFault text (pem_fault f)
told text pem.PrivateKey h = h
told text pem.Certificate h = h
told text pem.OpenSsh h = h
told text pem.Line h = h
told text pem.Trailing h = h
told text pem.Base64 h = h
told text pem.OutOfMemory h = tt

told_next : (left : ℕ) (text : List ℕ) (f : PemFault) → (left ≡ 0 → ⊥) → IsFirstFault text f → IsNextFault left text (pem_fault f)
told_next left text pem.PrivateKey some h = (some, h)
told_next left text pem.Certificate some h = (some, h)
told_next left text pem.OpenSsh some h = (some, h)
told_next left text pem.Line some h = (some, h)
told_next left text pem.Trailing some h = (some, h)
told_next left text pem.Base64 some h = (some, h)
told_next left text pem.OutOfMemory some h = tt

-- the fault of what stands at the front
pub at_once : (most : ℕ) (text : List ℕ) (fault : JwkFault) → (trimmed text ≡ [] → ⊥) → IsNextFault most text fault → IsFault most text fault
at_once most text fault some next =
    let all : most ≡ most - length {A = KeyOctets} [] = omega arith in
    record { keys = []; few = omega arith; rest = text; first = refl; some = some; next = subst (λ (n : ℕ). IsNextFault n text fault) all next }

pub no_block : (most : ℕ) (text : List ℕ) (f : PemFault) → (trimmed text ≡ [] → ⊥) → (most ≡ 0 → ⊥) → IsFirstFault text f → IsFault most text (pem_fault f)
no_block most text f some left h = at_once most text (pem_fault f) some (told_next most text f left h)

pub first_made : (label : Label) (octets lent text rest jwk : List ℕ) (kid : KeyOctets → Option (List ℕ)) (alg : Option (List ℕ)) → AreOctets octets
    → IsBlock label octets (trimmed text) rest → lent ≡ octets → (made : IsJwkOfBlock label lent kid alg jwk) → IsFirst made.key text rest
first_made label octets lent text rest jwk kid alg are block same made =
    record { label = label; octets = octets; are = are; public = made.public; encoded = subst (λ (o : List ℕ). IsEncoding label made.key o) same made.encoded; block = block }

-- the fault of what stands behind the first key
pub behind_first : (most : ℕ) (text rest : List ℕ) (key : KeyOctets) (fault : JwkFault) → (most ≡ 0 → ⊥) → IsFirst key text rest → IsFault (most - 1) rest fault → IsFault most text fault
behind_first most text rest key fault left first more =
    let fewer : most - 1 - length more.keys ≡ most - length (key ∷ more.keys) = omega arith in
    record {
      keys = key ∷ more.keys;
      few = omega (arith, more.few, above most left);
      rest = more.rest;
      first = (rest, first, more.first);
      some = more.some;
      next = subst (λ (n : ℕ). IsNextFault n more.rest fault) fewer more.next;
    }

-- the fault of the first key
pub bad_key : (most : ℕ) (text : List ℕ) (label : Label) (octets lent rest : List ℕ) (fault : JwkFault) → (trimmed text ≡ [] → ⊥) → (most ≡ 0 → ⊥)
    → IsBlock label octets (trimmed text) rest → lent ≡ octets → IsKeyFault label lent fault → IsFault most text fault
bad_key most text label octets lent rest (Pem f) some left block same h = absurd h
bad_key most text label octets lent rest (Key r) some left block same h =
    at_once most text (Key r) some (left, (label, octets, rest, block, ap (reading_of label) (sym same) ∙ h))
bad_key most text label octets lent rest TooManyKeys some left block same h = absurd h
bad_key most text label octets lent rest OutOfMemory some left block same h = at_once most text OutOfMemory some tt

pub bad_key_alone : (text : List ℕ) (label : Label) (octets lent : List ℕ) (fault : JwkFault) → IsOneBlock label octets text → lent ≡ octets → IsKeyFault label lent fault → IsPemFault text fault
bad_key_alone text label octets lent (Pem f) block same h = absurd h
bad_key_alone text label octets lent (Key r) block same h = (label, octets, block, ap (reading_of label) (sym same) ∙ h)
bad_key_alone text label octets lent TooManyKeys block same h = absurd h
bad_key_alone text label octets lent OutOfMemory block same h = tt

pub of_set : (text : List ℕ) (fault : JwkFault) → IsFault 1024 text fault → IsSetFault text fault
of_set text (Pem f) h = inr h
of_set text (Key r) h = inr h
of_set text TooManyKeys h = inr h
of_set text OutOfMemory h = tt

pub both_faults : (octets : List ℕ) (first second : JwkFault) → IsDerFault octets first → IsDerFault octets (of_both first second)
both_faults octets first (Pem f) h = h
both_faults octets first (Key r) h = h
both_faults octets first TooManyKeys h = h
both_faults octets first OutOfMemory h = tt

-- one JWK is appended, and then those of the keys behind
pub one_more : (later : Bool) (kid : KeyOctets → Option (List ℕ)) (alg : Option (List ℕ)) (label : Label) (octets lent text rest jwk lent_jwk before between after : List ℕ)
    → AreOctets octets → IsBlock label octets (trimmed text) rest → lent ≡ octets → IsJwkOfBlock label lent kid alg jwk → lent_jwk ≡ jwk
    → between ≡ before ++ (comma_if later ++ lent_jwk) → (left : ℕ) → (left ≡ 0 → ⊥) → Adds true kid alg (left - 1) rest between after → Adds later kid alg left text before after
one_more later kid alg label octets lent text rest jwk lent_jwk before between after are block same made same_jwk pushed left some more =
    let one = jwk_text (kid made.key) alg made.key in
    let others = jwk_texts true kid alg more.keys in
    record {
      keys = made.key ∷ more.keys;
      few = omega (arith, more.few, above left some);
      file = (rest, record { label = label; octets = octets; are = are; public = made.public; encoded = subst (λ (o : List ℕ). IsEncoding label made.key o) same made.encoded; block = block }, more.file);
      each = (subst (ReadsAsKey (kid made.key) alg made.key) made.is made.read, more.each);
      appended = more.appended ∙ ap (λ (s : List ℕ). s ++ others) (pushed ∙ ap (λ (j : List ℕ). before ++ (comma_if later ++ j)) (same_jwk ∙ made.is))
          ∙ append_assoc before (comma_if later ++ one) others ∙ ap (λ (s : List ℕ). before ++ s) (append_assoc (comma_if later) one others);
    }

-- the key of the first block
pub first_key : (keys : List KeyOctets) (text lent : List ℕ) (found : Label) (items after : List ℕ) (R : Type 0) → IsFileOf keys text → (trimmed text ≡ [] → ⊥) → IsFound text found items after
    → lent ≡ items → ((key : KeyOctets) → IsPublicKey key → IsEncoding found key lent → R) → R
first_key [] text lent found items after R file some is same inner = absurd (some file)
first_key (key ∷ keys) text lent found items after R file some is same inner =
    let first = file.1 in
    let at = is first.label first.octets file.0 first.are first.block in
    inner key first.public (subst (λ (l : Label). IsEncoding l key lent) (sym at.0) (subst (λ (o : List ℕ). IsEncoding first.label key o) (sym (same ∙ at.1.0)) first.encoded))

-- the keys behind the first block
pub next_keys : (keys : List KeyOctets) (text : List ℕ) (found : Label) (items after : List ℕ) (left : ℕ) (R : Type 0) → IsFileOf keys text → length keys ≤ left → (trimmed text ≡ [] → ⊥)
    → IsFound text found items after → ((others : List KeyOctets) → IsFileOf others after → length others ≤ left - 1 → R) → R
next_keys [] text found items after left R file few some is inner = absurd (some file)
next_keys (key ∷ keys) text found items after left R file few some is inner =
    let first = file.1 in
    let at = is first.label first.octets file.0 first.are first.block in
    inner keys (subst (λ (r : List ℕ). IsFileOf keys r) (sym at.1.1) file.2) (omega (arith, few))

-- a first block that isn't found
pub no_first : (keys : List KeyOctets) (text : List ℕ) (R : Type 0) → IsFileOf keys text → (trimmed text ≡ [] → ⊥)
    → ((label : Label) (octets rest : List ℕ) → AreOctets octets → IsBlock label octets (trimmed text) rest → R) → R
no_first [] text R file some inner = absurd (some file)
no_first (key ∷ keys) text R file some inner =
    let first = file.1 in
    inner first.label first.octets file.0 first.are first.block

-- ---- two encodings

memory_first : (second : JwkFault) → of_both OutOfMemory second ≡ OutOfMemory
memory_first (Pem f) = refl
memory_first (Key r) = refl
memory_first TooManyKeys = refl
memory_first OutOfMemory = refl

abbrev pub OnlyMemory : Label → List ℕ → JwkFault → Type 0
OnlyMemory label octets fault = (key : KeyOctets) → IsPublicKey key → IsEncoding label key octets → fault ≡ OutOfMemory

pub both_refused : (first second : JwkFault) (octets : List ℕ) → OnlyMemory PublicKey octets first → OnlyMemory RsaPublicKey octets second
    → (label : Label) (key : KeyOctets) → IsPublicKey key → IsEncoding label key octets → of_both first second ≡ OutOfMemory
both_refused first second octets one two PublicKey key is text = ap (λ (f : JwkFault). of_both f second) (one key is text) ∙ memory_first second
both_refused first second octets one two RsaPublicKey key is text = ap (λ (f : JwkFault). of_both first f) (two key is text)
