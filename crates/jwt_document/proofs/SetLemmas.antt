-- The keys of one text in PEM.
use Rattle.std.proofs.Common.{◌≡◌, ◌≢◌, ◌≤◌, ◌<◌, ℕ, List, [], ◌∷◌, length, true, false, None, Result, Ok, Err, ⊎_elim, refl, subst, arith}
use Rattle.std.proofs.lemmas.Bool.{cases_lt}
use Rattle.jwt_mac.specs.Verifying.{KeyOctets}
use Rattle.jwt_mac.specs.declared.algorithm.Alg.{Alg}
use Rattle.jwt_text.specs.declared.limits.TheConstants.{LONGEST_KEY_SET}
use Rattle.jwt_keys.specs.KeySets.{KeyList, key_set_of}
use Rattle.jwt_keys.specs.declared.set.KeySet.{KeySet}
use Rattle.jwt_keys.specs.declared.fault.KeysFault.{KeysFault}
use Rattle.jwt_keys.specs.declared.fault.KeysFault.TheVariants as keys
use Rattle.jwt_jwk.specs.Converted.{IsFileOf, IsSetOf}
use Rattle.jwt_jwk.specs.Refusals.{IsSetFault}
use Rattle.jwt_jwk.specs.declared.fault.JwkFault.{JwkFault}
use Rattle.jwt_jwk.specs.declared.fault.JwkFault.TheVariants as jwk
use Rattle.jwt_document.specs.Given.{has_usable}
use Rattle.jwt_document.specs.Pem.{HasKeys, named_set, print_of, IsOfPem}
use Rattle.jwt_document.specs.Views.{pem_fault, set_fault}

has_of : (text set : List ℕ) (it : IsSetOf text print_of None set) → HasKeys text (it.first ∷ it.others)
has_of text set it = record { some = omega arith; few = omega (arith, it.few); file = it.file }

-- the keys that are read of the set that was written
named : (text set : List ℕ) (it : IsSetOf text print_of None set) (read : KeyList) → ¬ (LONGEST_KEY_SET < length set) → key_set_of set ≡ Ok read → read ≡ named_set (it.first ∷ it.others)
named text set it read short e =
    ⊎_elim (λ lt. absurd (short lt)) (λ le. let r = it.set.read le in cc (e, r)) (cases_lt LONGEST_KEY_SET (length set))

-- a set that isn't read is too long
long : (text set : List ℕ) (it : IsSetOf text print_of None set) (f : KeysFault) → key_set_of set ≡ Err f → LONGEST_KEY_SET < length set
long text set it f e =
    ⊎_elim (λ lt. lt) (λ le. let r = it.set.read le in absurd (cc (e, r))) (cases_lt LONGEST_KEY_SET (length set))

-- a text that is refused has no such keys
no_keys : (text : List ℕ) (f : JwkFault) → f ≢ jwk.OutOfMemory → ((key : KeyOctets) (keys : List KeyOctets) → IsFileOf (key ∷ keys) text → length keys ≤ 1023 → f ≡ jwk.OutOfMemory) → (keys : List KeyOctets) → ¬ HasKeys text keys
no_keys text f ne only [] h = absurd (omega (arith, h.some))
no_keys text f ne only (key ∷ keys) h = ne (only key keys h.file (omega (arith, h.few)))

pub refused : (n : ℕ) (algs : List Alg) (text : List ℕ) (f : JwkFault) → IsSetFault text f → ((key : KeyOctets) (keys : List KeyOctets) → IsFileOf (key ∷ keys) text → length keys ≤ 1023 → f ≡ jwk.OutOfMemory) → IsOfPem n algs text (Err (pem_fault n f))
refused n algs text jwk.OutOfMemory exact only = tt
refused n algs text (jwk.Pem p) exact only = (refl, exact, (λ e. absurd cc), no_keys text (jwk.Pem p) (λ e. absurd cc) only)
refused n algs text (jwk.Key r) exact only = (refl, exact, (λ e. absurd cc), no_keys text (jwk.Key r) (λ e. absurd cc) only)
refused n algs text jwk.TooManyKeys exact only = (refl, exact, (λ e. absurd cc), no_keys text jwk.TooManyKeys (λ e. absurd cc) only)

-- the answer of a call that reads no set
abbrev pub unread : KeysFault → Result KeySet KeysFault
unread f = Err f

pub not_read : (n : ℕ) (algs : List Alg) (text set octets : List ℕ) (it : IsSetOf text print_of None set) → octets ≡ set → (f : KeysFault) → (f ≢ keys.OutOfMemory → key_set_of octets ≡ Err f) → (LONGEST_KEY_SET < length octets → unread f ≡ unread keys.TooLong) → IsOfPem n algs text (Err (set_fault n f))
not_read n algs text set octets it same f answer too_long = by f (subst (λ (o : List ℕ). f ≢ keys.OutOfMemory → key_set_of o ≡ Err f) same answer) (subst (λ (o : List ℕ). LONGEST_KEY_SET < length o → unread f ≡ unread keys.TooLong) same too_long)
  where
    by : (g : KeysFault) → (g ≢ keys.OutOfMemory → key_set_of set ≡ Err g) → (LONGEST_KEY_SET < length set → unread g ≡ unread keys.TooLong) → IsOfPem n algs text (Err (set_fault n g))
    by keys.OutOfMemory a t = tt
    by keys.TooLong a t = (refl, (it.first ∷ it.others, has_of text set it, subst (λ (o : List ℕ). LONGEST_KEY_SET < length o) it.set.is (long text set it keys.TooLong (a (λ e. absurd cc)))))
    by keys.Json a t = let e = t (long text set it keys.Json (a (λ e. absurd cc))) in absurd cc
    by keys.NotKeySet a t = let e = t (long text set it keys.NotKeySet (a (λ e. absurd cc))) in absurd cc
    by keys.NameTwice a t = let e = t (long text set it keys.NameTwice (a (λ e. absurd cc))) in absurd cc
    by keys.TooManyKeys a t = let e = t (long text set it keys.TooManyKeys (a (λ e. absurd cc))) in absurd cc

-- the keys, one of which is of use, or none
pub of_use : (n : ℕ) (algs : List Alg) (text set octets : List ℕ) (it : IsSetOf text print_of None set) → octets ≡ set → (read : KeyList) → ¬ (LONGEST_KEY_SET < length octets) → key_set_of octets ≡ Ok read → has_usable algs read.keys ≡ true → IsOfPem n algs text (Ok read)
of_use n algs text set octets it same read short e usable = (it.first ∷ it.others, has_of text set it, named text set it read (subst (λ (o : List ℕ). ¬ (LONGEST_KEY_SET < length o)) same short) (subst (λ (o : List ℕ). key_set_of o ≡ Ok read) same e), usable)

pub of_no_use : (n : ℕ) (algs : List Alg) (text set octets : List ℕ) (it : IsSetOf text print_of None set) → octets ≡ set → (read : KeyList) → ¬ (LONGEST_KEY_SET < length octets) → key_set_of octets ≡ Ok read → has_usable algs read.keys ≡ false → (n ≡ n) × ((keys : List KeyOctets) × HasKeys text keys × (has_usable algs (named_set keys).keys ≡ false))
of_no_use n algs text set octets it same read short e none = (refl, (it.first ∷ it.others, has_of text set it, subst (λ (k : KeyList). has_usable algs k.keys ≡ false) (named text set it read (subst (λ (o : List ℕ). ¬ (LONGEST_KEY_SET < length o)) same short) (subst (λ (o : List ℕ). key_set_of o ≡ Ok read) same e)) none))
