-- How long texts and tokens are.
use Rattle.std.proofs.Common.{◌≡◌, ℕ, zero, suc, ◌+◌, ◌*◌, ◌/◌, List, [], ◌∷◌, ◌++◌, length, map, ◌<◌, ◌≤◌, get_or, take, refl, sym, ap, ◌∙◌, arith, length-append}
use Rattle.std.specs.Prelude.{codes}
use Rattle.std.specs.List.{join_with_byte, sum_by}
use Rattle.std.proofs.lemmas.List.{length-map, get_or-map}
use Rattle.std.proofs.lemmas.List.Sums.{sum_by-cons, sum_by_more, sum_by_more_le}
use Rattle.jwt_text.specs.Base64url.{digits, spelling}
use Rattle.jwt_mac.specs.Algorithm.{digest_size, tag_of}
use Rattle.jwt_mac.specs.declared.algorithm.Alg.{Alg}
use Rattle.jwt_issue.specs.Issued.{SignerParts, signature_text, input_of, signature_element, general_token}

length-digits : (k n : ℕ) → length (digits k n) ≡ k
unfolding digits
length-digits zero n = refl
length-digits (suc k) n = grind (arith, length-append, length-digits k (n / 64))

pub length_spelling : (v : List ℕ) → length (spelling v) ≡ (4 * length v + 2) / 3
unfolding spelling
length_spelling [] = refl
length_spelling (a ∷ []) = length-digits 2 (16 * a)
length_spelling (a ∷ b ∷ []) = length-digits 3 (4 * (256 * a + b))
length_spelling (a ∷ b ∷ c ∷ rest) =
    let head = length-digits 4 (65536 * a + 256 * b + c) in
    let tail = length_spelling rest in
    rw (length-append (digits 4 (65536 * a + 256 * b + c)) (spelling rest), head, tail) (omega arith)

-- a signature text is as long as the spelling of a digest
pub length_signature : (size : (alg : Alg) (key message : List ℕ) → length (tag_of alg key message) ≡ digest_size alg)
    → (payload : List ℕ) (s : SignerParts) → length (signature_text payload s) ≡ (4 * digest_size s.alg + 2) / 3
unfolding signature_text
length_signature size payload s =
    rw (length_spelling (tag_of s.alg s.secret (input_of payload s)), size s.alg s.secret (input_of payload s))

-- ---- general JSON form

-- an element of `signatures`, and the comma or bracket after it
unfoldable pub share : List ℕ → SignerParts → ℕ
share payload s = length (signature_element payload s) + 1

pub length_share : (payload : List ℕ) (s : SignerParts) → share payload s ≡ 32 + length s.protected + length (signature_text payload s)
unfolding share
length_share payload s =
    let h = s.protected in
    let g = signature_text payload s in
    let between = codes "\",\"signature\":\"" in
    let first = length-append h between in
    let second = length-append (h ++ between) g in
    let third = length-append (h ++ between ++ g) (codes "\"}") in
    omega (arith, first, second, third)

length_joined : (xs : List (List ℕ)) → 0 < length xs → length (join_with_byte 44 xs) + 1 ≡ sum_by (λ x. length x + 1) xs
length_joined [] some = absurd (omega arith)
length_joined (x ∷ []) some = omega arith
length_joined (x ∷ y ∷ xs) some =
    let rest = length_joined (y ∷ xs) (omega arith) in
    let sum = sum_by-cons (λ (z : List ℕ). length z + 1) x (y ∷ xs) in
    rw (length-append x (44 ∷ join_with_byte 44 (y ∷ xs)), sum) (omega arith)

sum_by_map : {A B : Type 0} (f : B → ℕ) (g : A → B) (xs : List A) → sum_by f (map g xs) ≡ sum_by (λ (x : A). f (g x)) xs
sum_by_map f g [] = refl
sum_by_map {A} f g (x ∷ xs) = rw (sum_by-cons f (g x) (map g xs), sum_by-cons (λ (y : A). f (g y)) x xs, sum_by_map f g xs)

pub length_general : (payload : List ℕ) (ss : List SignerParts) → 0 < length ss
    → length (general_token payload ss) ≡ 29 + length payload + sum_by (share payload) ss
unfolding share
length_general payload ss some =
    let joined = join_with_byte 44 (map (signature_element payload) ss) in
    let same = length-map ss (signature_element payload) in
    let elements = length_joined (map (signature_element payload) ss) (omega arith) in
    let shares = sum_by_map (λ (x : List ℕ). length x + 1) (signature_element payload) ss in
    let between = codes "\",\"signatures\":[" in
    let first = length-append payload between in
    let second = length-append (payload ++ between) joined in
    let third = length-append (payload ++ between ++ joined) (codes "]}") in
    omega (arith, elements, shares, first, second, third)

pub mapped_at : {A B : Type 0} (f : A → B) (xs : List A) (i : ℕ) (x : A) → i < length xs → x ≡ get_or xs i x → f x ≡ get_or (map f xs) i (f x)
mapped_at f xs i x within e = ap f e ∙ sym (get_or-map f xs i x (f x) within)

-- what a loop over the signers has counted, with one more
pub shares_more : {A : Type 0} (payload : List ℕ) (view : A → SignerParts) (xs : List A) (i : ℕ) (x : A) → i < length xs → x ≡ get_or xs i x
    → sum_by (share payload) (take (i + 1) (map view xs)) ≡ sum_by (share payload) (take i (map view xs)) + share payload (view x)
shares_more payload view xs i x within e =
    let ss = map view xs in
    let small = length-map xs view in
    rw (sum_by_more (share payload) ss i (view x) (omega arith), ← (mapped_at view xs i x within e))

-- and no more than all
pub shares_within : {A : Type 0} (payload : List ℕ) (view : A → SignerParts) (xs : List A) (i : ℕ) (x : A) → i < length xs → x ≡ get_or xs i x
    → sum_by (share payload) (take i (map view xs)) + share payload (view x) ≤ sum_by (share payload) (map view xs)
shares_within payload view xs i x within e =
    let ss = map view xs in
    let small = length-map xs view in
    let bound = sum_by_more_le (share payload) ss i (view x) (omega arith) in
    rw (mapped_at view xs i x within e) bound
