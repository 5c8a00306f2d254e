-- A normal path is its own normal form.
use Rattle.std.proofs.Common.{◌≡◌, ℕ, ◌+◌, ◌*◌, ◌/◌, ◌%◌, ◌==◌, Bool, true, false, cond, not, ◌&&◌, List, [], ◌∷◌, ◌++◌, Option, Some, None, option_map, option_and_then, codes, refl, sym, ap, ◌∙◌, append_assoc}
use Rattle.std.proofs.Common.{arith, inl, inr}
use Rattle.std.proofs.lemmas.List.{append-nil}
use Rattle.std.specs.Option.{option_map_or}
use Rattle.std.specs.List.{list_all, slice_split, onto_first}
use Rattle.std.specs.Str.{bytes_eq}
use Rattle.std.proofs.lemmas.Bool.{cases_Bool, true≢false, false≢true}
use Rattle.std.proofs.lemmas.Slice.Eq.{bytes_eq-Decides}
use Rattle.jwt_possession.specs.Uris.{decoded, normal_triplet, normal_octet, is_unreserved, value_of, digit_of, ended, gone_on, left, joined, normal_path}
use Rattle.jwt_possession.specs.Paths.{is_path_octet, octet_of, is_hidden, is_plain_triplet, begins_with_slash, are_plain, is_segment, is_normal_path}

pub first : (a b : Bool) → (a && b) ≡ true → a ≡ true
first true b h = refl
first false b h = absurd (false≢true h)

pub second : (a b : Bool) → (a && b) ≡ true → b ≡ true
second true b h = h
second false b h = absurd (false≢true h)

off : (a : Bool) → not a ≡ true → a ≡ false
off true h = absurd (false≢true h)
off false h = refl

same_number : (a b : ℕ) → (a == b) ≡ true → a ≡ b
same_number a b h = grind (arith, h)

-- ---- percent-encoding

triplet_is : (high low : ℕ) → normal_triplet high low ≡ option_map normal_octet (octet_of high low)
triplet_is high low = by (value_of high) (value_of low)
  where
    by : (h l : Option ℕ) → option_and_then (λ h. option_map (λ l. normal_octet (h * 16 + l)) l) h ≡ option_map normal_octet (option_and_then (λ h. option_map (λ l. h * 16 + l) l) h)
    by None l = refl
    by (Some h) None = refl
    by (Some h) (Some l) = refl

octet_itself : (octet high low : ℕ) → is_unreserved octet ≡ false → digit_of (octet / 16) ≡ high → digit_of (octet % 16) ≡ low → normal_octet octet ≡ 37 ∷ high ∷ low ∷ []
octet_itself octet high low reserved front back = rw reserved (ap (λ h. 37 ∷ h ∷ digit_of (octet % 16) ∷ []) front ∙ ap (λ l. 37 ∷ high ∷ l ∷ []) back)

plain_octet : (high low : ℕ) (o : Option ℕ) → option_map_or (λ octet. not (is_unreserved octet) && (digit_of (octet / 16) == high && (digit_of (octet % 16) == low && not (is_hidden octet)))) o false ≡ true
    → option_map normal_octet o ≡ Some (37 ∷ high ∷ low ∷ [])
plain_octet high low None h = absurd (false≢true h)
plain_octet high low (Some octet) h =
    let a = is_unreserved octet in
    let b = digit_of (octet / 16) == high in
    let c = digit_of (octet % 16) == low in
    let d = not (is_hidden octet) in
    let rest = second (not a) (b && (c && d)) h in
    ap Some (octet_itself octet high low (off a (first (not a) (b && (c && d)) h)) (same_number _ _ (first b (c && d) rest)) (same_number _ _ (first c d (second b (c && d) rest))))

plain_triplet : (high low : ℕ) → is_plain_triplet high low ≡ true → normal_triplet high low ≡ Some (37 ∷ high ∷ low ∷ [])
plain_triplet high low h = triplet_is high low ∙ plain_octet high low (octet_of high low) h

no_percent : (a : ℕ) → is_path_octet a ≡ true → (a == 37) ≡ false
no_percent a h = elim (cases_Bool (a == 37)) [
  | inl is ↦ absurd (false≢true (sym (ap is_path_octet (same_number a 37 is)) ∙ h))
  | inr differs ↦ differs
]

decoded_triplet : (a b c : ℕ) (rest : List ℕ) → (a == 37) ≡ true → (is_plain_triplet b c && are_plain rest) ≡ true → decoded rest ≡ Some rest → decoded (a ∷ b ∷ c ∷ rest) ≡ Some (a ∷ b ∷ c ∷ rest)
decoded_triplet a b c rest is h more =
    rw is (rw (plain_triplet b c (first (is_plain_triplet b c) (are_plain rest) h)) (rw more (ap (λ x. Some (x ∷ b ∷ c ∷ rest)) (sym (same_number a 37 is)))))

decoded_octet : (a b c : ℕ) (rest : List ℕ) → (a == 37) ≡ false → decoded (b ∷ c ∷ rest) ≡ Some (b ∷ c ∷ rest) → decoded (a ∷ b ∷ c ∷ rest) ≡ Some (a ∷ b ∷ c ∷ rest)
decoded_octet a b c rest differs more = rw differs (rw more refl)

decoded_either : (t : Bool) (a b c : ℕ) (rest : List ℕ) → (a == 37) ≡ t
    → cond t (is_plain_triplet b c && are_plain rest) (is_path_octet a && (not (a == 47 && b == 47) && are_plain (b ∷ c ∷ rest))) ≡ true
    → (are_plain rest ≡ true → decoded rest ≡ Some rest) → (are_plain (b ∷ c ∷ rest) ≡ true → decoded (b ∷ c ∷ rest) ≡ Some (b ∷ c ∷ rest))
    → decoded (a ∷ b ∷ c ∷ rest) ≡ Some (a ∷ b ∷ c ∷ rest)
decoded_either true a b c rest is h far near = decoded_triplet a b c rest is h (far (second (is_plain_triplet b c) (are_plain rest) h))
decoded_either false a b c rest differs h far near =
    decoded_octet a b c rest differs (near (second (not (a == 47 && b == 47)) (are_plain (b ∷ c ∷ rest)) (second (is_path_octet a) (not (a == 47 && b == 47) && are_plain (b ∷ c ∷ rest)) h)))

pub decoded_itself : (path : List ℕ) → are_plain path ≡ true → decoded path ≡ Some path
decoded_itself [] h = refl
decoded_itself (a ∷ []) h = rw (no_percent a h) refl
decoded_itself (a ∷ b ∷ []) h =
    let tail = second (is_path_octet a) (not (a == 47 && b == 47) && is_path_octet b) h in
    rw (no_percent a (first (is_path_octet a) (not (a == 47 && b == 47) && is_path_octet b) h)) (rw (no_percent b (second (not (a == 47 && b == 47)) (is_path_octet b) tail)) refl)
decoded_itself (a ∷ b ∷ c ∷ rest) h = decoded_either (a == 37) a b c rest refl h (decoded_itself rest) (decoded_itself (b ∷ c ∷ rest))

-- ---- dot segments

not_this : (name segment : List ℕ) → is_segment name ≡ false → is_segment segment ≡ true → bytes_eq segment name ≡ false
not_this name segment bad good = elim (cases_Bool (bytes_eq segment name)) [
  | inl is ↦ absurd (true≢false (sym good ∙ ap is_segment ((bytes_eq-Decides segment name).0 is) ∙ bad))
  | inr differs ↦ differs
]

goes_on : (done : List (List ℕ)) (segment : List ℕ) → is_segment segment ≡ true → gone_on done segment ≡ done ++ segment ∷ []
goes_on done segment good = rw (not_this (codes ".") segment refl good) (rw (not_this (codes "..") segment refl good) refl)

ends : (done : List (List ℕ)) (segment : List ℕ) → is_segment segment ≡ true → ended done segment ≡ done ++ segment ∷ []
ends done segment good = rw (not_this (codes ".") segment refl good) (rw (not_this (codes "..") segment refl good) refl)

pub all_left : (done segments : List (List ℕ)) → list_all is_segment segments ≡ true → left done segments ≡ done ++ segments
all_left done [] h = sym (append-nil done)
all_left done (s ∷ []) h = ends done s (first (is_segment s) true h)
all_left done (s ∷ t ∷ more) h =
    ap (λ d. left d (t ∷ more)) (goes_on done s (first (is_segment s) (list_all is_segment (t ∷ more)) h))
    ∙ all_left (done ++ s ∷ []) (t ∷ more) (second (is_segment s) (list_all is_segment (t ∷ more)) h)
    ∙ append_assoc done (s ∷ []) (t ∷ more)

-- each segment with its slash gives the text back, behind a slash
joined_onto : (x : ℕ) (parts : List (List ℕ)) (text : List ℕ) → joined parts ≡ 47 ∷ text → joined (onto_first x parts) ≡ 47 ∷ x ∷ text
joined_onto x [] text h = absurd cc
joined_onto x (part ∷ parts) text h = ap (λ t. 47 ∷ x ∷ t) (tail_same (part ++ joined parts) text h)
  where
    tail_same : (a b : List ℕ) → (47 ∷ a) ≡ (47 ∷ b) → a ≡ b
    tail_same a b e = cc

split_either : (t : Bool) (x : ℕ) (xs : List ℕ) (parts : List (List ℕ)) → (x == 47) ≡ t → joined parts ≡ 47 ∷ xs → joined (cond t ([] ∷ parts) (onto_first x parts)) ≡ 47 ∷ x ∷ xs
split_either true x xs parts is more = ap (λ t. 47 ∷ t) more ∙ ap (λ y. 47 ∷ y ∷ xs) (sym (same_number x 47 is))
split_either false x xs parts differs more = joined_onto x parts xs more

pub split_joined : (text : List ℕ) → joined (slice_split (λ x. x == 47) text) ≡ 47 ∷ text
split_joined [] = refl
split_joined (x ∷ xs) = split_either (x == 47) x xs (slice_split (λ x. x == 47) xs) refl (split_joined xs)

pub path_itself : (path : List ℕ) → begins_with_slash path ≡ true → list_all is_segment (slice_split (λ x. x == 47) path) ≡ true → normal_path path ≡ path
path_itself [] h all = absurd (false≢true h)
path_itself (x ∷ xs) h all =
    let cut : slice_split (λ x. x == 47) (x ∷ xs) ≡ [] ∷ slice_split (λ x. x == 47) xs = rw h refl in
    let rest : list_all is_segment (slice_split (λ x. x == 47) xs) ≡ true = second (is_segment []) (list_all is_segment (slice_split (λ x. x == 47) xs)) (sym (ap (list_all is_segment) cut) ∙ all) in
    ap joined (all_left [] (slice_split (λ x. x == 47) xs) rest) ∙ split_joined xs ∙ ap (λ y. y ∷ xs) (sym (same_number x 47 h))

pub normal_paths : (path : List ℕ) → is_normal_path path ≡ true → (decoded path ≡ Some path) × (normal_path path ≡ path)
unfolding is_normal_path
normal_paths path h =
    let a = begins_with_slash path in
    let b = are_plain path in
    let c = list_all is_segment (slice_split (λ x. x == 47) path) in
    let rest = second a (b && c) h in
    (decoded_itself path (first b c rest), path_itself path (first a (b && c) h) (second b c rest))
