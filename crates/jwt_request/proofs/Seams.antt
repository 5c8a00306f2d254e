-- Path and query that are put together of what is kept of a URL and of a location.
use Rattle.std.proofs.Common.{◌≡◌, ◌⊎◌, ◌≤◌, ◌<◌, ◌+◌, ◌-◌, ◌==◌, ◌&&◌, ◌||◌, ◌++◌, ℕ, List, [], ◌∷◌, Bool, true, false, cond, not, length, drop, take, get_or, slice_index, arith, refl, sym, suc, ap, ◌∙◌, inl, inr, true≢false, reverse, add-zero}
use Rattle.std.proofs.lemmas.List.{take-append-drop, take_more, length-drop, length-reverse, get_or-reverse, get_or-drop}
use Rattle.std.proofs.lemmas.List.Folds.{list_all-append}
use Rattle.std.proofs.lemmas.List.Sums.{list_all-from_AllPass, prefix_len_passes, prefix_len_stops, suffix_len-le-length}
use Rattle.std.proofs.lemmas.Bool.{and_parts, and_from, eqb-true, not-false, ne_eqb, cases_lt}
use Rattle.std.specs.List.{list_all, suffix_len}
use Rattle.std.specs.Char.{is_ascii_hexdigit}
use Rattle.jwt_request.specs.declared.urls.kind.Kind.TheVariants.{Path, Segment, Target}
use Rattle.jwt_request.specs.urls.Urls.{is_of, run, are_escapes, is_target}
use Rattle.jwt_request.specs.urls.References.{folder_len}
use Rattle.jwt_request.proofs.Origins.{BeginsTarget}

-- two digits behind a percent sign stand behind it wherever it is taken out, where none of them is left outside
digits_alone : (b : Bool) (front rest : List ℕ) → is_ascii_hexdigit (slice_index rest 0) ≡ false
    → (b || (is_ascii_hexdigit (slice_index (front ++ rest) 0) && is_ascii_hexdigit (slice_index (front ++ rest) 1))) ≡ true
    → (b || (is_ascii_hexdigit (slice_index front 0) && is_ascii_hexdigit (slice_index front 1))) ≡ true
digits_alone true front rest none are = refl
digits_alone false [] rest none are =
    absurd (true≢false (sym (and_parts (is_ascii_hexdigit (slice_index rest 0)) (is_ascii_hexdigit (slice_index rest 1)) are).0 ∙ none))
digits_alone false (c ∷ []) rest none are =
    absurd (true≢false (sym (and_parts (is_ascii_hexdigit c) (is_ascii_hexdigit (slice_index rest 0)) are).1 ∙ none))
digits_alone false (c ∷ d ∷ front) rest none are = are

escapes_alone : (front rest : List ℕ) → is_ascii_hexdigit (slice_index rest 0) ≡ false → are_escapes (front ++ rest) ≡ true → are_escapes front ≡ true
escapes_alone [] rest none are = refl
escapes_alone (c ∷ front) rest none are =
    let both = and_parts (not (c == 37) || (is_ascii_hexdigit (slice_index (front ++ rest) 0) && is_ascii_hexdigit (slice_index (front ++ rest) 1))) (are_escapes (front ++ rest)) are in
    and_from (not (c == 37) || (is_ascii_hexdigit (slice_index front 0) && is_ascii_hexdigit (slice_index front 1))) (are_escapes front)
    (digits_alone (not (c == 37)) front rest none both.0) (escapes_alone front rest none both.1)

digits_more : (b : Bool) (front rest : List ℕ)
    → (b || (is_ascii_hexdigit (slice_index front 0) && is_ascii_hexdigit (slice_index front 1))) ≡ true
    → (b || (is_ascii_hexdigit (slice_index (front ++ rest) 0) && is_ascii_hexdigit (slice_index (front ++ rest) 1))) ≡ true
digits_more true front rest are = refl
digits_more false [] rest are = absurd (true≢false (sym are))
digits_more false (c ∷ []) rest are = absurd (true≢false (sym (and_parts (is_ascii_hexdigit c) false are).1))
digits_more false (c ∷ d ∷ front) rest are = are

escapes_more : (front rest : List ℕ) → are_escapes front ≡ true → are_escapes (front ++ rest) ≡ are_escapes rest
escapes_more [] rest are = refl
escapes_more (c ∷ front) rest are =
    let both = and_parts (not (c == 37) || (is_ascii_hexdigit (slice_index front 0) && is_ascii_hexdigit (slice_index front 1))) (are_escapes front) are in
    rw (digits_more (not (c == 37)) front rest both.0) (escapes_more front rest both.1)

pub not_none : (n : ℕ) → (suc n == 0) ≡ false
not_none n = ne_eqb (suc n) 0 (λ e. omega (arith, e))

-- octets of path and query, whose escapes end within them
pub record AreOfTarget (octets : List ℕ) : Type 0 where
  pub allowed : list_all (is_of Target) octets ≡ true
  pub escaped : are_escapes octets ≡ true

pub of_target : (octets : List ℕ) → is_target octets ≡ true → AreOfTarget octets
of_target octets is =
    let outer = and_parts ((length octets == 0 || slice_index octets 0 == 47 || slice_index octets 0 == 63) && list_all (is_of Target) octets) (are_escapes octets) is in
    let inner = and_parts (length octets == 0 || slice_index octets 0 == 47 || slice_index octets 0 == 63) (list_all (is_of Target) octets) outer.0 in
    record { allowed = inner.1; escaped = outer.1 }

-- a front of them, where what stands behind it is no digit
pub of_target_front : (n : ℕ) (octets : List ℕ) → is_ascii_hexdigit (slice_index (drop n octets) 0) ≡ false → AreOfTarget octets → AreOfTarget (take n octets)
of_target_front n octets none are =
    let parts : take n octets ++ drop n octets ≡ octets = take-append-drop n octets in
    let all : (list_all (is_of Target) (take n octets) && list_all (is_of Target) (drop n octets)) ≡ true =
    sym (list_all-append (is_of Target) (take n octets) (drop n octets)) ∙ ap (list_all (is_of Target)) parts ∙ are.allowed in
    record {
      allowed = (and_parts (list_all (is_of Target) (take n octets)) (list_all (is_of Target) (drop n octets)) all).0;
      escaped = escapes_alone (take n octets) (drop n octets) none (ap are_escapes parts ∙ are.escaped);
    }

-- the path of them
path_ends : (octets : List ℕ) → is_ascii_hexdigit (slice_index (drop (run Path octets) octets) 0) ≡ false
path_ends [] = refl
path_ends (c ∷ octets) = by (is_of Path c) refl (path_ends octets)
  where
    by : (b : Bool) → is_of Path c ≡ b → is_ascii_hexdigit (slice_index (drop (run Path octets) octets) 0) ≡ false
        → is_ascii_hexdigit (slice_index (drop (cond b (1 + run Path octets) 0) (c ∷ octets)) 0) ≡ false
    by true is more =
        let one : 1 + run Path octets ≡ suc (run Path octets) = omega arith in
        ap (λ k. is_ascii_hexdigit (slice_index (drop k (c ∷ octets)) 0)) one ∙ more
    by false is more = ap is_ascii_hexdigit (eqb-true c 63 (not-false (c == 63) is))

pub of_target_path : (octets : List ℕ) → AreOfTarget octets → AreOfTarget (take (run Path octets) octets)
of_target_path octets are = of_target_front (run Path octets) octets (path_ends octets) are

-- a path is empty or begins with a slash
pub path_begins : (octets : List ℕ) → is_target octets ≡ true → (take (run Path octets) octets ≡ []) ⊎ (slice_index (take (run Path octets) octets) 0 ≡ 47)
path_begins [] is = inl refl
path_begins (c ∷ octets) is = by (c == 47) (c == 63) refl refl
  where
    by : (s q : Bool) → (c == 47) ≡ s → (c == 63) ≡ q
        → (take (run Path (c ∷ octets)) (c ∷ octets) ≡ []) ⊎ (slice_index (take (run Path (c ∷ octets)) (c ∷ octets)) 0 ≡ 47)
    by s true slash query = inl (rw query refl)
    by true false slash query =
        let one : 1 + run Path octets ≡ suc (run Path octets) = omega arith in
        inr (rw (query, one) (eqb-true c 47 slash))
    by false false slash query = absurd (true≢false (sym is ∙ rw (not_none (length octets), slash, query) refl))

-- what stands before the last segment ends with a slash, where it isn't empty
folder_ends : (path : List ℕ) → 1 ≤ folder_len path → slice_index path (folder_len path - 1) ≡ 47
folder_ends path some =
    let j = suffix_len (is_of Segment) path in
    let less : j < length path = omega (arith, some) in
    let stops = prefix_len_stops (is_of Segment) (reverse path) 0 (omega (arith, less, length-reverse path)) in
    let place : length path - 1 - j ≡ folder_len path - 1 = omega arith in
    let at : slice_index (reverse path) j ≡ slice_index path (folder_len path - 1) = get_or-reverse path j 0 less ∙ ap (λ k. slice_index path k) place in
    eqb-true (slice_index path (folder_len path - 1)) 47 (not-false (slice_index path (folder_len path - 1) == 47) (ap (is_of Segment) (sym at) ∙ stops))

pub folder_some : (path : List ℕ) → slice_index path 0 ≡ 47 → 1 ≤ folder_len path
folder_some [] begins = absurd (true≢false (sym (ap (λ c. c == 47) begins)))
folder_some (c ∷ path) begins =
    let j = suffix_len (is_of Segment) (c ∷ path) in
    let n = length path in
    elim (cases_lt n j) [
      | inr few ↦ omega (arith, few)
      | inl all ↦
          let passes = prefix_len_passes (is_of Segment) (reverse (c ∷ path)) n 0 all in
          let place : length (c ∷ path) - 1 - n ≡ 0 = omega arith in
          let at : slice_index (reverse (c ∷ path)) n ≡ 47 = get_or-reverse (c ∷ path) n 0 (omega arith) ∙ ap (λ k. slice_index (c ∷ path) k) place ∙ begins in
          absurd (true≢false (sym passes ∙ ap (is_of Segment) at))
    ]

-- and behind it stands the last segment
pub segment_behind : (path : List ℕ) → list_all (is_of Segment) (drop (folder_len path) path) ≡ true
segment_behind path =
    let n = folder_len path in
    let j = suffix_len (is_of Segment) path in
    let few : j ≤ length path = suffix_len-le-length (is_of Segment) path in
    list_all-from_AllPass (is_of Segment) (drop n path) (λ k d within.
    let inner : k < length path - n = omega (arith, within, length-drop n path) in
    let back = length path - 1 - (n + k) in
    let less : back < length path = omega (arith, inner) in
    let passes = prefix_len_passes (is_of Segment) (reverse path) back d (omega (arith, inner, few)) in
    let place : length path - 1 - back ≡ n + k = omega (arith, inner) in
    ap (is_of Segment) (get_or-drop n path k d ∙ ap (λ m. get_or path m d) (sym place) ∙ sym (get_or-reverse path back d less)) ∙ passes)

-- all that stands before it is the slash and what stands before that
pub folder_front : (path : List ℕ) → 1 ≤ folder_len path → take (folder_len path) path ≡ take (folder_len path - 1) path ++ 47 ∷ []
folder_front path some =
    let n = folder_len path - 1 in
    let one : n + 1 ≡ folder_len path = omega (arith, some) in
    ap (λ k. take k path) (sym one) ∙ take_more path n 0 (omega (arith, some)) ∙ ap (λ c. take n path ++ c ∷ []) (folder_ends path some)

pub of_target_folder : (path : List ℕ) → 1 ≤ folder_len path → AreOfTarget path → AreOfTarget (take (folder_len path) path)
of_target_folder path some are =
    let n = folder_len path - 1 in
    let taken = folder_front path some in
    let stands : slice_index (drop n path) 0 ≡ 47 = get_or-drop n path 0 0 ∙ ap (λ k. slice_index path k) (add-zero n) ∙ folder_ends path some in
    let front = of_target_front n path (ap is_ascii_hexdigit stands) are in
    record {
      allowed = ap (list_all (is_of Target)) taken ∙ list_all-append (is_of Target) (take n path) (47 ∷ []) ∙ and_from (list_all (is_of Target) (take n path)) true front.allowed refl;
      escaped = ap are_escapes taken ∙ escapes_more (take n path) (47 ∷ []) front.escaped;
    }

-- path and query of two parts
begins_one : (r : List ℕ) → BeginsTarget r → (length r == 0 || slice_index r 0 == 47 || slice_index r 0 == 63) ≡ true
begins_one [] begins = refl
begins_one (c ∷ r) (inl is) = rw (not_none (length r), is) refl
begins_one (c ∷ r) (inr is) = rw (not_none (length r), is) refl

pub target_of_two : (front rest : List ℕ) → BeginsTarget (front ++ rest) → AreOfTarget front
    → is_target (front ++ rest) ≡ (list_all (is_of Target) rest && are_escapes rest)
target_of_two front rest begins are =
    rw (begins_one (front ++ rest) begins, list_all-append (is_of Target) front rest, are.allowed, escapes_more front rest are.escaped) refl
