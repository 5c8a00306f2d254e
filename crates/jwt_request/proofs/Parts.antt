-- Whether the text that a location gives is a URL of the same origin, by the location's parts.
use Rattle.std.proofs.Common.{◌≡◌, ◌≤◌, ◌+◌, ◌-◌, ◌==◌, ◌&&◌, ◌++◌, ℕ, List, [], ◌∷◌, Bool, true, false, zero, not, length, drop, take, map, slice_index, if◌then◌else◌, Some, None, arith, refl, sym, subst, suc, ap, ◌∙◌, inl, inr, true≢false}
use Rattle.std.proofs.lemmas.List.{take_at, drop_at, take-take, take-map, map-append, append_assoc, length-append, length-take-le}
use Rattle.std.proofs.lemmas.List.Folds.{length-prefix_len}
use Rattle.std.proofs.lemmas.Bool.{and_parts, and_left, and_right, eqb-true, ne_eqb}
use Rattle.std.proofs.lemmas.Slice.Eq.{bytes_eq-Decides}
use Rattle.std.proofs.Math.Seq.{take-add, take-append-add}
use Rattle.std.specs.List.{list_all}
use Rattle.std.specs.Char.{to_ascii_lowercase}
use Rattle.std.specs.Str.{bytes_eq, str_eq_ignore_ascii_case}
use Rattle.jwt_request.specs.declared.urls.kind.Kind.TheVariants.{Path, Target}
use Rattle.jwt_request.specs.declared.urls.url.Url.{Url}
use Rattle.jwt_request.specs.urls.Urls.{IsPlaced, is_of, run, are_escapes, is_laid, is_target, behind_host, has_scheme, host_len, host_of, parts_behind, port_of, same_origin, scheme_of, url_where}
use Rattle.jwt_request.specs.urls.References.{folder_len, is_whole, is_within, kept_len, needs_slash, path_of, referred, slash_where}
use Rattle.jwt_request.proofs.Origins.{BeginsTarget}
use Rattle.jwt_request.proofs.Fronts.{asked, bytes_same, same_as_itself, scheme_few, target_of, url_by, within_origin}
use Rattle.jwt_request.proofs.Seams.{AreOfTarget, of_target, of_target_path, of_target_folder, path_begins, folder_some, target_of_two}

-- the text: the origin of the URL that was asked, what is kept of its path, and the location
pub record IsSeam (at : Url) (url location kept : List ℕ) : Type 0 where
  pub text : referred at url location ≡ take at.target url ++ (kept ++ location)
  pub begins : BeginsTarget (kept ++ location)
  pub of_target : AreOfTarget kept

pub text_by : (n : ℕ) (b : Bool) (at : Url) (url location : List ℕ) → kept_len at url location ≡ n → needs_slash at url location ≡ b
    → referred at url location ≡ take n url ++ (slash_where b ++ location)
text_by n b at url location kept slash = rw (kept, slash) (append_assoc (take n url) (slash_where b) location)

text_behind : (n : ℕ) (b : Bool) (at : Url) (url location : List ℕ) → kept_len at url location ≡ at.target + n → needs_slash at url location ≡ b
    → referred at url location ≡ take at.target url ++ (take n (drop at.target url) ++ (slash_where b ++ location))
text_behind n b at url location kept slash =
    text_by (at.target + n) b at url location kept slash
    ∙ ap (λ xs. xs ++ (slash_where b ++ location)) (take-add at.target n url)
    ∙ append_assoc (take at.target url) (take n (drop at.target url)) (slash_where b ++ location)

no_part : AreOfTarget []
no_part = record { allowed = refl; escaped = refl }

-- a path
pub seam_of_path : (at : Url) (url location : List ℕ) → is_whole location ≡ false → (slice_index location 0 == 47) ≡ true → (slice_index location 1 == 47) ≡ false
    → IsSeam at url location []
seam_of_path at url location whole slash other =
    let none : needs_slash at url location ≡ false =
    and_left (length (path_of at url) == 0 && not (is_whole location) && not (slice_index location 0 == 47)) (not (slice_index location 0 == 63))
    (and_right (length (path_of at url) == 0 && not (is_whole location)) (not (slice_index location 0 == 47)) (ap not slash)) in
    record {
      text = text_by at.target false at url location (rw (whole, slash, other) refl) none;
      begins = inl (eqb-true (slice_index location 0) 47 slash);
      of_target = no_part;
    }

begins_front : (n : ℕ) (xs ys : List ℕ) → 1 ≤ n → slice_index xs 0 ≡ 47 → slice_index (take n xs ++ ys) 0 ≡ 47
begins_front n [] ys some begins = absurd (true≢false (sym (ap (λ c. c == 47) begins)))
begins_front zero (c ∷ xs) ys some begins = absurd (omega (arith, some))
begins_front (suc n) (c ∷ xs) ys some begins = begins

-- a query
pub seam_of_query : (at : Url) (url location : List ℕ) → is_target (drop at.target url) ≡ true → is_whole location ≡ false → (slice_index location 0 == 47) ≡ false
    → (slice_index location 0 == 63) ≡ true → IsSeam at url location (path_of at url)
seam_of_query at url location target whole slash query =
    let path = path_of at url in
    let none : needs_slash at url location ≡ false =
    and_right (length path == 0 && not (is_whole location) && not (slice_index location 0 == 47)) (not (slice_index location 0 == 63)) (ap not query) in
    let all : take (length path) (drop at.target url) ≡ path = ap (λ k. take k (drop at.target url)) (length-prefix_len (is_of Path) (drop at.target url)) in
    let of = of_target (drop at.target url) target in
    let mark : slice_index location 0 ≡ 63 = eqb-true (slice_index location 0) 63 query in
    let begins : BeginsTarget (path ++ location) =
    elim (path_begins (drop at.target url) target) [
      | inl empty ↦ subst (λ xs. BeginsTarget (xs ++ location)) (sym empty) (inr mark)
      | inr begins ↦ inl (begun path location begins)
    ] in
    record {
      text = text_behind (length path) false at url location (rw (whole, slash, query) refl) none ∙ ap (λ xs. take at.target url ++ (xs ++ location)) all;
      begins = begins;
      of_target = of_target_path (drop at.target url) of;
    }
  where
    begun : (xs ys : List ℕ) → slice_index xs 0 ≡ 47 → slice_index (xs ++ ys) 0 ≡ 47
    begun [] ys begins = absurd (true≢false (sym (ap (λ c. c == 47) begins)))
    begun (c ∷ xs) ys begins = begins

-- a relative path, behind no path and behind some
pub seam_of_none : (at : Url) (url location : List ℕ) → path_of at url ≡ [] → is_whole location ≡ false → (slice_index location 0 == 47) ≡ false
    → (slice_index location 0 == 63) ≡ false → IsSeam at url location (47 ∷ [])
seam_of_none at url location empty whole slash query =
    let len : kept_len at url location ≡ at.target + 0 = rw (whole, slash, query, empty) refl in
    let needed : needs_slash at url location ≡ true = rw (empty, whole, slash, query) refl in
    record {
      text = text_behind 0 true at url location len needed;
      begins = inl refl;
      of_target = record { allowed = refl; escaped = refl };
    }

pub seam_of_some : (at : Url) (url location : List ℕ) → is_target (drop at.target url) ≡ true → slice_index (path_of at url) 0 ≡ 47 → is_whole location ≡ false
    → (slice_index location 0 == 47) ≡ false → (slice_index location 0 == 63) ≡ false → IsSeam at url location (take (folder_len (path_of at url)) (path_of at url))
seam_of_some at url location target begins whole slash query =
    let path = path_of at url in
    let n = folder_len path in
    let some : 1 ≤ n = folder_some path begins in
    let nonempty : (length path == 0) ≡ false = ne_eqb (length path) 0 (λ e. omega (arith, some, e)) in
    let none : needs_slash at url location ≡ false = rw nonempty refl in
    let less : n ≤ run Path (drop at.target url) = omega (arith, length-prefix_len (is_of Path) (drop at.target url)) in
    let front : take n (drop at.target url) ≡ take n path = sym (take-take n (run Path (drop at.target url)) (drop at.target url) less) in
    record {
      text = text_behind n false at url location (rw (whole, slash, query) refl) none ∙ ap (λ xs. take at.target url ++ (xs ++ location)) front;
      begins = inl (begins_front n path location some begins);
      of_target = of_target_folder path some (of_target_path (drop at.target url) (of_target (drop at.target url) target));
    }

-- any location that has neither scheme nor host
pub record HasSeam (at : Url) (url location : List ℕ) : Type 0 where
  pub kept : List ℕ
  pub seam : IsSeam at url location kept

seam_by : (s o q : Bool) (at : Url) (url location : List ℕ) → is_target (drop at.target url) ≡ true → is_whole location ≡ false
    → (slice_index location 0 == 47) ≡ s → (slice_index location 1 == 47) ≡ o → (slice_index location 0 == 63) ≡ q → (s && o) ≡ false → HasSeam at url location
seam_by true true q at url location target whole slash other query no_host = absurd (true≢false no_host)
seam_by true false q at url location target whole slash other query no_host = record { kept = []; seam = seam_of_path at url location whole slash other }
seam_by false o true at url location target whole slash other query no_host =
    record { kept = path_of at url; seam = seam_of_query at url location target whole slash query }
seam_by false o false at url location target whole slash other query no_host =
    elim (path_begins (drop at.target url) target) [
      | inl empty ↦ record { kept = 47 ∷ []; seam = seam_of_none at url location empty whole slash query }
      | inr begins ↦ record { kept = take (folder_len (path_of at url)) (path_of at url); seam = seam_of_some at url location target begins whole slash query }
    ]

pub has_seam : (at : Url) (url location : List ℕ) → is_target (drop at.target url) ≡ true → is_whole location ≡ false
    → (slice_index location 0 == 47 && slice_index location 1 == 47) ≡ false → HasSeam at url location
has_seam at url location target whole no_host =
    seam_by (slice_index location 0 == 47) (slice_index location 1 == 47) (slice_index location 0 == 63) at url location target whole refl refl refl no_host

-- so the location's octets decide
pub within_seam : (at : Url) (url location : List ℕ) → IsPlaced at url → url_where true url ≡ Some at → is_whole location ≡ false
    → (slice_index location 0 == 47 && slice_index location 1 == 47) ≡ false
    → is_within at url (referred at url location) (url_where true (referred at url location)) ≡ (list_all (is_of Target) location && are_escapes location)
within_seam at url location placed some whole no_host =
    let it = has_seam at url location (target_of at url some) whole no_host in
    subst (λ xs. is_within at url xs (url_where true xs) ≡ (list_all (is_of Target) location && are_escapes location)) (sym it.seam.text)
    (within_origin at url (it.kept ++ location) placed some it.seam.begins ∙ target_of_two it.kept location it.seam.begins it.seam.of_target)

-- a location that has a host and no scheme: the scheme is that of the URL that was asked
lower_front : (https : Bool) → take (length (scheme_of https) - 2) (map to_ascii_lowercase (scheme_of https)) ++ 47 ∷ 47 ∷ [] ≡ map to_ascii_lowercase (scheme_of https)
lower_front true = refl
lower_front false = refl

other_scheme : (rest : List ℕ) → bytes_eq (map to_ascii_lowercase (scheme_of false) ++ rest) (map to_ascii_lowercase (scheme_of true)) ≡ false
other_scheme rest = refl

abbrev with_slashes : Bool → List ℕ → List ℕ
with_slashes https url = take (length (scheme_of https) - 2) url ++ 47 ∷ 47 ∷ []

lowered : (https : Bool) (url : List ℕ) → has_scheme https url ≡ true → map to_ascii_lowercase (with_slashes https url) ≡ map to_ascii_lowercase (scheme_of https)
lowered https url is =
    let n = length (scheme_of https) in
    let same = (bytes_eq-Decides (map to_ascii_lowercase (take n url)) (map to_ascii_lowercase (scheme_of https))).0 is in
    let less : n - 2 ≤ n = omega arith in
    map-append to_ascii_lowercase (take (n - 2) url) (47 ∷ 47 ∷ [])
    ∙ ap (λ xs. map to_ascii_lowercase xs ++ 47 ∷ 47 ∷ []) (sym (take-take (n - 2) n url less))
    ∙ ap (λ xs. xs ++ 47 ∷ 47 ∷ []) (sym (take-map to_ascii_lowercase (n - 2) (take n url)) ∙ ap (take (n - 2)) same)
    ∙ lower_front https

slashes_len : (https : Bool) (url : List ℕ) → length (scheme_of https) ≤ length url → length (with_slashes https url) ≡ length (scheme_of https)
slashes_len https url within =
    let few = scheme_few https in
    let less : length (scheme_of https) - 2 ≤ length url = omega (arith, within) in
    omega (arith, few.0, length-append (take (length (scheme_of https) - 2) url) (47 ∷ 47 ∷ []), length-take-le (length (scheme_of https) - 2) url less)

-- the text has that scheme, and no other
scheme_again : (https : Bool) (url rest : List ℕ) → has_scheme https url ≡ true → length (scheme_of https) ≤ length url
    → has_scheme https (with_slashes https url ++ rest) ≡ true
scheme_again https url rest is within =
    ap (λ xs. bytes_eq (map to_ascii_lowercase xs) (map to_ascii_lowercase (scheme_of https)))
    (take_at (with_slashes https url) rest (length (scheme_of https)) (slashes_len https url within))
    ∙ ap (λ xs. bytes_eq xs (map to_ascii_lowercase (scheme_of https))) (lowered https url is)
    ∙ bytes_same (map to_ascii_lowercase (scheme_of https))

first_again : (https : Bool) (url rest : List ℕ) → has_scheme https url ≡ true → length (scheme_of https) ≤ length url
    → has_scheme true (with_slashes https url ++ rest) ≡ https
first_again true url rest is within = scheme_again true url rest is within
first_again false url rest is within =
    let xs = with_slashes false url in
    let one : length xs + 1 ≡ 8 = omega (arith, slashes_len false url within) in
    let taken : take 8 (xs ++ rest) ≡ xs ++ take 1 rest = ap (λ k. take k (xs ++ rest)) (sym one) ∙ take-append-add xs rest 1 in
    ap (λ ys. bytes_eq (map to_ascii_lowercase ys) (map to_ascii_lowercase (scheme_of true))) taken
    ∙ ap (λ ys. bytes_eq ys (map to_ascii_lowercase (scheme_of true)))
    (map-append to_ascii_lowercase xs (take 1 rest) ∙ ap (λ ys. ys ++ map to_ascii_lowercase (take 1 rest)) (lowered false url is))
    ∙ other_scheme (map to_ascii_lowercase (take 1 rest))

-- the origin is the same where the port and the host are
same_parts : (https : Bool) (at : Url) (url text rest : List ℕ) → at.is_https ≡ https → drop (length (scheme_of https)) text ≡ rest
    → same_origin at url (parts_behind https rest) text
    ≡ (at.port == port_of at.is_https (behind_host rest) && str_eq_ignore_ascii_case (host_of at url) (take (host_len rest) rest))
same_parts https at url text rest scheme behind =
    let n = length (scheme_of https) in
    let few : n + host_len rest - n ≡ host_len rest = omega arith in
    let host : host_of (parts_behind https rest) text ≡ take (host_len rest) rest = ap (λ k. take k (drop n text)) few ∙ ap (take (host_len rest)) behind in
    rw (host, scheme, same_as_itself https) refl

within_by : (b : Bool) (at at' : Url) (url text : List ℕ) (port host : Bool) → same_origin at url at' text ≡ (port && host)
    → is_within at url text (if b then Some at' else None) ≡ (b && port && host)
within_by true at at' url text port host same = same
within_by false at at' url text port host same = refl

host_by : (https : Bool) (at : Url) (url rest : List ℕ) → has_scheme https url ≡ true → length (scheme_of https) ≤ length url → at.is_https ≡ https
    → is_within at url (with_slashes https url ++ rest) (url_where true (with_slashes https url ++ rest))
    ≡ (is_laid rest && at.port == port_of at.is_https (behind_host rest) && str_eq_ignore_ascii_case (host_of at url) (take (host_len rest) rest))
host_by https at url rest is within scheme =
    let text = with_slashes https url ++ rest in
    let behind : drop (length (scheme_of https)) text ≡ rest = drop_at (with_slashes https url) rest (length (scheme_of https)) (slashes_len https url within) in
    let there : url_where true text ≡ (if is_laid rest then Some (parts_behind https rest) else None) =
    url_by https text (scheme_again https url rest is within) (first_again https url rest is within)
    ∙ ap (λ xs. if is_laid xs then Some (parts_behind https xs) else None) behind in
    ap (is_within at url text) there
    ∙ within_by (is_laid rest) at (parts_behind https rest) url text (at.port == port_of at.is_https (behind_host rest))
    (str_eq_ignore_ascii_case (host_of at url) (take (host_len rest) rest)) (same_parts https at url text rest scheme behind)

two_slashes : (location : List ℕ) → (slice_index location 0 == 47 && slice_index location 1 == 47) ≡ true → location ≡ 47 ∷ 47 ∷ drop 2 location
two_slashes [] are = absurd (true≢false (sym are))
two_slashes (c ∷ []) are = absurd (true≢false (sym (and_parts (c == 47) false are).1))
two_slashes (c ∷ d ∷ rest) are =
    let both = and_parts (c == 47) (d == 47) are in
    ap (λ x. x ∷ d ∷ rest) (eqb-true c 47 both.0) ∙ ap (λ x. 47 ∷ x ∷ rest) (eqb-true d 47 both.1)

pub within_host : (at : Url) (url location : List ℕ) → IsPlaced at url → url_where true url ≡ Some at → is_whole location ≡ false
    → (slice_index location 0 == 47 && slice_index location 1 == 47) ≡ true
    → is_within at url (referred at url location) (url_where true (referred at url location))
    ≡ (is_laid (drop 2 location) && at.port == port_of at.is_https (behind_host (drop 2 location))
    && str_eq_ignore_ascii_case (host_of at url) (take (host_len (drop 2 location)) (drop 2 location)))
within_host at url location placed some whole slashes =
    let it = asked at url some in
    let https = has_scheme true url in
    let rest = drop 2 location in
    let both = and_parts (slice_index location 0 == 47) (slice_index location 1 == 47) slashes in
    let host : at.host ≡ length (scheme_of https) = ap (λ x. x.host) it.parts in
    let few : length (scheme_of https) ≤ length url = omega (arith, host, placed.host, placed.port, placed.target) in
    let none : needs_slash at url location ≡ false =
    and_left (length (path_of at url) == 0 && not (is_whole location) && not (slice_index location 0 == 47)) (not (slice_index location 0 == 63))
    (and_right (length (path_of at url) == 0 && not (is_whole location)) (not (slice_index location 0 == 47)) (ap not both.0)) in
    let text : referred at url location ≡ with_slashes https url ++ rest =
    text_by (at.host - 2) false at url location (rw (whole, both.0, both.1) refl) none
    ∙ ap (λ n. take (n - 2) url ++ location) host
    ∙ ap (λ xs. take (length (scheme_of https) - 2) url ++ xs) (two_slashes location slashes)
    ∙ sym (append_assoc (take (length (scheme_of https) - 2) url) (47 ∷ 47 ∷ []) rest) in
    subst (λ xs. is_within at url xs (url_where true xs)
    ≡ (is_laid rest && at.port == port_of at.is_https (behind_host rest) && str_eq_ignore_ascii_case (host_of at url) (take (host_len rest) rest)))
    (sym text)
    (host_by https at url rest it.scheme few (ap (λ x. x.is_https) it.parts))
