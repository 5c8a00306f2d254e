-- A URL by its scheme and what stands behind it, and the same with another path and query.
use Rattle.std.proofs.Common.{◌≡◌, ◌≤◌, ◌+◌, ◌-◌, ◌==◌, ◌&&◌, ◌++◌, ℕ, List, Bool, true, false, not, length, drop, take, nat_le, if◌then◌else◌, Some, None, arith, refl, sym, subst, ap, ◌∙◌, bytes_eq}
use Rattle.std.proofs.lemmas.List.{take-append-le, take-take, length-take-le, length-drop, drop-append-le, drop-take, drop-drop, append_assoc}
use Rattle.std.proofs.lemmas.Bool.{and_parts, and_from, leb-true, eq-eqb}
use Rattle.std.proofs.lemmas.Option.{none-some, same_Some}
use Rattle.std.proofs.lemmas.Slice.Eq.{bytes_eq-Decides}
use Rattle.std.proofs.Math.Seq.{take-add}
use Rattle.std.specs.Str.{str_eq_ignore_ascii_case, str_to_ascii_lowercase}
use Rattle.jwt_request.specs.declared.urls.url.Url.{Url}
use Rattle.jwt_request.specs.urls.Urls.{IsPlaced, scheme_of, has_scheme, behind_scheme, behind_host, host_len, host_of, port_len, is_laid, is_target, parts_behind, behind_port, is_port, same_origin, same_scheme, url_of_scheme, url_where}
use Rattle.jwt_request.specs.urls.References.{is_within}
use Rattle.jwt_request.proofs.Origins.{BeginsTarget, origin_again}

-- a URL of that scheme, which is the first that fits
pub record IsAsked (https : Bool) (at : Url) (url : List ℕ) : Type 0 where
  pub scheme : has_scheme https url ≡ true
  pub first : has_scheme true url ≡ https
  pub laid : is_laid (behind_scheme https url) ≡ true
  pub parts : at ≡ parts_behind https (behind_scheme https url)

asked_by : (b https : Bool) (at : Url) (url : List ℕ) → (has_scheme https url && is_laid (behind_scheme https url)) ≡ b → has_scheme true url ≡ https
    → (if b then Some (parts_behind https (behind_scheme https url)) else None) ≡ Some at → IsAsked https at url
asked_by false https at url is first some = absurd (none-some at some)
asked_by true https at url is first some =
    let both = and_parts (has_scheme https url) (is_laid (behind_scheme https url)) is in
    record { scheme = both.0; first = first; laid = both.1; parts = sym (same_Some (parts_behind https (behind_scheme https url)) at some) }

asked_first : (https : Bool) (at : Url) (url : List ℕ) → has_scheme true url ≡ https
    → (if https then url_of_scheme true url else url_of_scheme false url) ≡ Some at → IsAsked https at url
asked_first true at url first some = asked_by (has_scheme true url && is_laid (behind_scheme true url)) true at url refl first some
asked_first false at url first some = asked_by (has_scheme false url && is_laid (behind_scheme false url)) false at url refl first some

pub asked : (at : Url) (url : List ℕ) → url_where true url ≡ Some at → IsAsked (has_scheme true url) at url
unfolding url_where
asked at url some = asked_first (has_scheme true url) at url refl some

-- what such a URL is, from its scheme and what stands behind
pub url_by : (https : Bool) (url : List ℕ) → has_scheme https url ≡ true → has_scheme true url ≡ https
    → url_where true url ≡ (if is_laid (behind_scheme https url) then Some (parts_behind https (behind_scheme https url)) else None)
unfolding url_where
url_by true url is first = rw is refl
url_by false url is first = rw (first, is) refl

-- the front of a URL stays where its end is another one
front_kept : (n m : ℕ) (url r : List ℕ) → n ≤ m → m ≤ length url → take n (take m url ++ r) ≡ take n url
front_kept n m url r less within =
    let long : length (take m url) ≡ m = length-take-le m url within in
    let fits : n ≤ length (take m url) = omega (arith, long, less) in
    take-append-le n (take m url) r fits ∙ take-take n m url less

scheme_kept : (https : Bool) (m : ℕ) (url r : List ℕ) → 8 ≤ m → m ≤ length url → has_scheme https (take m url ++ r) ≡ has_scheme https url
scheme_kept true m url r less within = ap (λ xs. str_eq_ignore_ascii_case xs (scheme_of true)) (front_kept 8 m url r less within)
scheme_kept false m url r less within = ap (λ xs. str_eq_ignore_ascii_case xs (scheme_of false)) (front_kept 7 m url r (omega (arith, less)) within)

-- a part within the front, too
part_kept : (from to m : ℕ) (url r : List ℕ) → from ≤ to → to ≤ m → m ≤ length url → take (to - from) (drop from (take m url ++ r)) ≡ take (to - from) (drop from url)
part_kept from to m url r order less within =
    let long : length (take m url) ≡ m = length-take-le m url within in
    let fits : from ≤ length (take m url) = omega (arith, long, order, less) in
    let whole : from + (m - from) ≡ m = omega (arith, order, less) in
    let middle : drop from (take m url) ≡ take (m - from) (drop from url) = subst (λ k. drop from (take k url) ≡ take (m - from) (drop from url)) whole (drop-take from (m - from) url) in
    let enough : m - from ≤ length (drop from url) = omega (arith, length-drop from url, within) in
    ap (take (to - from)) (drop-append-le from (take m url) r fits ∙ ap (λ xs. xs ++ r) middle)
    ∙ front_kept (to - from) (m - from) (drop from url) r (omega (arith, order, less)) enough

pub same_as_itself : (https : Bool) → (if https then https else not https) ≡ true
same_as_itself true = refl
same_as_itself false = refl

pub within_where : (b : Bool) (at at' : Url) (url text : List ℕ) → same_origin at url at' text ≡ true
    → is_within at url text (if b then Some at' else None) ≡ b
within_where true at at' url text same = same
within_where false at at' url text same = refl

pub bytes_same : (xs : List ℕ) → bytes_eq xs xs ≡ true
bytes_same xs = (bytes_eq-Decides xs xs).1 refl

-- a scheme has eight octets at most
pub scheme_few : (https : Bool) → (7 ≤ length (scheme_of https)) × (length (scheme_of https) ≤ 8)
scheme_few true = (omega arith, omega arith)
scheme_few false = (omega arith, omega arith)

-- a URL with another path and query
origin_by : (https : Bool) (url r : List ℕ) → has_scheme https url ≡ true → has_scheme true url ≡ https → is_laid (behind_scheme https url) ≡ true
    → (parts_behind https (behind_scheme https url)).target ≤ length url → BeginsTarget r
    → url_where true (take (parts_behind https (behind_scheme https url)).target url ++ r)
    ≡ (if is_target r then Some (parts_behind https (behind_scheme https url)) else None)
origin_by https url r is first laid within begins =
    let n = length (scheme_of https) in
    let o = behind_scheme https url in
    let h = host_len o in
    let q = behind_host o in
    let p = port_len q in
    let m = n + h + p in
    let few = scheme_few https in
    let outer = and_parts (nat_le 1 h && is_port q) (is_target (behind_port o)) laid in
    let inner = and_parts (nat_le 1 h) (is_port q) outer.0 in
    let some : 1 ≤ h = leb-true 1 h inner.0 in
    let enough : 8 ≤ m = omega (arith, few.0, some) in
    let fits : h + p ≤ length o = omega (arith, within, length-drop n url) in
    let sum : n + (h + p) ≡ m = omega arith in
    let long : length (take m url) ≡ m = length-take-le m url within in
    let n_fits : n ≤ length (take m url) = omega (arith, long) in
    let behind : drop n (take m url ++ r) ≡ take h o ++ (take p q ++ r) =
    drop-append-le n (take m url) r n_fits
    ∙ ap (λ k. drop n (take k url) ++ r) (sym sum)
    ∙ ap (λ xs. xs ++ r) (drop-take n (h + p) url ∙ take-add h p o)
    ∙ append_assoc (take h o) (take p q) r in
    let again = origin_again o r begins laid fits in
    url_by https (take m url ++ r) (scheme_kept https m url r enough within ∙ is) (scheme_kept true m url r enough within ∙ first)
    ∙ ap (λ xs. if is_laid xs then Some (parts_behind https xs) else None) behind
    ∙ rw (again.laid, again.parts https) refl

pub origin_kept : (at : Url) (url r : List ℕ) → at.target ≤ length url → url_where true url ≡ Some at → BeginsTarget r
    → url_where true (take at.target url ++ r) ≡ (if is_target r then Some at else None)
origin_kept at url r within some begins =
    let it = asked at url some in
    let there : (parts_behind (has_scheme true url) (behind_scheme (has_scheme true url) url)).target ≤ length url = subst (λ x. x.target ≤ length url) it.parts within in
    subst (λ x. url_where true (take x.target url ++ r) ≡ (if is_target r then Some x else None)) (sym it.parts)
    (origin_by (has_scheme true url) url r it.scheme refl it.laid there begins)

pub within_origin : (at : Url) (url r : List ℕ) → IsPlaced at url → url_where true url ≡ Some at → BeginsTarget r
    → is_within at url (take at.target url ++ r) (url_where true (take at.target url ++ r)) ≡ is_target r
within_origin at url r placed some begins =
    let text = take at.target url ++ r in
    let host : host_of at text ≡ host_of at url = part_kept at.host at.host_end at.target url r placed.host placed.port placed.target in
    let hosts : str_eq_ignore_ascii_case (host_of at url) (host_of at text) ≡ true =
    ap (λ xs. str_eq_ignore_ascii_case (host_of at url) xs) host ∙ bytes_same (str_to_ascii_lowercase (host_of at url)) in
    let ports : (at.port == at.port) ≡ true = eq-eqb at.port at.port refl in
    let same : same_origin at url at text ≡ true = rw (hosts, ports) (and_from (same_scheme at at && true) true (and_from (same_scheme at at) true (same_as_itself at.is_https) refl) refl) in
    rw (origin_kept at url r placed.target some begins) (within_where (is_target r) at at url text same)

-- its path and query
pub target_of : (at : Url) (url : List ℕ) → url_where true url ≡ Some at → is_target (drop at.target url) ≡ true
target_of at url some =
    let it = asked at url some in
    let https = has_scheme true url in
    let n = length (scheme_of https) in
    let o = behind_scheme https url in
    let outer = and_parts (nat_le 1 (host_len o) && is_port (behind_host o)) (is_target (behind_port o)) it.laid in
    let place : behind_port o ≡ drop (n + host_len o + port_len (behind_host o)) url =
    ap (drop (port_len (behind_host o))) (drop-drop (host_len o) n url) ∙ drop-drop (port_len (behind_host o)) (n + host_len o) url in
    subst (λ x. is_target (drop x.target url) ≡ true) (sym it.parts) (ap is_target (sym place) ∙ outer.1)
