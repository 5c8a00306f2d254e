-- A normal form is its own normal form, and which URIs are one.
use Rattle.std.proofs.Common.{◌≡◌, ◌<◌, ℕ, ◌==◌, Bool, true, false, cond, not, nat_lt, ◌&&◌, List, ◌∷◌, ◌++◌, length, take, drop, map, Option, Some, None, is_some, option_map, option_and_then, codes, bytes_eq, refl, sym, ap, ap₂, subst, ◌∙◌, arith, true≢false, append_assoc, take_at, drop_at, take-append-drop, if◌then◌else◌, ◌≢◌, ltb-true, lt-ltb}
use Rattle.std.specs.List.{All, list_any, slice_split}
use Rattle.std.specs.Option.{option_or}
use Rattle.std.specs.Char.{to_ascii_lowercase}
use Rattle.std.specs.Str.{str_eq_ignore_ascii_case}
use Rattle.std.proofs.lemmas.Option.{same_Some, none-some, cond_some}
use Rattle.std.proofs.lemmas.Bool.{and_parts, and_from}
use Rattle.std.proofs.lemmas.List.{length-map}
use Rattle.std.proofs.lemmas.List.Elements.{All-from_recursion}
use Rattle.std.proofs.lemmas.Slice.Eq.{bytes_eq-Decides}
use Rattle.jwt_possession.specs.Uris.{before, from, without_query, behind, host_length, host_of, port_of, is_port, is_authority, normal_port, is_unreserved, decoded, normal_path, normal_behind, normal_of, normal_uri}
use Rattle.jwt_policy.specs.Texts.{some_passes}
use Rattle.jwt_possession.specs.UriLaws.{NormalIsNormal, SameAsItsNormal, SameBothWays, SameThroughout, SameByParts, AreAlike, NoDots, is_secure, rest_of, host_form, port_form, path_form}
use Rattle.jwt_possession.proofs.Settled.{map_some, then_some, lower_decoded}
use Rattle.jwt_possession.proofs.Lacking.{Lacks, lacks_append, lacks_take, lacks_drop, lacks_lower, lacks_decoded, lacks_before, before_all, before_at, from_at, from_cases, any_lacks, lacks_any}
use Rattle.jwt_possession.proofs.Paths.{IsNormalPath, IsPlain, each_so, path_is_normal}
use Rattle.jwt_possession.proofs.Authorities.{some_decoded, port_again, port_is_port, port_lacks, host_again}

-- ---- the parts of a normal form

abbrev by_parts : List ℕ → List ℕ → List ℕ → List ℕ → Option (List ℕ)
by_parts scheme own authority path =
    cond (is_authority authority) (option_and_then (λ host. option_map (λ path.
    scheme ++ (map to_ascii_lowercase host ++ (normal_port own (port_of authority) ++ normal_path path))) (decoded path)) (decoded (host_of authority))) None

not_false : (b : Bool) → not b ≡ true → b ≡ false
not_false true h = absurd (true≢false (sym h))
not_false false h = refl

-- what stands behind the scheme has no query and no fragment, and is its own normal form
pub record IsNormalRest (scheme own old rest : List ℕ) : Type 0 where
  pub no_query : Lacks 63 rest
  pub no_fragment : Lacks 35 rest
  pub again : normal_behind scheme own rest ≡ Some (scheme ++ rest)
  -- each of its parts can be read of it
  pub host : option_map (map to_ascii_lowercase) (decoded (host_of (before 47 old))) ≡ Some (host_of (before 47 rest))
  pub port : normal_port own (port_of (before 47 old)) ≡ port_of (before 47 rest)
  pub path : option_map normal_path (decoded (from 47 old)) ≡ Some (from 47 rest)

module _ (scheme own rest host path : List ℕ) (no_query : Lacks 63 rest) (no_fragment : Lacks 35 rest)
    (is : is_authority (before 47 rest) ≡ true) (hosts : decoded (host_of (before 47 rest)) ≡ Some host) (paths : decoded (from 47 rest) ≡ Some path) where
  abbrev authority : List ℕ
  authority = before 47 rest

  abbrev small : List ℕ
  small = map to_ascii_lowercase host

  abbrev port : List ℕ
  port = normal_port own (port_of authority)

  abbrev tail : List ℕ
  tail = normal_path path

  small_lacks : (c : ℕ) → c < 65 → is_unreserved c ≡ false → (37 == c) ≡ false → Lacks c authority → Lacks c small
  small_lacks c less other sign h = lacks_lower c host less (lacks_decoded c (host_of authority) host other sign hosts (lacks_take c _ authority h))

  port_lacking : (c : ℕ) → Lacks c authority → Lacks c port
  port_lacking c h = port_lacks c own (port_of authority) (lacks_drop c _ authority h)

  both_lack : (c : ℕ) → c < 65 → is_unreserved c ≡ false → (37 == c) ≡ false → Lacks c authority → Lacks c (small ++ port)
  both_lack c less other sign h = lacks_append c small port (small_lacks c less other sign h) (port_lacking c h)

  normal_tail : IsNormalPath tail
  normal_tail = path_is_normal (from 47 rest) path (from_cases 47 rest) paths (lacks_drop 63 _ rest no_query) (lacks_drop 35 _ rest no_fragment)

  facts : (list_any (λ x. x == 64) authority ≡ false) × (0 < length (host_of authority)) × (is_port (port_of authority) ≡ true)
  facts =
      let cut = and_parts (not (list_any (λ x. x == 64) authority)) (nat_lt 0 (length (host_of authority)) && is_port (port_of authority)) is in
      let more = and_parts (nat_lt 0 (length (host_of authority))) (is_port (port_of authority)) cut.1 in
      (not_false (list_any (λ x. x == 64) authority) cut.0, ltb-true 0 (length (host_of authority)) more.0, more.1)

  length_again : host_length (small ++ port) ≡ length small
  length_again = host_again authority host own hosts facts.1 facts.2

  host_same : host_of (small ++ port) ≡ small
  host_same = take_at small port (host_length (small ++ port)) (sym length_again)

  port_same : port_of (small ++ port) ≡ port
  port_same = drop_at small port (host_length (small ++ port)) (sym length_again)

  authority_again : is_authority (small ++ port) ≡ true
  authority_again =
      let some : 0 < length small = omega (arith, some_decoded (host_of authority) host hosts facts.1, length-map host to_ascii_lowercase) in
      and_from _ _ (ap not (any_lacks 64 (small ++ port) (both_lack 64 (omega arith) refl refl (lacks_any 64 authority facts.0))))
      (and_from _ _ (ap (λ h. nat_lt 0 (length h)) host_same ∙ lt-ltb 0 (length small) some) (ap is_port port_same ∙ port_is_port own (port_of authority) facts.2))

  whole : small ++ (port ++ tail) ≡ (small ++ port) ++ 47 ∷ normal_tail.rest
  whole = sym (append_assoc small port tail) ∙ ap (λ t. (small ++ port) ++ t) normal_tail.slash

  front_again : before 47 (small ++ (port ++ tail)) ≡ small ++ port
  front_again = ap (before 47) whole ∙ before_at 47 (small ++ port) normal_tail.rest (both_lack 47 (omega arith) refl refl (lacks_before 47 rest))

  tail_again : from 47 (small ++ (port ++ tail)) ≡ tail
  tail_again = ap (from 47) whole ∙ from_at 47 (small ++ port) normal_tail.rest (both_lack 47 (omega arith) refl refl (lacks_before 47 rest)) ∙ sym normal_tail.slash

  is_normal : IsNormalRest scheme own rest (small ++ (port ++ tail))
  is_normal =
      let host = lower_decoded (host_of authority) host hosts in
      let cut = ap₂ (by_parts scheme own) front_again tail_again in
      let taken = ap (λ b. cond b (option_and_then (λ host. option_map (λ path.
      scheme ++ (map to_ascii_lowercase host ++ (normal_port own (port_of (small ++ port)) ++ normal_path path))) (decoded tail)) (decoded (host_of (small ++ port)))) None) authority_again in
      let read = ap₂ (λ (o p : Option (List ℕ)). option_and_then (λ host. option_map (λ path.
      scheme ++ (map to_ascii_lowercase host ++ (normal_port own (port_of (small ++ port)) ++ normal_path path))) p) o) (ap decoded host_same ∙ host.1) normal_tail.settled in
      let ports : normal_port own (port_of (small ++ port)) ≡ port = ap (normal_port own) port_same ∙ port_again own (port_of authority) in
      let put = ap Some (ap (λ t. scheme ++ t) (ap₂ (λ x y. x ++ y) host.2 (ap₂ (λ x y. x ++ y) ports normal_tail.own))) in
      record {
        no_query = lacks_append 63 small (port ++ tail) (small_lacks 63 (omega arith) refl refl (lacks_take 63 _ rest no_query)) (lacks_append 63 port tail (port_lacking 63 (lacks_take 63 _ rest no_query)) normal_tail.no_query);
        no_fragment = lacks_append 35 small (port ++ tail) (small_lacks 35 (omega arith) refl refl (lacks_take 35 _ rest no_fragment)) (lacks_append 35 port tail (port_lacking 35 (lacks_take 35 _ rest no_fragment)) normal_tail.no_fragment);
        again = cut ∙ taken ∙ read ∙ put;
        host = ap (option_map (map to_ascii_lowercase)) hosts ∙ ap Some (sym (ap host_of front_again ∙ host_same));
        port = sym (ap port_of front_again ∙ port_same);
        path = ap (option_map normal_path) paths ∙ ap Some (sym tail_again);
      }

pub normal_rest : (scheme own rest normal : List ℕ) → Lacks 63 rest → Lacks 35 rest → normal_behind scheme own rest ≡ Some normal
    → (behind : List ℕ) × (normal ≡ scheme ++ behind) × IsNormalRest scheme own rest behind
normal_rest scheme own rest normal no_query no_fragment e = by (is_authority (before 47 rest)) refl e
  where
    by : (b : Bool) → is_authority (before 47 rest) ≡ b
        → cond b (option_and_then (λ host. option_map (λ path.
        scheme ++ (map to_ascii_lowercase host ++ (normal_port own (port_of (before 47 rest)) ++ normal_path path))) (decoded (from 47 rest))) (decoded (host_of (before 47 rest)))) None ≡ Some normal
        → (behind : List ℕ) × (normal ≡ scheme ++ behind) × IsNormalRest scheme own rest behind
    by false is e = absurd (none-some normal e)
    by true is e =
        let host = then_some (λ host. option_map (λ path.
        scheme ++ (map to_ascii_lowercase host ++ (normal_port own (port_of (before 47 rest)) ++ normal_path path))) (decoded (from 47 rest))) (decoded (host_of (before 47 rest))) normal e in
        let path = map_some (λ path. scheme ++ (map to_ascii_lowercase host.0 ++ (normal_port own (port_of (before 47 rest)) ++ normal_path path))) (decoded (from 47 rest)) normal host.2 in (
          map to_ascii_lowercase host.0 ++ (normal_port own (port_of (before 47 rest)) ++ normal_path path.0),
          sym path.2,
          is_normal scheme own rest host.0 path.0 no_query no_fragment is host.1 path.1,
        )

-- ---- a normal form

-- by its scheme
pub data IsNormal (uri normal : List ℕ) : Type 0 where
  secure : (old rest : List ℕ) → is_secure uri ≡ true → rest_of uri ≡ Some old → normal ≡ codes "https://" ++ rest → IsNormalRest (codes "https://") (codes ":443") old rest → IsNormal uri normal
  plain : (old rest : List ℕ) → is_secure uri ≡ false → rest_of uri ≡ Some old → normal ≡ codes "http://" ++ rest → IsNormalRest (codes "http://") (codes ":80") old rest → IsNormal uri normal

behind_lacks : (c : ℕ) (scheme text rest : List ℕ) → behind scheme text ≡ Some rest → Lacks c text → Lacks c rest
behind_lacks c scheme text rest e h =
    let cut = cond_some (str_eq_ignore_ascii_case (take (length scheme) text) scheme) (drop (length scheme) text) rest e in
    subst (Lacks c) cut.1 (lacks_drop c (length scheme) text h)

read_normal : (uri normal : List ℕ) (https http : Option (List ℕ)) → behind (codes "https://") (without_query uri) ≡ https → behind (codes "http://") (without_query uri) ≡ http
    → normal_of https http ≡ Some normal → IsNormal uri normal
read_normal uri normal (Some rest) http first second e =
    let no_query = behind_lacks 63 (codes "https://") (without_query uri) rest first (lacks_take 63 _ (before 63 uri) (lacks_before 63 uri)) in
    let no_fragment = behind_lacks 35 (codes "https://") (without_query uri) rest first (lacks_before 35 (before 63 uri)) in
    let found = normal_rest (codes "https://") (codes ":443") rest normal no_query no_fragment e in
    secure rest found.0 (ap is_some first) (ap (λ o. option_or o (behind (codes "http://") (without_query uri))) first) found.1 found.2
read_normal uri normal None (Some rest) first second e =
    let no_query = behind_lacks 63 (codes "http://") (without_query uri) rest second (lacks_take 63 _ (before 63 uri) (lacks_before 63 uri)) in
    let no_fragment = behind_lacks 35 (codes "http://") (without_query uri) rest second (lacks_before 35 (before 63 uri)) in
    let found = normal_rest (codes "http://") (codes ":80") rest normal no_query no_fragment e in
    plain rest found.0 (ap is_some first) (ap₂ option_or first second) found.1 found.2
read_normal uri normal None None first second e = absurd (none-some normal e)

is_normal_form : (uri normal : List ℕ) → normal_uri uri ≡ Some normal → IsNormal uri normal
unfolding normal_uri
is_normal_form uri normal e = read_normal uri normal _ _ refl refl e

nothing_cut : (text : List ℕ) → Lacks 63 text → Lacks 35 text → without_query text ≡ text
nothing_cut text no_query no_fragment = ap (before 35) (before_all 63 text no_query) ∙ before_all 35 text no_fragment

of_normal : (uri normal : List ℕ) → IsNormal uri normal → normal_uri normal ≡ Some normal
unfolding normal_uri
of_normal uri normal (secure old rest is at e so) =
    let text : without_query (codes "https://" ++ rest) ≡ codes "https://" ++ rest =
    nothing_cut (codes "https://" ++ rest) (lacks_append 63 (codes "https://") rest (lacks_any 63 (codes "https://") refl) so.no_query) (lacks_append 35 (codes "https://") rest (lacks_any 35 (codes "https://") refl) so.no_fragment) in
    subst (λ n. normal_uri n ≡ Some n) (sym e) (ap (λ t. normal_of (behind (codes "https://") t) (behind (codes "http://") t)) text ∙ so.again)
of_normal uri normal (plain old rest is at e so) =
    let text : without_query (codes "http://" ++ rest) ≡ codes "http://" ++ rest =
    nothing_cut (codes "http://" ++ rest) (lacks_append 63 (codes "http://") rest (lacks_any 63 (codes "http://") refl) so.no_query) (lacks_append 35 (codes "http://") rest (lacks_any 35 (codes "http://") refl) so.no_fragment) in
    subst (λ n. normal_uri n ≡ Some n) (sym e) (ap (λ t. normal_of (behind (codes "https://") t) (behind (codes "http://") t)) text ∙ so.again)

pub normal_is_normal : NormalIsNormal
normal_is_normal uri normal e = of_normal uri normal (is_normal_form uri normal e)

-- ---- one URI

same_text : (text : List ℕ) → bytes_eq text text ≡ true
same_text text = (bytes_eq-Decides text text).1 refl

pub same_as_its_normal : SameAsItsNormal
same_as_its_normal uri normal e = rw e (rw (normal_is_normal uri normal e) (same_text normal))

scheme_text : (uri normal : List ℕ) → IsNormal uri normal → bytes_eq (take 5 normal) (codes "https") ≡ is_secure uri
scheme_text uri normal (secure old rest is at e so) = ap (λ n. bytes_eq (take 5 n) (codes "https")) e ∙ sym is
scheme_text uri normal (plain old rest is at e so) = ap (λ n. bytes_eq (take 5 n) (codes "https")) e ∙ sym is

same_parts : (one two : Option (List ℕ)) → some_passes (λ normal. some_passes (bytes_eq normal) two) one ≡ true → (normal : List ℕ) × (one ≡ Some normal) × (two ≡ Some normal)
same_parts (Some a) (Some b) h = (a, refl, ap Some (sym ((bytes_eq-Decides a b).0 h)))
same_parts (Some a) None h = absurd (true≢false (sym h))
same_parts None two h = absurd (true≢false (sym h))

-- the parts of a normal form
pub record HasParts (uri normal : List ℕ) : Type 0 where
  pub rest : List ℕ
  pub whole : normal ≡ (if is_secure uri then codes "https://" else codes "http://") ++ rest
  pub host : host_form uri ≡ Some (host_of (before 47 rest))
  pub port : port_form uri ≡ Some (port_of (before 47 rest))
  pub path : path_form uri ≡ Some (from 47 rest)

parts_of : (uri normal : List ℕ) → IsNormal uri normal → HasParts uri normal
parts_of uri normal (secure old rest is at e so) = record {
  rest = rest;
  whole = e ∙ ap (λ b. (if b then codes "https://" else codes "http://") ++ rest) (sym is);
  host = ap (λ o. option_map (map to_ascii_lowercase) (option_and_then (λ rest. decoded (host_of (before 47 rest))) o)) at ∙ so.host;
  port = ap₂ (λ b o. option_map (λ rest. normal_port (if b then codes ":443" else codes ":80") (port_of (before 47 rest))) o) is at ∙ ap Some so.port;
  path = ap (λ o. option_map normal_path (option_and_then (λ rest. decoded (from 47 rest)) o)) at ∙ so.path;
}
parts_of uri normal (plain old rest is at e so) = record {
  rest = rest;
  whole = e ∙ ap (λ b. (if b then codes "https://" else codes "http://") ++ rest) (sym is);
  host = ap (λ o. option_map (map to_ascii_lowercase) (option_and_then (λ rest. decoded (host_of (before 47 rest))) o)) at ∙ so.host;
  port = ap₂ (λ b o. option_map (λ rest. normal_port (if b then codes ":443" else codes ":80") (port_of (before 47 rest))) o) is at ∙ ap Some so.port;
  path = ap (λ o. option_map normal_path (option_and_then (λ rest. decoded (from 47 rest)) o)) at ∙ so.path;
}

drop_scheme : (b : Bool) (rest : List ℕ) → drop (if b then 8 else 7) ((if b then codes "https://" else codes "http://") ++ rest) ≡ rest
drop_scheme true rest = refl
drop_scheme false rest = refl

-- a text by its host, its port and its path
by_its_parts : (rest : List ℕ) → rest ≡ (host_of (before 47 rest) ++ port_of (before 47 rest)) ++ from 47 rest
by_its_parts rest = sym (ap (λ a. a ++ from 47 rest) (take-append-drop (host_length (before 47 rest)) (before 47 rest)) ∙ take-append-drop _ rest)

one_form : (one two normal : List ℕ) → HasParts one normal → HasParts two normal → is_secure one ≡ is_secure two → AreAlike one two
one_form one two normal a b scheme =
    let same : a.rest ≡ b.rest =
    sym (drop_scheme (is_secure one) a.rest) ∙ ap (drop (if is_secure one then 8 else 7)) (sym a.whole ∙ b.whole)
    ∙ ap (λ s. drop (if s then 8 else 7) ((if is_secure two then codes "https://" else codes "http://") ++ b.rest)) scheme ∙ drop_scheme (is_secure two) b.rest in
    record {
      scheme = scheme;
      host = a.host ∙ ap (λ r. Some (host_of (before 47 r))) same ∙ sym b.host;
      port = a.port ∙ ap (λ r. Some (port_of (before 47 r))) same ∙ sym b.port;
      path = a.path ∙ ap (λ r. Some (from 47 r)) same ∙ sym b.path;
    }

alike_form : (one two first second : List ℕ) → HasParts one first → HasParts two second → AreAlike one two → first ≡ second
alike_form one two first second a b so =
    let host = same_Some _ _ (sym a.host ∙ so.host ∙ b.host) in
    let port = same_Some _ _ (sym a.port ∙ so.port ∙ b.port) in
    let path = same_Some _ _ (sym a.path ∙ so.path ∙ b.path) in
    let rest : a.rest ≡ b.rest = by_its_parts a.rest ∙ ap₂ (λ x y. x ++ y) (ap₂ (λ x y. x ++ y) host port) path ∙ sym (by_its_parts b.rest) in
    a.whole ∙ ap₂ (λ s r. (if s then codes "https://" else codes "http://") ++ r) so.scheme rest ∙ sym b.whole

pub same_by_parts : SameByParts
same_by_parts one two first second e f = (
  λ h.
      let same = same_parts (normal_uri one) (normal_uri two) h in
      let left = is_normal_form one same.0 same.1 in
      let right = is_normal_form two same.0 same.2 in
      one_form one two same.0 (parts_of one same.0 left) (parts_of two same.0 right) (sym (scheme_text one same.0 left) ∙ scheme_text two same.0 right),
  λ so.
      let alike = alike_form one two first second (parts_of one first (is_normal_form one first e)) (parts_of two second (is_normal_form two second f)) so in
      rw e (rw f (subst (λ n. bytes_eq first n ≡ true) alike (same_text first))),
)

differ : (s t : List ℕ) → bytes_eq s t ≡ false → s ≢ t
differ s t off is = true≢false (sym ((bytes_eq-Decides s t).1 is) ∙ off)

rest_lacks : (c : ℕ) (uri rest : List ℕ) → Lacks c (without_query uri) → rest_of uri ≡ Some rest → Lacks c rest
rest_lacks c uri rest h e = by (behind (codes "https://") (without_query uri)) (behind (codes "http://") (without_query uri)) refl refl e
  where
    by : (o p : Option (List ℕ)) → behind (codes "https://") (without_query uri) ≡ o → behind (codes "http://") (without_query uri) ≡ p → option_or o p ≡ Some rest → Lacks c rest
    by (Some x) p first second e = behind_lacks c (codes "https://") (without_query uri) rest (first ∙ e) h
    by None p first second e = behind_lacks c (codes "http://") (without_query uri) rest (second ∙ e) h

pub no_dots : NoDots
no_dots uri path e =
    let read = map_some normal_path (option_and_then (λ rest. decoded (from 47 rest)) (rest_of uri)) path e in
    let rest = then_some (λ rest. decoded (from 47 rest)) (rest_of uri) read.0 read.1 in
    let no_query = rest_lacks 63 uri rest.0 (lacks_take 63 _ (before 63 uri) (lacks_before 63 uri)) rest.1 in
    let no_fragment = rest_lacks 35 uri rest.0 (lacks_before 35 (before 63 uri)) rest.1 in
    let normal = path_is_normal (from 47 rest.0) read.0 (from_cases 47 rest.0) rest.2 (lacks_drop 63 _ rest.0 no_query) (lacks_drop 35 _ rest.0 no_fragment) in
    subst (λ p. All (λ segment. (segment ≢ codes ".") × (segment ≢ codes "..")) (slice_split (λ x. x == 47) p)) read.2
    (All-from_recursion (λ segment. (segment ≢ codes ".") × (segment ≢ codes "..")) _
    (each_so IsPlain (λ segment. (segment ≢ codes ".") × (segment ≢ codes "..")) (λ s plain. (differ s (codes ".") plain.0, differ s (codes "..") plain.1)) _ normal.plain))

bytes_both_ways : (a b : List ℕ) → bytes_eq a b ≡ bytes_eq b a
bytes_both_ways a b = by (bytes_eq a b) (bytes_eq b a) refl refl
  where
    by : (t u : Bool) → bytes_eq a b ≡ t → bytes_eq b a ≡ u → bytes_eq a b ≡ bytes_eq b a
    by true u is other = is ∙ sym ((bytes_eq-Decides b a).1 (sym ((bytes_eq-Decides a b).0 is)))
    by false true is other = (bytes_eq-Decides a b).1 (sym ((bytes_eq-Decides b a).0 other)) ∙ sym other
    by false false is other = is ∙ sym other

both_ways : (one two : Option (List ℕ)) → some_passes (λ normal. some_passes (bytes_eq normal) two) one ≡ some_passes (λ normal. some_passes (bytes_eq normal) one) two
both_ways (Some a) (Some b) = bytes_both_ways a b
both_ways (Some a) None = refl
both_ways None (Some b) = refl
both_ways None None = refl

pub same_both_ways : SameBothWays
same_both_ways one two = both_ways (normal_uri one) (normal_uri two)

pub same_throughout : SameThroughout
same_throughout one two three h k =
    let first = same_parts (normal_uri one) (normal_uri two) h in
    let second = same_parts (normal_uri two) (normal_uri three) k in
    let one_form : first.0 ≡ second.0 = same_Some first.0 second.0 (sym first.2 ∙ second.1) in
    rw first.1 (rw second.2 (subst (λ n. bytes_eq first.0 n ≡ true) one_form (same_text first.0)))
