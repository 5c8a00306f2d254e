-- The normal form of an authority is its own.
use Rattle.std.proofs.Common.{◌≡◌, ◌⊎◌, ◌<◌, ◌≤◌, ℕ, zero, suc, ◌+◌, ◌-◌, min, ◌==◌, Bool, true, false, cond, not, ◌&&◌, ◌||◌, List, [], ◌∷◌, ◌++◌, length, take, map, Some, codes, bytes_eq, refl, sym, ap, subst, ◌∙◌, inl, inr, arith, eqb, eqb-true, append-nil, length-drop, length-append}
use Rattle.std.proofs.lemmas.Option.{same_Some}
use Rattle.std.proofs.lemmas.List.{length-map, drop_all}
use Rattle.std.proofs.lemmas.Bool.{and_parts}
use Rattle.std.proofs.lemmas.List.Folds.{prefix_len-append}
use Rattle.std.specs.List.{list_all, position_or_len}
use Rattle.std.specs.Char.{to_ascii_lowercase, is_ascii_digit}
use Rattle.jwt_possession.specs.Uris.{before, from, host_length, host_of, port_of, is_port, normal_port, decoded}
use Rattle.jwt_possession.proofs.Settled.{Written, itself, encoded, differs, triplet_written, along}
use Rattle.jwt_possession.proofs.Lacking.{Lacks, lacks_lower, lacks_decoded, lower_is_opening, lower_is_closing, place_lacks, place_at, lacks_before, from_no, from_yes, from_cases, from_lower, from_decoded}

-- ---- an address in brackets

abbrev pub is_address : List ℕ → Bool
is_address text = bytes_eq (take 1 text) (codes "[")

address_front : (front ys : List ℕ) → Written front → is_address (front ++ ys) ≡ false
address_front front ys (itself o is e) = ap (λ f. is_address (f ++ ys)) e ∙ rw (differs o 91 is refl) refl
address_front front ys (encoded b c high low is e) = ap (λ f. is_address (f ++ ys)) e

address_decoded : (xs ys : List ℕ) → decoded xs ≡ Some ys → is_address ys ≡ is_address xs
address_decoded = along (λ xs ys. is_address ys ≡ is_address xs) refl (λ a xs ys other so. refl) (λ b c front xs ys is so. address_front front ys (triplet_written b c front is))

address_lower : (xs : List ℕ) → is_address (map to_ascii_lowercase xs) ≡ is_address xs
address_lower [] = refl
address_lower (x ∷ xs) = ap (λ b. b && true) (lower_is_opening x)

-- of some octets the first decides
address_append : (xs ys : List ℕ) → 0 < length xs → is_address (xs ++ ys) ≡ is_address xs
address_append [] ys some = absurd (omega (arith, some))
address_append (x ∷ xs) ys some = refl

address_take : (n : ℕ) (xs : List ℕ) → 0 < length (take n xs) → is_address (take n xs) ≡ is_address xs
address_take zero xs some = absurd (omega (arith, some))
address_take (suc n) [] some = refl
address_take (suc n) (x ∷ xs) some = refl

-- it is closed by the first bracket that closes, if there is one
closed : (xs : List ℕ) → from 93 (take (min (position_or_len (λ x. x == 93) xs + 1) (length xs)) xs) ≡ take 1 (from 93 xs)
closed [] = refl
closed (x ∷ xs) = by (x == 93) refl (closed xs)
  where
    by : (b : Bool) → (x == 93) ≡ b → from 93 (take (min (position_or_len (λ x. x == 93) xs + 1) (length xs)) xs) ≡ take 1 (from 93 xs)
        → from 93 (take (min (cond (not b) (1 + position_or_len (λ x. x == 93) xs) 0 + 1) (length (x ∷ xs))) (x ∷ xs)) ≡ take 1 (from 93 (x ∷ xs))
    by true is so =
        let one : min (0 + 1) (length (x ∷ xs)) ≡ 1 = omega arith in
        ap (λ n. from 93 (take n (x ∷ xs))) one ∙ from_yes 93 x [] is ∙ ap (take 1) (sym (from_yes 93 x xs is))
    by false off so =
        let more : min (1 + position_or_len (λ x. x == 93) xs + 1) (length (x ∷ xs)) ≡ suc (min (position_or_len (λ x. x == 93) xs + 1) (length xs)) = omega arith in
        ap (λ n. from 93 (take n (x ∷ xs))) more ∙ from_no 93 x (take (min (position_or_len (λ x. x == 93) xs + 1) (length xs)) xs) off ∙ so ∙ ap (take 1) (sym (from_no 93 x xs off))

-- ---- ports

normal_cases : (own port : List ℕ) → (normal_port own port ≡ []) ⊎ (normal_port own port ≡ port)
normal_cases own port = by (bytes_eq port own || bytes_eq port (codes ":"))
  where
    by : (b : Bool) → (cond b [] port ≡ []) ⊎ (cond b [] port ≡ port)
    by true = inl refl
    by false = inr refl

pub port_of_none : (own : List ℕ) → normal_port own [] ≡ []
port_of_none own = by (bytes_eq [] own || bytes_eq [] (codes ":"))
  where
    by : (b : Bool) → ◌≡◌ {A = List ℕ} (cond b [] []) []
    by true = refl
    by false = refl

pub port_again : (own port : List ℕ) → normal_port own (normal_port own port) ≡ normal_port own port
port_again own port = by (bytes_eq port own || bytes_eq port (codes ":")) refl
  where
    by : (b : Bool) → (bytes_eq port own || bytes_eq port (codes ":")) ≡ b → normal_port own (cond b [] port) ≡ cond b [] port
    by true is = port_of_none own
    by false is = ap (λ b. cond b [] port) is

pub port_is_port : (own port : List ℕ) → is_port port ≡ true → is_port (normal_port own port) ≡ true
port_is_port own port is = elim (normal_cases own port) [ inl none ↦ ap is_port none | inr all ↦ ap is_port all ∙ is ]

pub port_lacks : (c : ℕ) (own port : List ℕ) → Lacks c port → Lacks c (normal_port own port)
port_lacks c own port h = elim (normal_cases own port) [ inl none ↦ subst (Lacks c) (sym none) tt | inr all ↦ subst (Lacks c) (sym all) h ]

-- nothing, or a colon and more
port_cases : (port : List ℕ) → is_port port ≡ true → (port ≡ []) ⊎ ((digits : List ℕ) × (port ≡ 58 ∷ digits))
port_cases [] is = inl refl
port_cases (c ∷ digits) is = inr (digits, ap (λ x. x ∷ digits) (eqb-true c 58 (and_parts (c == 58) (list_all is_ascii_digit digits) is).0))

-- ---- hosts

pub some_decoded : (xs ys : List ℕ) → decoded xs ≡ Some ys → 0 < length xs → 0 < length ys
some_decoded = along (λ xs ys. 0 < length xs → 0 < length ys) (λ h. h) (λ a xs ys other so h. omega arith) (λ b c front xs ys is so h. written front ys (triplet_written b c front is))
  where
    written : (front ys : List ℕ) → Written front → 0 < length (front ++ ys)
    written front ys (itself o is e) = subst (λ f. 0 < length (f ++ ys)) (sym e) (omega arith)
    written front ys (encoded b c high low is e) = subst (λ f. 0 < length (f ++ ys)) (sym e) (omega arith)

-- up to a colon
plain_host : (host port : List ℕ) → Lacks 58 host → is_port port ≡ true → position_or_len (λ x. x == 58) (host ++ port) ≡ length host
plain_host host port h is = elim (port_cases port is) [
  | inl none ↦ ap (λ p. position_or_len (λ x. x == 58) (host ++ p)) none ∙ ap (position_or_len (λ x. x == 58)) (append-nil host) ∙ place_lacks 58 host h
  | inr (digits, some) ↦ ap (λ p. position_or_len (λ x. x == 58) (host ++ p)) some ∙ place_at 58 host digits h
]

-- never closed
open_host : (host : List ℕ) → from 93 host ≡ [] → min (position_or_len (λ x. x == 93) (host ++ []) + 1) (length (host ++ [])) ≡ length host
open_host host none =
    let past : length host - position_or_len (λ x. x == 93) host ≡ 0 = sym (length-drop (position_or_len (λ x. x == 93) host) host) ∙ ap length none in
    let all : min (position_or_len (λ x. x == 93) host + 1) (length host) ≡ length host = omega (arith, past) in
    ap (λ h. min (position_or_len (λ x. x == 93) h + 1) (length h)) (append-nil host) ∙ all

-- closed by its last octet
closed_host : (host port : List ℕ) → from 93 host ≡ 93 ∷ [] → min (position_or_len (λ x. x == 93) (host ++ port) + 1) (length (host ++ port)) ≡ length host
closed_host host port last =
    let one : length host - position_or_len (λ x. x == 93) host ≡ 1 = sym (length-drop (position_or_len (λ x. x == 93) host) host) ∙ ap length last in
    let place = prefix_len-append (λ x. not (x == 93)) host port in
    by (eqb (position_or_len (λ x. x == 93) host) (length host)) refl one place
  where
    by : (b : Bool) → eqb (position_or_len (λ x. x == 93) host) (length host) ≡ b → length host - position_or_len (λ x. x == 93) host ≡ 1
        → position_or_len (λ x. x == 93) (host ++ port) ≡ cond b (length host + position_or_len (λ x. x == 93) port) (position_or_len (λ x. x == 93) host)
        → min (position_or_len (λ x. x == 93) (host ++ port) + 1) (length (host ++ port)) ≡ length host
    by true is one place = let all = eqb-true _ _ is in absurd (omega (arith, one, all))
    by false is one place = omega (arith, one, place, length-append host port)

module _ (authority host own : List ℕ) (is : decoded (host_of authority) ≡ Some host) (some : 0 < length (host_of authority)) (port : is_port (port_of authority) ≡ true) where
  same_address : is_address (map to_ascii_lowercase host ++ normal_port own (port_of authority)) ≡ is_address authority
  same_address =
      let small : 0 < length (map to_ascii_lowercase host) = omega (arith, some_decoded (host_of authority) host is some, length-map host to_ascii_lowercase) in
      address_append (map to_ascii_lowercase host) (normal_port own (port_of authority)) small ∙ address_lower host
      ∙ address_decoded (host_of authority) host is ∙ address_take (host_length authority) authority some

  -- the host has no colon, or is an address
  name_again : is_address authority ≡ false → host_length (map to_ascii_lowercase host ++ normal_port own (port_of authority)) ≡ length (map to_ascii_lowercase host)
  name_again name =
      let cut : host_of authority ≡ before 58 authority =
      ap (λ b. take (cond b (min (position_or_len (λ x. x == 93) authority + 1) (length authority)) (position_or_len (λ x. x == 58) authority)) authority) name in
      let lacks = lacks_decoded 58 (host_of authority) host refl refl is (subst (Lacks 58) (sym cut) (lacks_before 58 authority)) in
      let text = map to_ascii_lowercase host ++ normal_port own (port_of authority) in
      ap (λ b. cond b (min (position_or_len (λ x. x == 93) text + 1) (length text)) (position_or_len (λ x. x == 58) text)) (same_address ∙ name)
      ∙ plain_host (map to_ascii_lowercase host) (normal_port own (port_of authority)) (lacks_lower 58 host (omega arith) lacks) (port_is_port own (port_of authority) port)

  from_small : (last : List ℕ) → decoded last ≡ Some last → from 93 (host_of authority) ≡ last → from 93 (map to_ascii_lowercase host) ≡ map to_ascii_lowercase last
  from_small last settled cut =
      let here : decoded (from 93 (host_of authority)) ≡ Some (from 93 host) = from_decoded 93 (host_of authority) host refl refl is in
      let same : last ≡ from 93 host = same_Some last (from 93 host) (sym settled ∙ ap decoded (sym cut) ∙ here) in
      from_lower 93 host lower_is_closing ∙ ap (map to_ascii_lowercase) (sym same)

  address_again : is_address authority ≡ true → host_length (map to_ascii_lowercase host ++ normal_port own (port_of authority)) ≡ length (map to_ascii_lowercase host)
  address_again address =
      let long : host_length authority ≡ min (position_or_len (λ x. x == 93) authority + 1) (length authority) =
      ap (λ b. cond b (min (position_or_len (λ x. x == 93) authority + 1) (length authority)) (position_or_len (λ x. x == 58) authority)) address in
      let cut : from 93 (host_of authority) ≡ take 1 (from 93 authority) = ap (λ n. from 93 (take n authority)) long ∙ closed authority in
      let text = map to_ascii_lowercase host ++ normal_port own (port_of authority) in
      let whole : host_length text ≡ min (position_or_len (λ x. x == 93) text + 1) (length text) =
      ap (λ b. cond b (min (position_or_len (λ x. x == 93) text + 1) (length text)) (position_or_len (λ x. x == 58) text)) (same_address ∙ address) in
      whole ∙ elim (from_cases 93 authority) [
        | inl none ↦
            let left_over : length authority - position_or_len (λ x. x == 93) authority ≡ 0 =
            sym (length-drop (position_or_len (λ x. x == 93) authority) authority) ∙ ap length none in
            let all : length authority ≤ host_length authority = omega (arith, long, left_over) in
            let no_port : port_of authority ≡ [] = drop_all (host_length authority) authority all in
            let normal : normal_port own (port_of authority) ≡ [] = ap (normal_port own) no_port ∙ port_of_none own in
            ap (λ p. min (position_or_len (λ x. x == 93) (map to_ascii_lowercase host ++ p) + 1) (length (map to_ascii_lowercase host ++ p))) normal
            ∙ open_host (map to_ascii_lowercase host) (from_small [] refl (cut ∙ ap (take 1) none))
        | inr (ys, some) ↦ closed_host (map to_ascii_lowercase host) (normal_port own (port_of authority)) (from_small (93 ∷ []) refl (cut ∙ ap (take 1) some))
      ]

  -- the host of a normal authority is the normal host
  pub host_again : host_length (map to_ascii_lowercase host ++ normal_port own (port_of authority)) ≡ length (map to_ascii_lowercase host)
  host_again = by (is_address authority) refl
    where
      by : (b : Bool) → is_address authority ≡ b → host_length (map to_ascii_lowercase host ++ normal_port own (port_of authority)) ≡ length (map to_ascii_lowercase host)
      by true address = address_again address
      by false name = name_again name
