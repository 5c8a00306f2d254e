-- A URL with another path and query is a URL where these are such, and its other parts stay.
use Rattle.std.proofs.Common.{◌≡◌, ◌⊎◌, ◌≤◌, ◌<◌, ◌+◌, ◌==◌, ◌&&◌, ◌++◌, ℕ, List, [], ◌∷◌, Bool, true, false, cond, length, drop, take, slice_index, nat_le, if◌then◌else◌, arith, refl, sym, subst, suc, ap, ◌∙◌, inl, inr, true≢false}
use Rattle.std.proofs.lemmas.List.{take_at, drop_at, take_more, get_or_at, get_or_past, length-take-le, length-drop, append_assoc}
use Rattle.std.proofs.lemmas.List.Folds.{length-prefix_len}
use Rattle.std.proofs.lemmas.Bool.{and_parts, eqb-true, cases_lt}
use Rattle.std.specs.List.{prefix_len}
use Rattle.jwt_request.specs.declared.urls.kind.Kind.TheVariants.{Name, Literal, Digit}
use Rattle.jwt_request.specs.urls.Urls.{is_of, run, address_len, host_len, has_port, port_len, port_of, is_port, is_target, is_laid, parts_behind, behind_host, behind_port}

-- what stops a run at the front, and wherever the run is taken out
stopped : (p : ℕ → Bool) (r : List ℕ) → p (slice_index r 0) ≡ false → prefix_len p r ≡ 0
stopped p [] stop = refl
stopped p (c ∷ r) stop = rw stop refl

run_step : (b : Bool) (p : ℕ → Bool) (c : ℕ) (xs r : List ℕ) → p c ≡ b → p (slice_index r 0) ≡ false
    → prefix_len p (take (prefix_len p xs) xs ++ r) ≡ prefix_len p xs
    → prefix_len p (take (cond b (1 + prefix_len p xs) 0) (c ∷ xs) ++ r) ≡ cond b (1 + prefix_len p xs) 0
run_step true p c xs r is stop more =
    let one : 1 + prefix_len p xs ≡ suc (prefix_len p xs) = omega arith in
    let kept : take (1 + prefix_len p xs) (c ∷ xs) ≡ c ∷ take (prefix_len p xs) xs = rw one refl in
    rw (kept, is, more) refl
run_step false p c xs r is stop more = stopped p r stop

pub run_again : (p : ℕ → Bool) (xs r : List ℕ) → p (slice_index r 0) ≡ false → prefix_len p (take (prefix_len p xs) xs ++ r) ≡ prefix_len p xs
run_again p [] r stop = stopped p r stop
run_again p (c ∷ xs) r stop = run_step (p c) p c xs r refl stop (run_again p xs r stop)

-- a host stays one before what isn't of its name
abbrev host_by : Bool → List ℕ → ℕ
host_by b octets = if b then address_len octets (run Literal (drop 1 octets)) else run Name octets

abbrev closed_len : Bool → ℕ → ℕ
closed_len d n = if d then n + 2 else 0

closed_again : (d : Bool) (xs r : List ℕ) → (nat_le 1 (run Literal xs) && slice_index (91 ∷ xs) (run Literal xs + 1) == 93) ≡ d
    → nat_le 1 (closed_len d (run Literal xs)) ≡ true
    → host_len (take (closed_len d (run Literal xs)) (91 ∷ xs) ++ r) ≡ closed_len d (run Literal xs)
closed_again false xs r is some = absurd (true≢false (sym some))
closed_again true xs r is some =
    let n = run Literal xs in
    let both = and_parts (nat_le 1 n) (slice_index (91 ∷ xs) (n + 1) == 93) is in
    let one : n + 1 ≡ suc n = omega arith in
    let two : n + 2 ≡ suc (n + 1) = omega arith in
    let close : slice_index xs n ≡ 93 = subst (λ k. slice_index (91 ∷ xs) k ≡ 93) one (eqb-true (slice_index (91 ∷ xs) (n + 1)) 93 both.1) in
    let within : n < length xs = elim (cases_lt n (length xs)) [ inl l ↦ l | inr past ↦ absurd (true≢false (ap (λ k. k == 93) (sym close ∙ get_or_past xs n 0 past))) ] in
    let taken : take (n + 1) xs ≡ take n xs ++ 93 ∷ [] = take_more xs n 0 within ∙ ap (λ c. take n xs ++ c ∷ []) close in
    let inner = take n xs ++ 93 ∷ r in
    let whole : take (n + 2) (91 ∷ xs) ++ r ≡ 91 ∷ inner =
    ap (λ k. take k (91 ∷ xs) ++ r) two ∙ ap (λ ys. 91 ∷ (ys ++ r)) taken ∙ ap (λ ys. 91 ∷ ys) (append_assoc (take n xs) (93 ∷ []) r) in
    let len : run Literal inner ≡ n = run_again (is_of Literal) xs (93 ∷ r) refl in
    let closes : slice_index (91 ∷ inner) (n + 1) ≡ 93 = subst (λ k. slice_index (91 ∷ inner) k ≡ 93) (sym one) (get_or_at (take n xs) 93 r 0 n (length-prefix_len (is_of Literal) xs)) in
    rw (whole, len, closes, both.0) refl

host_step : (b : Bool) (c : ℕ) (xs r : List ℕ) → (c == 91) ≡ b → nat_le 1 (host_by b (c ∷ xs)) ≡ true → is_of Name (slice_index r 0) ≡ false
    → host_len (take (host_by b (c ∷ xs)) (c ∷ xs) ++ r) ≡ host_by b (c ∷ xs)
host_step true c xs r is some stop =
    subst (λ k. nat_le 1 (host_by true (k ∷ xs)) ≡ true → host_len (take (host_by true (k ∷ xs)) (k ∷ xs) ++ r) ≡ host_by true (k ∷ xs)) (sym (eqb-true c 91 is))
    (closed_again (nat_le 1 (run Literal xs) && slice_index (91 ∷ xs) (run Literal xs + 1) == 93) xs r refl) some
host_step false c xs r is some stop = named (is_of Name c) refl some
  where
    named : (d : Bool) → is_of Name c ≡ d → nat_le 1 (cond d (1 + run Name xs) 0) ≡ true → host_len (take (run Name (c ∷ xs)) (c ∷ xs) ++ r) ≡ run Name (c ∷ xs)
    named false isnt some = absurd (true≢false (sym some))
    named true its some =
        let again : run Name (take (run Name (c ∷ xs)) (c ∷ xs) ++ r) ≡ run Name (c ∷ xs) = run_again (is_of Name) (c ∷ xs) r stop in
        let len : run Name (c ∷ xs) ≡ suc (run Name xs) = rw its (omega arith) in
        let first : slice_index (take (run Name (c ∷ xs)) (c ∷ xs) ++ r) 0 ≡ c = ap (λ k. slice_index (take k (c ∷ xs) ++ r) 0) len in
        rw (first, is) again

pub host_again : (octets r : List ℕ) → nat_le 1 (host_len octets) ≡ true → is_of Name (slice_index r 0) ≡ false
    → host_len (take (host_len octets) octets ++ r) ≡ host_len octets
host_again [] r some stop = absurd (true≢false (sym some))
host_again (c ∷ xs) r some stop = host_step (c == 91) c xs r refl some stop

-- what begins path and query ends a host and a port
abbrev pub BeginsTarget : List ℕ → Type 0
BeginsTarget r = (slice_index r 0 ≡ 47) ⊎ (slice_index r 0 ≡ 63)

no_name : (r : List ℕ) → BeginsTarget r → is_of Name (slice_index r 0) ≡ false
no_name r (inl e) = rw e refl
no_name r (inr e) = rw e refl

no_digit : (r : List ℕ) → BeginsTarget r → is_of Digit (slice_index r 0) ≡ false
no_digit r (inl e) = rw e refl
no_digit r (inr e) = rw e refl

no_port : (r : List ℕ) → BeginsTarget r → has_port r ≡ false
no_port r (inl e) = rw e refl
no_port r (inr e) = rw e refl

-- a port stays one before path and query
pub record IsSamePort (octets same : List ℕ) : Type 0 where
  pub len : port_len same ≡ port_len octets
  pub digits : is_port same ≡ is_port octets
  pub number : (https : Bool) → port_of https same ≡ port_of https octets

port_step : (b : Bool) (c : ℕ) (xs r : List ℕ) → (c == 58) ≡ b → BeginsTarget r
    → IsSamePort (c ∷ xs) (take (if b then run Digit xs + 1 else 0) (c ∷ xs) ++ r)
port_step false c xs r is begins =
    let none : has_port r ≡ false = no_port r begins in
    record { len = rw (none, is) refl; digits = rw (none, is) refl; number = λ https. rw (none, is) refl }
port_step true c xs r is begins =
    let n = run Digit xs in
    let one : n + 1 ≡ suc n = omega arith in
    let whole : take (n + 1) (c ∷ xs) ++ r ≡ c ∷ (take n xs ++ r) = ap (λ k. take k (c ∷ xs) ++ r) one in
    let again : run Digit (take n xs ++ r) ≡ n = run_again (is_of Digit) xs r (no_digit r begins) in
    let digits : take (run Digit (take n xs ++ r)) (take n xs ++ r) ≡ take n xs =
    ap (λ k. take k (take n xs ++ r)) again ∙ take_at (take n xs) r n (length-prefix_len (is_of Digit) xs) in
    record {
      len = rw (whole, is, again) refl;
      digits = rw (whole, is, digits) refl;
      number = λ https. rw (whole, is, digits) refl;
    }

pub port_again : (octets r : List ℕ) → BeginsTarget r → IsSamePort octets (take (port_len octets) octets ++ r)
port_again [] r begins =
    let none : has_port r ≡ false = no_port r begins in
    record { len = rw none refl; digits = rw none refl; number = λ https. rw none refl }
port_again (c ∷ xs) r begins = port_step (c == 58) c xs r refl begins

-- neither does a port stand in a host's name
port_ends_name : (octets r : List ℕ) → BeginsTarget r → is_of Name (slice_index (take (port_len octets) octets ++ r) 0) ≡ false
port_ends_name [] r begins = no_name r begins
port_ends_name (c ∷ xs) r begins = by (c == 58) refl
  where
    by : (b : Bool) → (c == 58) ≡ b → is_of Name (slice_index (take (if b then run Digit xs + 1 else 0) (c ∷ xs) ++ r) 0) ≡ false
    by false is = no_name r begins
    by true is =
        let one : run Digit xs + 1 ≡ suc (run Digit xs) = omega arith in
        ap (λ k. is_of Name (slice_index (take k (c ∷ xs) ++ r) 0)) one ∙ ap (is_of Name) (eqb-true c 58 is)

-- host and port stay, and so it is laid out where path and query are such
pub record IsSameOrigin (octets r same : List ℕ) : Type 0 where
  pub laid : is_laid same ≡ is_target r
  pub parts : (https : Bool) → parts_behind https same ≡ parts_behind https octets

pub origin_again : (octets r : List ℕ) → BeginsTarget r → is_laid octets ≡ true
    → host_len octets + port_len (behind_host octets) ≤ length octets
    → IsSameOrigin octets r (take (host_len octets) octets ++ (take (port_len (behind_host octets)) (behind_host octets) ++ r))
origin_again octets r begins laid within =
    let h = host_len octets in
    let q = behind_host octets in
    let p = port_len q in
    let outer = and_parts (nat_le 1 h && is_port q) (is_target (behind_port octets)) laid in
    let inner = and_parts (nat_le 1 h) (is_port q) outer.0 in
    let more = take p q ++ r in
    let same = take h octets ++ more in
    let len : host_len same ≡ h = host_again octets more inner.0 (port_ends_name q r begins) in
    let host_fits : h ≤ length octets = omega (arith, within) in
    let behind : behind_host same ≡ more = ap (λ k. drop k same) len ∙ drop_at (take h octets) more h (length-take-le h octets host_fits) in
    let port = port_again q r begins in
    let port_fits : p ≤ length q = omega (arith, within, length-drop h octets) in
    let rest : behind_port same ≡ r =
    ap (λ o. drop (port_len o) o) behind ∙ ap (λ k. drop k more) port.len ∙ drop_at (take p q) r p (length-take-le p q port_fits) in
    record {
      laid = rw (rest, behind, len, port.digits, inner.0, inner.1) refl;
      parts = λ https. rw (behind, len, port.len, port.number https) refl;
    }
