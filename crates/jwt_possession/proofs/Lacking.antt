-- Texts without an octet, and what stands before the first one and from it on.
use Rattle.std.proofs.Common.{◌≡◌, ◌⊎◌, ◌<◌, ℕ, zero, suc, ◌+◌, ◌==◌, Bool, true, false, cond, not, ◌||◌, List, [], ◌∷◌, ◌++◌, length, take, drop, map, Some, refl, sym, ap, subst, ◌∙◌, arith, one-add, append-nil, take_at, drop_at, eq-eqb, eqb-true, inl, inr, true≢false}
use Rattle.std.specs.List.{AllByRecursion, list_any, position_or_len}
use Rattle.std.specs.Char.{to_ascii_lowercase}
use Rattle.jwt_possession.specs.Uris.{before, from, is_unreserved, normal_triplet, decoded}
use Rattle.jwt_possession.proofs.Settled.{Written, itself, encoded, differs, triplet_written, triplet_digits, one_decoded, three_decoded, along}

-- this octet doesn't stand in the text
abbrev pub Lacks : ℕ → List ℕ → Type 0
Lacks c xs = AllByRecursion (λ x. (x == c) ≡ false) xs

pub lacks_append : (c : ℕ) (xs ys : List ℕ) → Lacks c xs → Lacks c ys → Lacks c (xs ++ ys)
lacks_append c [] ys h k = k
lacks_append c (x ∷ xs) ys (off, h) k = (off, lacks_append c xs ys h k)

pub lacks_take : (c n : ℕ) (xs : List ℕ) → Lacks c xs → Lacks c (take n xs)
lacks_take c zero xs h = tt
lacks_take c (suc n) [] h = tt
lacks_take c (suc n) (x ∷ xs) (off, h) = (off, lacks_take c n xs h)

pub lacks_drop : (c n : ℕ) (xs : List ℕ) → Lacks c xs → Lacks c (drop n xs)
lacks_drop c zero xs h = h
lacks_drop c (suc n) [] h = tt
lacks_drop c (suc n) (x ∷ xs) (off, h) = lacks_drop c n xs h

pub lower_is : (c x : ℕ) → c < 65 → (to_ascii_lowercase x == c) ≡ (x == c)
lower_is c x less = grind arith

pub lower_is_closing : (x : ℕ) → (to_ascii_lowercase x == 93) ≡ (x == 93)
lower_is_closing x = grind arith

pub lower_is_opening : (x : ℕ) → (to_ascii_lowercase x == 91) ≡ (x == 91)
lower_is_opening x = grind arith

pub lacks_lower : (c : ℕ) (xs : List ℕ) → c < 65 → Lacks c xs → Lacks c (map to_ascii_lowercase xs)
lacks_lower c [] less h = tt
lacks_lower c (x ∷ xs) less (off, h) = (lower_is c x less ∙ off, lacks_lower c xs less h)

pub lacks_written : (c : ℕ) (front : List ℕ) → is_unreserved c ≡ false → (37 == c) ≡ false → Written front → Lacks c front
lacks_written c front other sign (itself o is e) = subst (Lacks c) (sym e) (differs o c is other, tt)
lacks_written c front other sign (encoded h l high low is e) = subst (Lacks c) (sym e) (sign, (differs h c high other, (differs l c low other, tt)))

-- what is decoded has off octet that needs percent-encoding and didn't stand there before
pub lacks_decoded : (c : ℕ) (xs ys : List ℕ) → is_unreserved c ≡ false → (37 == c) ≡ false → decoded xs ≡ Some ys → Lacks c xs → Lacks c ys
lacks_decoded c xs ys other sign = along (λ xs ys. Lacks c xs → Lacks c ys) (λ h. h) (λ a xs ys off so h. (h.0, so h.1))
    (λ h l front xs ys is so lacks. lacks_append c front ys (lacks_written c front other sign (triplet_written h l front is)) (so lacks.1.1.1)) xs ys

-- ---- the first one

same : (c : ℕ) → (c == c) ≡ true
same c = eq-eqb c c refl

pub place_lacks : (c : ℕ) (xs : List ℕ) → Lacks c xs → position_or_len (λ x. x == c) xs ≡ length xs
place_lacks c [] h = refl
place_lacks c (x ∷ xs) (off, h) = rw off (omega (arith, place_lacks c xs h))

pub place_at : (c : ℕ) (xs ys : List ℕ) → Lacks c xs → position_or_len (λ x. x == c) (xs ++ c ∷ ys) ≡ length xs
place_at c [] ys h = rw (same c) refl
place_at c (x ∷ xs) ys (off, h) = rw off (omega (arith, place_at c xs ys h))

pub before_all : (c : ℕ) (xs : List ℕ) → Lacks c xs → before c xs ≡ xs
before_all c xs h = ap (λ n. take n xs) (place_lacks c xs h) ∙ ap (take (length xs)) (sym (append-nil xs)) ∙ take_at xs [] (length xs) refl

pub before_at : (c : ℕ) (xs ys : List ℕ) → Lacks c xs → before c (xs ++ c ∷ ys) ≡ xs
before_at c xs ys h = take_at xs (c ∷ ys) _ (sym (place_at c xs ys h))

pub from_at : (c : ℕ) (xs ys : List ℕ) → Lacks c xs → from c (xs ++ c ∷ ys) ≡ c ∷ ys
from_at c xs ys h = drop_at xs (c ∷ ys) _ (sym (place_at c xs ys h))

take_one : (n x : ℕ) (xs : List ℕ) → take (1 + n) (x ∷ xs) ≡ x ∷ take n xs
take_one n x xs = ap (λ m. take m (x ∷ xs)) (one-add n)

drop_one : (n x : ℕ) (xs : List ℕ) → drop (1 + n) (x ∷ xs) ≡ drop n xs
drop_one n x xs = ap (λ m. drop m (x ∷ xs)) (one-add n)

pub lacks_before : (c : ℕ) (xs : List ℕ) → Lacks c (before c xs)
lacks_before c [] = tt
lacks_before c (x ∷ xs) = by (x == c) refl (lacks_before c xs)
  where
    by : (b : Bool) → (x == c) ≡ b → Lacks c (before c xs) → Lacks c (take (cond (not b) (1 + position_or_len (λ x. x == c) xs) 0) (x ∷ xs))
    by true is h = tt
    by false off h = subst (Lacks c) (sym (take_one (position_or_len (λ x. x == c) xs) x xs)) (off, h)

pub from_no : (c x : ℕ) (xs : List ℕ) → (x == c) ≡ false → from c (x ∷ xs) ≡ from c xs
from_no c x xs off = rw off (drop_one (position_or_len (λ x. x == c) xs) x xs)

pub from_yes : (c x : ℕ) (xs : List ℕ) → (x == c) ≡ true → from c (x ∷ xs) ≡ x ∷ xs
from_yes c x xs is = rw is refl

pub from_append : (c : ℕ) (xs ys : List ℕ) → Lacks c xs → from c (xs ++ ys) ≡ from c ys
from_append c [] ys h = refl
from_append c (x ∷ xs) ys (off, h) = from_no c x (xs ++ ys) off ∙ from_append c xs ys h

-- nothing, or that octet and more
pub from_cases : (c : ℕ) (xs : List ℕ) → (from c xs ≡ []) ⊎ ((ys : List ℕ) × (from c xs ≡ c ∷ ys))
from_cases c [] = inl refl
from_cases c (x ∷ xs) = by (x == c) refl (from_cases c xs)
  where
    by : (b : Bool) → (x == c) ≡ b → (from c xs ≡ []) ⊎ ((ys : List ℕ) × (from c xs ≡ c ∷ ys)) → (from c (x ∷ xs) ≡ []) ⊎ ((ys : List ℕ) × (from c (x ∷ xs) ≡ c ∷ ys))
    by true is so = inr (xs, from_yes c x xs is ∙ ap (λ y. y ∷ xs) (eqb-true x c is))
    by false off (inl none) = inl (from_no c x xs off ∙ none)
    by false off (inr (ys, some)) = inr (ys, from_no c x xs off ∙ some)

pub from_lower : (c : ℕ) (xs : List ℕ) → ((x : ℕ) → (to_ascii_lowercase x == c) ≡ (x == c)) → from c (map to_ascii_lowercase xs) ≡ map to_ascii_lowercase (from c xs)
from_lower c [] alike = refl
from_lower c (x ∷ xs) alike = by (x == c) refl (from_lower c xs alike)
  where
    by : (b : Bool) → (x == c) ≡ b → from c (map to_ascii_lowercase xs) ≡ map to_ascii_lowercase (from c xs) → from c (map to_ascii_lowercase (x ∷ xs)) ≡ map to_ascii_lowercase (from c (x ∷ xs))
    by true is so = from_yes c (to_ascii_lowercase x) (map to_ascii_lowercase xs) (alike x ∙ is) ∙ ap (map to_ascii_lowercase) (sym (from_yes c x xs is))
    by false off so = from_no c (to_ascii_lowercase x) (map to_ascii_lowercase xs) (alike x ∙ off) ∙ so ∙ ap (map to_ascii_lowercase) (sym (from_no c x xs off))

-- what stands from the first one on is decoded by itself
pub from_decoded : (c : ℕ) (xs ys : List ℕ) → is_unreserved c ≡ false → (37 == c) ≡ false → decoded xs ≡ Some ys → decoded (from c xs) ≡ Some (from c ys)
from_decoded c xs ys other sign h = (along (λ xs ys. (decoded xs ≡ Some ys) × (decoded (from c xs) ≡ Some (from c ys))) (refl, refl) one three xs ys h).1
  where
    one : (a : ℕ) (xs ys : List ℕ) → (a == 37) ≡ false → (decoded xs ≡ Some ys) × (decoded (from c xs) ≡ Some (from c ys)) → (decoded (a ∷ xs) ≡ Some (a ∷ ys)) × (decoded (from c (a ∷ xs)) ≡ Some (from c (a ∷ ys)))
    one a xs ys plain so =
        let whole = one_decoded a xs ys plain so.0 in
        elim (a == c) as (λ b. (a == c) ≡ b → (decoded (a ∷ xs) ≡ Some (a ∷ ys)) × (decoded (from c (a ∷ xs)) ≡ Some (from c (a ∷ ys)))) [
          | true ↦ λ is. (whole, ap decoded (from_yes c a xs is) ∙ whole ∙ ap Some (sym (from_yes c a ys is)))
          | false ↦ λ off. (whole, ap decoded (from_no c a xs off) ∙ so.1 ∙ ap Some (sym (from_no c a ys off)))
        ] refl

    three : (b d : ℕ) (front xs ys : List ℕ) → normal_triplet b d ≡ Some front → (decoded xs ≡ Some ys) × (decoded (from c xs) ≡ Some (from c ys))
        → (decoded (37 ∷ b ∷ d ∷ xs) ≡ Some (front ++ ys)) × (decoded (from c (37 ∷ b ∷ d ∷ xs)) ≡ Some (from c (front ++ ys)))
    three b d front xs ys is so =
        let digits = triplet_digits b d front is in
        let skipped = from_no c 37 (b ∷ d ∷ xs) sign ∙ from_no c b (d ∷ xs) (differs b c digits.0 other) ∙ from_no c d xs (differs d c digits.1 other) in
        let behind = from_append c front ys (lacks_written c front other sign (triplet_written b d front is)) in
        (three_decoded b d front xs ys is so.0, ap decoded skipped ∙ so.1 ∙ ap Some (sym behind))

pub any_lacks : (c : ℕ) (xs : List ℕ) → Lacks c xs → list_any (λ x. x == c) xs ≡ false
any_lacks c [] h = refl
any_lacks c (x ∷ xs) (off, h) = rw off (any_lacks c xs h)

pub lacks_any : (c : ℕ) (xs : List ℕ) → list_any (λ x. x == c) xs ≡ false → Lacks c xs
lacks_any c [] h = tt
lacks_any c (x ∷ xs) h = by (x == c) refl h (lacks_any c xs)
  where
    by : (b : Bool) → (x == c) ≡ b → (b || list_any (λ x. x == c) xs) ≡ false → (list_any (λ x. x == c) xs ≡ false → Lacks c xs) → Lacks c (x ∷ xs)
    by true is e so = absurd (true≢false e)
    by false off e so = (off, so e)
