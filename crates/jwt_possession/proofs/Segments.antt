-- The segments of a path, one after the other.
use Rattle.std.proofs.Common.{◌≡◌, ℕ, ◌+◌, ◌<◌, ◌≤◌, ◌==◌, Bool, true, false, cond, ◌&&◌, List, [], ◌∷◌, length, take, drop, refl, sym, ap, ◌∙◌, arith}
use Rattle.std.specs.List.{list_all, slice_split, onto_first, position_or_len}
use Rattle.std.proofs.lemmas.List.Splits.{slice_split_first, slice_split_none}
use Rattle.std.proofs.lemmas.List.Sums.{fails_before_first}
use Rattle.std.proofs.lemmas.List.Elements.{All-from_get_or}
use Rattle.jwt_possession.specs.Uris.{ended, gone_on, left}

pub some_part : (p : ℕ → Bool) (xs : List ℕ) → (x : List ℕ) × (rest : List (List ℕ)) × (slice_split p xs ≡ x ∷ rest)
some_part p [] = ([], [], refl)
some_part p (y ∷ ys) =
    let more = some_part p ys in
    elim (p y) as (λ b. (x : List ℕ) × (rest : List (List ℕ)) × (cond b ([] ∷ slice_split p ys) (onto_first y (slice_split p ys)) ≡ x ∷ rest)) [
      | true ↦ ([], slice_split p ys, refl)
      | false ↦ (y ∷ more.0, more.1, ap (onto_first y) more.2)
    ]

gone : (done : List (List ℕ)) (segment : List ℕ) (segments : List (List ℕ)) (x : List ℕ) (rest : List (List ℕ)) → segments ≡ x ∷ rest → left done (segment ∷ segments) ≡ left (gone_on done segment) segments
gone done segment segments x rest is = ap (λ s. left done (segment ∷ s)) is ∙ sym (ap (left (gone_on done segment)) is)

pub next_segment : (done : List (List ℕ)) (text : List ℕ) (at : ℕ) → at ≡ position_or_len (λ x. x == 47) text → at < length text
    → left done (slice_split (λ x. x == 47) text) ≡ left (gone_on done (take at text)) (slice_split (λ x. x == 47) (drop (at + 1) text))
next_segment done text at is less =
    let within : position_or_len (λ x. x == 47) text < length text = omega (arith, is, less) in
    let part = some_part (λ x. x == 47) (drop (position_or_len (λ x. x == 47) text + 1) text) in
    rw is (ap (left done) (slice_split_first (λ x. x == 47) text 0 within) ∙ gone done (take (position_or_len (λ x. x == 47) text) text) _ part.0 part.1 part.2)

pub last_segment : (done : List (List ℕ)) (text : List ℕ) (at : ℕ) → at ≡ position_or_len (λ x. x == 47) text → length text ≤ at
    → left done (slice_split (λ x. x == 47) text) ≡ ended done text
last_segment done text at is end =
    ap (left done) (slice_split_none (λ x. x == 47) text (All-from_get_or (λ x. (x == 47) ≡ false) text 0 (λ i h. fails_before_first (λ x. x == 47) text i 0 (omega (arith, is, end, h)))))

-- ---- a test of each

and_true : (a : Bool) → (a && true) ≡ a
and_true true = refl
and_true false = refl

pub next_part : (test : List ℕ → Bool) (text : List ℕ) (at : ℕ) → at ≡ position_or_len (λ x. x == 47) text → at < length text
    → list_all test (slice_split (λ x. x == 47) text) ≡ (test (take at text) && list_all test (slice_split (λ x. x == 47) (drop (at + 1) text)))
next_part test text at is less =
    let within : position_or_len (λ x. x == 47) text < length text = omega (arith, is, less) in
    rw is (ap (list_all test) (slice_split_first (λ x. x == 47) text 0 within))

pub last_part : (test : List ℕ → Bool) (text : List ℕ) (at : ℕ) → at ≡ position_or_len (λ x. x == 47) text → length text ≤ at
    → list_all test (slice_split (λ x. x == 47) text) ≡ test text
last_part test text at is end =
    ap (list_all test) (slice_split_none (λ x. x == 47) text (All-from_get_or (λ x. (x == 47) ≡ false) text 0 (λ i h. fails_before_first (λ x. x == 47) text i 0 (omega (arith, is, end, h)))))
    ∙ and_true (test text)
