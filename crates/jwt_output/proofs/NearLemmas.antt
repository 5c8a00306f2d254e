-- The first name to which so many edits lead, place by place.
use Rattle.std.proofs.Common.{arith, ◌≡◌, ◌∙◌, ap, sym, refl, ℕ, zero, suc, ◌+◌, ◌<◌, ◌≤◌, List, [], ◌∷◌, length, drop, map, true, false, Option, Some, None, add-one, slice_index_or}
use Rattle.std.proofs.lemmas.Bool.Decides.{nat_tests}
use Rattle.std.proofs.lemmas.List.{drop_all}
use Rattle.std.specs.Prelude.{if◌then◌else◌, ◌==◌}
use Rattle.std.specs.Borrow.{Bor}
use Rattle.jwt_output.specs.Nearest.{at_edits, edits}

-- from a place on
abbrev pub from_place : ℕ → List ℕ → List (Bor (List ℕ)) → ℕ → Option (List ℕ)
from_place n name known i = at_edits n name (map (λ k. k.now) (drop i known))

near_at : (n : ℕ) (name : List ℕ) (known : List (Bor (List ℕ))) (i : ℕ) (d : Bor (List ℕ)) → i < length known
    → from_place n name known i
    ≡ (if edits name (slice_index_or known i d).now == n then Some (slice_index_or known i d).now else from_place n name known (suc i))
near_at n name [] i d l = absurd (omega (arith, l))
near_at n name (k ∷ ks) zero d l = refl
near_at n name (k ∷ ks) (suc i) d l = near_at n name ks i d (omega (arith, l))

pub near_here : (n : ℕ) (name : List ℕ) (known : List (Bor (List ℕ))) (i : ℕ) (d : Bor (List ℕ)) → i < length known
    → edits name (slice_index_or known i d).now ≡ n → from_place n name known i ≡ Some (slice_index_or known i d).now
near_here n name known i d l is =
    let b : (edits name (slice_index_or known i d).now == n) ≡ true = grind (arith, nat_tests, is) in
    near_at n name known i d l ∙ ap (λ t. if t then Some (slice_index_or known i d).now else from_place n name known (suc i)) b

pub near_later : (n : ℕ) (name : List ℕ) (known : List (Bor (List ℕ))) (i : ℕ) (d : Bor (List ℕ)) → i < length known
    → (edits name (slice_index_or known i d).now ≡ n → ⊥) → from_place n name known (i + 1) ≡ from_place n name known i
near_later n name known i d l not =
    let b : (edits name (slice_index_or known i d).now == n) ≡ false = grind (arith, nat_tests, not) in
    ap (λ j. from_place n name known j) (add-one i)
    ∙ sym (near_at n name known i d l ∙ ap (λ t. if t then Some (slice_index_or known i d).now else from_place n name known (suc i)) b)

pub near_end : (n : ℕ) (name : List ℕ) (known : List (Bor (List ℕ))) (i : ℕ) → length known ≤ i → from_place n name known i ≡ None
near_end n name known i all = ap (λ ks. at_edits n name (map (λ k. k.now) ks)) (drop_all i known all)
