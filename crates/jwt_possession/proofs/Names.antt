-- The names of algorithms, one after the other.
use Rattle.std.proofs.Common.{◌≡◌, ℕ, ◌+◌, ◌<◌, ◌≤◌, Bool, true, false, cond, List, [], ◌∷◌, ◌++◌, length, take, drop, get_or, refl, ap, sym, ◌∙◌, arith, add-one, append-nil, append_assoc, length-append, length-drop, drop-cons, take-append-drop}
use Rattle.std.specs.Prelude.{nat_lt, if◌then◌else◌}
use Rattle.std.proofs.lemmas.Bool.{ltb-true, ltb-false}
use Rattle.std.proofs.lemmas.List.{drop_all}
use Rattle.jwt_mac.specs.declared.algorithm.Alg.{Alg}
use Rattle.jwt_mac.specs.declared.algorithm.Alg.TheVariants.{HS256}
use Rattle.jwt_mac.specs.Algorithm.{name_of}
use Rattle.jwt_possession.specs.AlgNames.{algs_text}

-- the name at this place, and what stands behind it
abbrev pub name_at : List Alg → ℕ → List ℕ
name_at algs place = name_of (get_or algs place HS256)

abbrev pub gap : List Alg → ℕ → List ℕ
gap algs place = if nat_lt (place + 1) (length algs) then 32 ∷ [] else []

-- the text of those from this place on
abbrev pub rest : List Alg → ℕ → List ℕ
rest algs place = algs_text (drop place algs)

pub next_name : (algs : List Alg) (place : ℕ) → place < length algs → rest algs place ≡ name_at algs place ++ (gap algs place ++ rest algs (place + 1))
unfolding algs_text
next_name algs place less = ap algs_text (drop-cons algs place HS256 less ∙ ap (λ n. get_or algs place HS256 ∷ drop n algs) (sym (add-one place))) ∙ by (drop (place + 1) algs) refl (nat_lt (place + 1) (length algs)) refl
  where
    by : (more : List Alg) → drop (place + 1) algs ≡ more → (b : Bool) → nat_lt (place + 1) (length algs) ≡ b
        → algs_text (get_or algs place HS256 ∷ more) ≡ name_at algs place ++ (cond b (32 ∷ []) [] ++ algs_text more)
    by [] is true e = absurd (let none = ap length is in let within = ltb-true _ _ e in omega (arith, none, within, length-drop (place + 1) algs))
    by [] is false e = sym (append-nil _)
    by (next ∷ more) is true e = refl
    by (next ∷ more) is false e = absurd (let some = ap length is in let most = ltb-false _ _ e in omega (arith, some, most, length-drop (place + 1) algs))

pub next_size : (algs : List Alg) (place : ℕ) → place < length algs → length (rest algs place) ≡ length (name_at algs place) + (length (gap algs place) + length (rest algs (place + 1)))
next_size algs place less = ap length (next_name algs place less)
    ∙ length-append (name_at algs place) _
    ∙ ap (λ n. length (name_at algs place) + n) (length-append (gap algs place) (rest algs (place + 1)))

pub no_name : (algs : List Alg) (place : ℕ) → length algs ≤ place → rest algs place ≡ []
unfolding algs_text
no_name algs place end = ap algs_text (drop_all place algs end)

-- ---- what is written

pub written_on : (first second third name behind more all : List ℕ) (at : ℕ) → take at first ++ (name ++ (behind ++ more)) ≡ all → take (at + length name) second ≡ take at first ++ name
    → take (at + length name + length behind) third ≡ take (at + length name) second ++ behind → take (at + length name + length behind) third ++ more ≡ all
written_on first second third name behind more all at is one two =
    ap (λ t. t ++ more) two
    ∙ ap (λ t. (t ++ behind) ++ more) one
    ∙ append_assoc (take at first ++ name) behind more
    ∙ append_assoc (take at first) name (behind ++ more)
    ∙ is

pub all_written : (old new text : List ℕ) (at : ℕ) → take at new ++ [] ≡ text → at ≡ length text → drop (length text) new ≡ drop (length text) old → new ≡ text ++ drop (length text) old
all_written old new text at front is behind =
    sym (take-append-drop at new)
    ∙ ap (λ t. t ++ drop at new) (sym (append-nil (take at new)) ∙ front)
    ∙ ap (λ t. text ++ t) (ap (λ n. drop n new) is ∙ behind)
