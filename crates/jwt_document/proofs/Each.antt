-- The answers of a list's elements, in order.
use Rattle.std.proofs.Common.{◌≡◌, ℕ, ◌+◌, ◌<◌, List, [], ◌∷◌, ◌++◌, length, take, drop, get_or, Result, Ok, Err, refl, sym, ap, subst, ◌∙◌, arith}
use Rattle.std.proofs.lemmas.List.{length-take, take_more, drop_more, take-append-drop}
use Rattle.jwt_text.specs.Answers.{◌>>=◌, each, Refuses}

-- the value of a step that did not fail
pub bind_ok : {A B F : Type 0} (r : Result A F) (f : A → Result B F) (y : B) → (r >>= f) ≡ Ok y → (x : A) × (r ≡ Ok x) × (f x ≡ Ok y)
bind_ok (Ok x) f y e = (x, refl, e)
bind_ok (Err d) f y e = absurd cc

-- a fault is one of the other answer too
pub refuses_on : {A B F : Type 0} (memory e : F) (a : Result A F) (b : Result B F) → (a ≡ Err e → b ≡ Err e) → Refuses memory e a → Refuses memory e b
refuses_on memory e a b h x = λ other. h (x other)

-- one element more
each_push : {A B F : Type 0} (f : ℕ → A → Result B F) (n : ℕ) (xs : List A) (x : A) (ys : List B) (y : B) → each f n xs ≡ Ok ys → f (n + length xs) x ≡ Ok y → each f n (xs ++ x ∷ []) ≡ Ok (ys ++ y ∷ [])
each_push {B = B} f n [] x ys y e g =
    let here : f n x ≡ Ok y = subst (λ (k : ℕ). f k x ≡ Ok y) (omega arith) g in
    let none : [] ≡ ys = cc in
    rw here (ap (λ (zs : List B). Ok (zs ++ y ∷ [])) none)
each_push {B = B} f n (a ∷ xs) x ys y e g =
    let first = bind_ok (f n a) (λ z. each f (n + 1) xs >>= λ zs. Ok (z ∷ zs)) ys e in
    let rest = bind_ok (each f (n + 1) xs) (λ zs. Ok (first.0 ∷ zs)) ys first.2 in
    let here : f (n + 1 + length xs) x ≡ Ok y = subst (λ (k : ℕ). f k x ≡ Ok y) (omega arith) g in
    let more = each_push f (n + 1) xs x rest.0 y rest.1 here in
    let parts : first.0 ∷ rest.0 ≡ ys = cc (rest.2) in
    rw (first.1, more) (ap (λ (zs : List B). Ok (zs ++ y ∷ [])) parts)

-- the first fault
each_err : {A B F : Type 0} (f : ℕ → A → Result B F) (n : ℕ) (xs : List A) (x : A) (rest : List A) (ys : List B) (e : F) → each f n xs ≡ Ok ys → f (n + length xs) x ≡ Err e → each f n (xs ++ x ∷ rest) ≡ Err e
each_err f n [] x rest ys e h g =
    let here : f n x ≡ Err e = subst (λ (k : ℕ). f k x ≡ Err e) (omega arith) g in
    rw here refl
each_err f n (a ∷ xs) x rest ys e h g =
    let first = bind_ok (f n a) (λ z. each f (n + 1) xs >>= λ zs. Ok (z ∷ zs)) ys h in
    let tail = bind_ok (each f (n + 1) xs) (λ zs. Ok (first.0 ∷ zs)) ys first.2 in
    let here : f (n + 1 + length xs) x ≡ Err e = subst (λ (k : ℕ). f k x ≡ Err e) (omega arith) g in
    rw (first.1, each_err f (n + 1) xs x rest tail.0 e tail.1 here) refl

-- a loop's end by a fault, at the element i
pub each_stops_from : {A B F : Type 0} (memory : F) (f : ℕ → A → Result B F) (n : ℕ) (xs : List A) (i : ℕ) (d : A) (ys : List B) (e : F) → i < length xs → each f n (take i xs) ≡ Ok ys → Refuses memory e (f (n + i) (get_or xs i d)) → Refuses memory e (each f n xs)
each_stops_from {A = A} memory f n xs i d ys e lt so_far fault =
    let at : n + length (take i xs) ≡ n + i = simp length-take (omega arith) in
    let whole : xs ≡ take i xs ++ (get_or xs i d ∷ drop (i + 1) xs) = sym (take-append-drop i xs) ∙ ap (λ (rest : List A). take i xs ++ rest) (drop_more xs i d lt) in
    refuses_on memory e (f (n + i) (get_or xs i d)) (each f n xs)
    (λ (is : f (n + i) (get_or xs i d) ≡ Err e).
    let now : f (n + length (take i xs)) (get_or xs i d) ≡ Err e = rw at is in
    ap (each f n) whole ∙ each_err f n (take i xs) (get_or xs i d) (drop (i + 1) xs) ys e so_far now)
    fault

pub each_stops : {A B F : Type 0} (memory : F) (f : ℕ → A → Result B F) (xs : List A) (i : ℕ) (d : A) (ys : List B) (e : F) → i < length xs → each f 0 (take i xs) ≡ Ok ys → Refuses memory e (f i (get_or xs i d)) → Refuses memory e (each f 0 xs)
each_stops memory f xs i d ys e lt so_far fault = each_stops_from memory f 0 xs i d ys e lt so_far (subst (λ (k : ℕ). Refuses memory e (f k (get_or xs i d))) (omega arith) fault)

-- the same, where the values are seen as they are
pub each_more_plain : {A B F : Type 0} (f : ℕ → A → Result B F) (xs : List A) (i : ℕ) (d : A) (ys : List B) (y : B) → i < length xs → each f 0 (take i xs) ≡ Ok ys → f i (get_or xs i d) ≡ Ok y → each f 0 (take (i + 1) xs) ≡ Ok (ys ++ y ∷ [])
each_more_plain f xs i d ys y lt so_far here =
    let at : 0 + length (take i xs) ≡ i = simp length-take (omega arith) in
    let now : f (0 + length (take i xs)) (get_or xs i d) ≡ Ok y = rw at here in
    rw (take_more xs i d lt) (each_push f 0 (take i xs) (get_or xs i d) ys y so_far now)
