-- The keys in PEM of issuers, place by place.
use Rattle.std.proofs.Common.{◌≡◌, ℕ, ◌+◌, ◌<◌, List, [], ◌∷◌, ◌++◌, length, take, drop, get_or, inl, inr, Option, Ok, Err, sym, ap, ◌∙◌, subst, arith}
use Rattle.std.proofs.lemmas.List.{length-take, take_more, drop_more, take-append-drop}
use Rattle.serde_json.specs.Data.{Members}
use Rattle.jwt_keys.specs.KeySets.{KeyList}
use Rattle.jwt_document.specs.declared.fault.ServiceFault.{ServiceFault}
use Rattle.jwt_document.specs.Entries.{Issuer}
use Rattle.jwt_document.specs.Pem.{IsOfIssuer, AreOf, IsFirstOf}

-- one issuer more
are_push : (ms : Members) (n : ℕ) (xs : List Issuer) (ys : List (Option KeyList)) (x : Issuer) (y : Option KeyList) → AreOf ms n xs ys → IsOfIssuer ms (n + length xs) x (Ok y) → AreOf ms n (xs ++ x ∷ []) (ys ++ y ∷ [])
are_push ms n [] [] x y so_far here = (subst (λ (k : ℕ). IsOfIssuer ms k x (Ok y)) (omega arith) here, tt)
are_push ms n [] (b ∷ ys) x y so_far here = absurd so_far
are_push ms n (a ∷ xs) [] x y so_far here = absurd so_far
are_push ms n (a ∷ xs) (b ∷ ys) x y so_far here = (so_far.0, are_push ms (n + 1) xs ys x y so_far.1 (subst (λ (k : ℕ). IsOfIssuer ms k x (Ok y)) (omega arith) here))

-- the first fault
first_stop : (ms : Members) (n : ℕ) (xs : List Issuer) (ys : List (Option KeyList)) (x : Issuer) (rest : List Issuer) (f : ServiceFault) → AreOf ms n xs ys → IsOfIssuer ms (n + length xs) x (Err f) → IsFirstOf ms n (xs ++ x ∷ rest) f
first_stop ms n [] [] x rest f so_far here = inl (subst (λ (k : ℕ). IsOfIssuer ms k x (Err f)) (omega arith) here)
first_stop ms n [] (b ∷ ys) x rest f so_far here = absurd so_far
first_stop ms n (a ∷ xs) [] x rest f so_far here = absurd so_far
first_stop ms n (a ∷ xs) (b ∷ ys) x rest f so_far here = inr (b, so_far.0, first_stop ms (n + 1) xs ys x rest f so_far.1 (subst (λ (k : ℕ). IsOfIssuer ms k x (Err f)) (omega arith) here))

-- a loop's step, and its end by a fault
pub are_more : (ms : Members) (xs : List Issuer) (i : ℕ) (d : Issuer) (ys : List (Option KeyList)) (y : Option KeyList) → i < length xs → AreOf ms 0 (take i xs) ys → IsOfIssuer ms i (get_or xs i d) (Ok y) → AreOf ms 0 (take (i + 1) xs) (ys ++ y ∷ [])
are_more ms xs i d ys y lt so_far here =
    let at : 0 + length (take i xs) ≡ i = simp length-take (omega arith) in
    let now : IsOfIssuer ms (0 + length (take i xs)) (get_or xs i d) (Ok y) = rw at here in
    rw (take_more xs i d lt) (are_push ms 0 (take i xs) ys (get_or xs i d) y so_far now)

pub first_of : (ms : Members) (xs : List Issuer) (i : ℕ) (d : Issuer) (ys : List (Option KeyList)) (f : ServiceFault) → i < length xs → AreOf ms 0 (take i xs) ys → IsOfIssuer ms i (get_or xs i d) (Err f) → IsFirstOf ms 0 xs f
first_of ms xs i d ys f lt so_far here =
    let at : 0 + length (take i xs) ≡ i = simp length-take (omega arith) in
    let whole : xs ≡ take i xs ++ (get_or xs i d ∷ drop (i + 1) xs) = sym (take-append-drop i xs) ∙ ap (λ (rest : List Issuer). take i xs ++ rest) (drop_more xs i d lt) in
    let now : IsOfIssuer ms (0 + length (take i xs)) (get_or xs i d) (Err f) = rw at here in
    subst (λ (all : List Issuer). IsFirstOf ms 0 all f) (sym whole) (first_stop ms 0 (take i xs) ys (get_or xs i d) (drop (i + 1) xs) f so_far now)
