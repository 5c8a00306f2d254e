-- One more step of a loop over signers.
use Rattle.std.proofs.Common.{◌≡◌, ◌≢◌, ℕ, zero, suc, Bool, ◌+◌, ◌-◌, ◌<◌, ◌≤◌, List, [], ◌∷◌, ◌++◌, length, get_or, take, drop, map, true, false, cond, Some, refl, sym, ap, ◌∙◌, arith, append_assoc, add-one, nat_lt, subst, Ok, Err, inl, inr}
use Rattle.std.specs.List.{sum, join_with_byte}
use Rattle.std.proofs.lemmas.List.{length-map, get_or-map, map_more}
use Rattle.std.proofs.lemmas.List.Sums.{sum_by_more}
use Rattle.std.proofs.lemmas.Bool.Decides.{nat_tests}
use Rattle.std.proofs.lemmas.Grind.{common_steps}
use Rattle.std.proofs.Math.Seq.{drop-cons}
use Rattle.jwt_text.specs.Answers.{unless}
use Rattle.jwt_issue.specs.Issued.{first_spent}
use Rattle.jwt_issue.specs.declared.fault.IssueFault.{IssueFault}
use Rattle.jwt_issue.specs.declared.fault.IssueFault.TheVariants.{OutOfMemory, NoKey, TooManySignatures, AlgNotHmac, KeyUnfit, TooLong, Spent}
use Rattle.jwt_issue.specs.Paying.{Pays, PaysOnce, due}

-- an element of a list, seen by f
seen : {A B : Type 0} (f : A → B) (xs : List A) (i : ℕ) (x : A) → i < length xs → x ≡ get_or xs i x → get_or (map f xs) i (f x) ≡ f x
seen f xs i x within e = get_or-map f xs i x (f x) within ∙ ap f (sym e)

pub sum_more : {A : Type 0} (f : A → ℕ) (xs : List A) (i : ℕ) (x : A) → i < length xs → x ≡ get_or xs i x
    → sum (take (i + 1) (map f xs)) ≡ sum (take i (map f xs)) + f x
sum_more f xs i x within e =
    let same = length-map xs f in
    sum_by_more (λ (n : ℕ). n) (map f xs) i (f x) (omega arith) ∙ ap (λ (n : ℕ). sum (take i (map f xs)) + n) (seen f xs i x within e)

-- one more, joined by commas
join_later : (a : List ℕ) (xs : List (List ℕ)) (x : List ℕ) → join_with_byte 44 ((a ∷ xs) ++ x ∷ []) ≡ join_with_byte 44 (a ∷ xs) ++ 44 ∷ x
join_later a [] x = refl
join_later a (b ∷ xs) x =
    ap (λ (r : List ℕ). a ++ 44 ∷ r) (join_later b xs x) ∙ sym (append_assoc a (44 ∷ join_with_byte 44 (b ∷ xs)) (44 ∷ x))

pub join_more : (xs : List (List ℕ)) (x : List ℕ)
    → join_with_byte 44 (xs ++ x ∷ []) ≡ join_with_byte 44 xs ++ (cond (nat_lt 0 (length xs)) (44 ∷ []) [] ++ x)
join_more [] x = refl
join_more (a ∷ xs) x =
    let later : nat_lt 0 (length (a ∷ xs)) ≡ true = grind (arith, nat_tests) in
    rw later (join_later a xs x)

pub elements_more : {A : Type 0} (f : A → List ℕ) (xs : List A) (i : ℕ) (x : A) → i < length xs → x ≡ get_or xs i x
    → join_with_byte 44 (map f (take (i + 1) xs)) ≡ join_with_byte 44 (map f (take i xs)) ++ (cond (nat_lt 0 i) (44 ∷ []) [] ++ f x)
elements_more {A} f xs i x within e =
    let size : length (map f (take i xs)) ≡ i = grind (arith, common_steps, length-map (take i xs) f) in
    ap (λ (r : List (List ℕ)). join_with_byte 44 r) (map_more f xs i x within)
    ∙ ap (λ (y : A). join_with_byte 44 (map f (take i xs) ++ f y ∷ [])) (sym e)
    ∙ join_more (map f (take i xs)) (f x)
    ∙ ap (λ (n : ℕ). join_with_byte 44 (map f (take i xs)) ++ (cond (nat_lt 0 n) (44 ∷ []) [] ++ f x)) size

-- the first cost that is left
pub spent_at : {A : Type 0} (f : A → ℕ) (xs : List A) (i left : ℕ) (x : A) → i < length xs → x ≡ get_or xs i x
    → first_spent i left (drop i (map f xs)) ≡ cond (nat_lt left (f x)) (Some (Spent i)) (first_spent (i + 1) (left - f x) (drop (i + 1) (map f xs)))
spent_at f xs i left x within e =
    let same = length-map xs f in
    let first : drop i (map f xs) ≡ f x ∷ drop (i + 1) (map f xs) =
    rw add-one (drop-cons (map f xs) i (f x) (omega arith) ∙ ap (λ (n : ℕ). n ∷ drop (suc i) (map f xs)) (seen f xs i x within e)) in
    ap (λ (costs : List ℕ). first_spent i left costs) first

pub stops_at : {A : Type 0} (f : A → ℕ) (xs : List A) (i left : ℕ) (x : A) → i < length xs → x ≡ get_or xs i x → left < f x
    → first_spent i left (drop i (map f xs)) ≡ Some (Spent i)
stops_at f xs i left x within e beyond =
    let here = spent_at f xs i left x within e in
    let yes : nat_lt left (f x) ≡ true = grind (arith, nat_tests) in
    rw yes at here

pub goes_on : {A : Type 0} (f : A → ℕ) (xs : List A) (i left : ℕ) (x : A) → i < length xs → x ≡ get_or xs i x → f x ≤ left
    → first_spent i left (drop i (map f xs)) ≡ first_spent (i + 1) (left - f x) (drop (i + 1) (map f xs))
goes_on f xs i left x within e enough =
    let here = spent_at f xs i left x within e in
    let no : nat_lt left (f x) ≡ false = grind (arith, nat_tests) in
    rw no at here

-- a signature that is come to is due, if it is paid
pub come_to : {X : Type 0} (x : X) (i left : ℕ) (costs : List ℕ) → i ≤ due (i + length costs) (unless (first_spent i left costs) (Ok x))
come_to x i left [] = omega arith
come_to x i left (cost ∷ costs) = tested x i left cost costs (nat_lt left cost) (come_to x (i + 1) (left - cost) costs)
  where
    tested : {X : Type 0} (x : X) (i left cost : ℕ) (costs : List ℕ) (beyond : Bool)
        → i + 1 ≤ due (i + 1 + length costs) (unless (first_spent (i + 1) (left - cost) costs) (Ok x))
        → i ≤ due (i + length (cost ∷ costs)) (unless (cond beyond (Some (Spent i)) (first_spent (i + 1) (left - cost) costs)) (Ok x))
    tested x i left cost costs true later = omega arith
    tested x i left cost costs false later =
        let size : i + 1 + length costs ≡ i + length (cost ∷ costs) = omega arith in
        let bound = rw size at later in
        omega (arith, bound)

pub reached : {A X : Type 0} (x : X) (f : A → ℕ) (xs : List A) (all i first left : ℕ) → length xs ≡ all → i ≤ length xs
    → first_spent 0 first (map f xs) ≡ first_spent i left (drop i (map f xs)) → i ≤ due all (unless (first_spent 0 first (map f xs)) (Ok x))
reached x f xs all i first left whole within same =
    let come = come_to x i left (drop i (map f xs)) in
    let size : i + length (drop i (map f xs)) ≡ all = grind (arith, common_steps, length-map xs f) in
    rw size at rw (← same) at come

-- a signature whose number isn't past 0 is the first
pub is_first : (i : ℕ) → ((j : ℕ) → i ≢ j + 1) → i ≡ 0
is_first zero apart = refl
is_first (suc i) apart = absurd (apart i (omega arith))

-- what is paid after a step that stopped, by what was paid in it
pub paid_after : (X : Type 0) (fault : IssueFault) (i most : ℕ) (P Q : ℕ → Type 0) → i ≤ most → (P 1 → i + 1 ≤ most)
    → (fault ≢ OutOfMemory → fault ≡ Spent i) → (P 0 → Q i) → (P 1 → Q (i + 1)) → PaysOnce {X = X} (Err fault) P → Pays {X = X} (Err fault) most Q
paid_after X OutOfMemory i most P Q none_due one_due named none one paid = elim paid [ inl p ↦ (i, none_due, none p) | inr p ↦ (i + 1, one_due p, one p) ]
paid_after X (Spent j) i most P Q none_due one_due named none one paid =
    let same : j ≡ i = cc (named (λ e. cc)) in
    subst Q (sym same) (none paid)
paid_after X (AlgNotHmac j) i most P Q none_due one_due named none one paid = absurd (cc (named (λ e. cc)))
paid_after X (KeyUnfit j) i most P Q none_due one_due named none one paid = absurd (cc (named (λ e. cc)))
paid_after X NoKey i most P Q none_due one_due named none one paid = absurd (cc (named (λ e. cc)))
paid_after X TooManySignatures i most P Q none_due one_due named none one paid = absurd (cc (named (λ e. cc)))
paid_after X TooLong i most P Q none_due one_due named none one paid = absurd (cc (named (λ e. cc)))
