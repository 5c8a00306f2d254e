-- The first signature that isn't made is the first whose cost and those before it exceed what is left.
use Rattle.std.proofs.Common.{◌≡◌, ℕ, zero, suc, ◌+◌, ◌-◌, ◌<◌, ◌≤◌, ◌↔◌, List, [], ◌∷◌, Bool, true, false, cond, nat_lt, Some, None, length, take, refl, ap, subst, ◌∙◌, add-one, arith}
use Rattle.std.specs.List.{sum}
use Rattle.std.proofs.lemmas.Bool.Decides.{nat_tests}
use Rattle.std.proofs.lemmas.List.Sums.{sum_by-cons}
use Rattle.jwt_issue.specs.Issued.{first_spent}
use Rattle.jwt_issue.specs.declared.fault.IssueFault.TheVariants.{Spent}

sum-cons : (x : ℕ) (xs : List ℕ) → sum (x ∷ xs) ≡ x + sum xs
sum-cons x xs = sum_by-cons (λ (n : ℕ). n) x xs

-- all are made
all_step : (i left c : ℕ) (cs : List ℕ) → (first_spent (i + 1) (left - c) cs ≡ None → sum cs ≤ left - c) → (beyond : Bool) → nat_lt left c ≡ beyond
    → cond beyond (Some (Spent i)) (first_spent (i + 1) (left - c) cs) ≡ None → sum (c ∷ cs) ≤ left
all_step i left c cs later true test e = absurd (cc e)
all_step i left c cs later false test e =
    let rest : sum cs ≤ left - c = later e in
    let enough : c ≤ left = grind (arith, nat_tests) in
    omega (arith, sum-cons c cs, rest, enough)

all_from : (i left : ℕ) (costs : List ℕ) → first_spent i left costs ≡ None → sum costs ≤ left
all_from i left [] e = omega arith
all_from i left (c ∷ cs) e = all_step i left c cs (all_from (i + 1) (left - c) cs) (nat_lt left c) refl e

pub none_made : (i left : ℕ) (costs : List ℕ) → sum costs ≤ left → first_spent i left costs ≡ None
none_made i left [] few = refl
none_made i left (c ∷ cs) few =
    let whole = sum-cons c cs in
    let no : nat_lt left c ≡ false = grind (arith, nat_tests) in
    rw no (none_made (i + 1) (left - c) cs (omega arith))

pub none_beyond : (left : ℕ) (costs : List ℕ) → (first_spent 0 left costs ≡ None) ↔ (sum costs ≤ left)
none_beyond left costs = (all_from 0 left costs, none_made 0 left costs)

-- signature k is the first that isn't made
record IsFirst (left : ℕ) (costs : List ℕ) (k : ℕ) : Type 0 where
  pub one : k < length costs
  pub before : sum (take k costs) ≤ left
  pub upto : left < sum (take (suc k) costs)

first_step : (i left c : ℕ) (cs : List ℕ) (j : ℕ)
    → (first_spent (i + 1) (left - c) cs ≡ Some (Spent j) → (k : ℕ) × (j ≡ i + 1 + k) × IsFirst (left - c) cs k)
    → (beyond : Bool) → nat_lt left c ≡ beyond
    → cond beyond (Some (Spent i)) (first_spent (i + 1) (left - c) cs) ≡ Some (Spent j) → (k : ℕ) × (j ≡ i + k) × IsFirst left (c ∷ cs) k
first_step i left c cs j later true test e =
    let here : i ≡ j = cc in
    let beyond : left < c = grind (arith, nat_tests) in
    (0, omega (arith, here), record { one = omega arith; before = omega arith; upto = omega (arith, beyond, sum-cons c []) })
first_step i left c cs j later false test e =
    let rest = later e in
    let k = rest.0 in
    let is = rest.2 in
    let enough : c ≤ left = grind (arith, nat_tests) in (
      suc k,
      omega (arith, rest.1),
      record {
        one = omega (arith, is.one);
        before = omega (arith, sum-cons c (take k cs), is.before, enough);
        upto = omega (arith, sum-cons c (take (suc k) cs), is.upto, enough);
      },
    )

first_from : (i left : ℕ) (costs : List ℕ) (j : ℕ) → first_spent i left costs ≡ Some (Spent j) → (k : ℕ) × (j ≡ i + k) × IsFirst left costs k
first_from i left [] j e = absurd (cc e)
first_from i left (c ∷ cs) j e = first_step i left c cs j (first_from (i + 1) (left - c) cs j) (nat_lt left c) refl e

first_made : (i left : ℕ) (costs : List ℕ) (k : ℕ) → IsFirst left costs k → first_spent i left costs ≡ Some (Spent (i + k))
first_made i left [] k f = absurd (omega (arith, f.one))
first_made i left (c ∷ cs) zero f =
    let yes : nat_lt left c ≡ true = grind (arith, nat_tests, sum-cons c [], f.upto) in
    rw yes (ap (λ (n : ℕ). Some (Spent n)) (omega arith))
first_made i left (c ∷ cs) (suc k) f =
    let before = sum-cons c (take k cs) in
    let upto = sum-cons c (take (suc k) cs) in
    let no : nat_lt left c ≡ false = grind (arith, nat_tests, before, f.before) in
    rw no (first_made (i + 1) (left - c) cs k (record { one = omega (arith, f.one); before = omega (arith, before, f.before); upto = omega (arith, upto, f.upto) })
    ∙ ap (λ (n : ℕ). Some (Spent n)) (omega arith))

pub first_beyond : (left : ℕ) (costs : List ℕ) (i : ℕ)
    → (first_spent 0 left costs ≡ Some (Spent i)) ↔ ((i < length costs) × (sum (take i costs) ≤ left) × (left < sum (take (i + 1) costs)))
first_beyond left costs i = (
  (λ e.
      let f = first_from 0 left costs i e in
      let same : f.0 ≡ i = omega (arith, f.1) in
      let is = subst (λ (k : ℕ). IsFirst left costs k) same f.2 in
      (is.one, is.before, rw add-one is.upto)),
  (λ f. first_made 0 left costs i (record { one = f.0; before = f.1; upto = rw add-one at f.2 }) ∙ ap (λ (n : ℕ). Some (Spent n)) (omega arith)),
)
