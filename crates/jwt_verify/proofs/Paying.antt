-- What the ceilings admit of the tries.
use Rattle.std.proofs.Common.{◌≡◌, ℕ, zero, suc, ◌+◌, ◌<◌, ◌≤◌, Bool, true, false, List, [], ◌∷◌, ◌++◌, length, take, drop, get_or, refl, sym, ◌∙◌, ap, arith, append_assoc, length-append, Some, None, Option, leb, ◌⊎◌, inl, inr}
use Rattle.std.specs.Prelude.{◌&&◌, slice_get}
use Rattle.std.specs.List.{range_with_len, prefix_len}
use Rattle.std.proofs.lemmas.List.{append-nil, take_at, take-append-le, take-append-drop, take-take, length-take-le}
use Rattle.std.proofs.lemmas.List.Sums.{prefix_len_is, prefix_len_stops, prefix_len_passes, prefix_len-le-length, sum_by-append, sum_by_push}
use Rattle.std.proofs.lemmas.List.FromFn.{get_or-range_with_len, length-range_with_len}
use Rattle.std.proofs.lemmas.Bool.{le-leb, lt-leb, leb-true, cases_lt, false≢true}
use Rattle.std.proofs.lemmas.Option.{slice_get_past}
use Rattle.std.proofs.Math.Bool.{and-false}
use Rattle.jwt_verify.specs.declared.report.Try.{Try}
use Rattle.jwt_verify.specs.Walk.{IsCounted}
use Rattle.jwt_verify.specs.Table.{Table, tries, work, is_within, affords, paid, stop}

pub work-nil : work [] ≡ 0
unfolding work
work-nil = refl

pub work-push : (es : List Try) (e : Try) → work (es ++ e ∷ []) ≡ work es + e.cost
unfolding work
work-push es e = sum_by_push (λ (e : Try). e.cost) es e

pub work-append : (es fs : List Try) → work (es ++ fs) ≡ work es + work fs
unfolding work
work-append es fs = sum_by-append (λ (e : Try). e.cost) es fs

-- the longest front whose numbers all pass
longest : (p : ℕ → Bool) (len n : ℕ) → n ≤ len → ((k : ℕ) → k ≤ n → p k ≡ true) → (n < len → p (n + 1) ≡ false) → prefix_len p (range_with_len 1 len) ≡ n
longest p len n within passes fails =
    prefix_len_is p (range_with_len 1 len) n 0 (rw length-range_with_len within)
    (λ k l. rw (get_or-range_with_len 1 len k 0 (omega arith)) (passes (1 + k) (omega arith)))
    (λ l. (let m : n < len = omega (arith, length-range_with_len 1 len, l) in rw (get_or-range_with_len 1 len n 0 m) (let e : 1 + n ≡ n + 1 = omega arith in ap p e ∙ fails m)))

pub within_less : (calls : Option ℕ) (m n : ℕ) → m ≤ n → is_within calls n ≡ true → is_within calls m ≡ true
unfolding is_within
within_less None m n l h = refl
within_less (Some c) m n l h = grind arith

pub slice_get_at : {X : Type 0} (xs : List X) (x : X) (ys : List X) → slice_get (xs ++ x ∷ ys) (length xs) ≡ Some x
slice_get_at [] x ys = refl
slice_get_at (y ∷ xs) x ys = slice_get_at xs x ys

module _ (t : Table) (octets : ℕ) (calls : Option ℕ) where
  too_much : (es : List Try) (e : Try) → (octets < work es + e.cost) ⊎ (is_within calls (length es + 1) ≡ false) → (leb (work es + e.cost) octets && is_within calls (length es + 1)) ≡ false
  too_much es e (inl l) = rw (lt-leb (work es + e.cost) octets l) refl
  too_much es e (inr f) = rw f (and-false (leb (work es + e.cost) octets))

  -- each front of what is afforded is
  affords_less : (es rest : List Try) → tries t ≡ es ++ rest → work es ≤ octets → is_within calls (length es) ≡ true → (k : ℕ) → k ≤ length es → affords t octets calls k ≡ true
  unfolding affords
  affords_less es rest e w c k l =
      let front : take k (tries t) ≡ take k es = ap (take k) e ∙ take-append-le k es rest l in
      let parts : work (take k es) + work (drop k es) ≡ work es = sym (work-append (take k es) (drop k es)) ∙ ap work (take-append-drop k es) in
      let small : work (take k es) ≤ octets = omega arith in
      rw (front, le-leb (work (take k es)) octets small, within_less calls k (length es) l c) refl

  pub paid_is : (es rest : List Try) → tries t ≡ es ++ rest → work es ≤ octets → is_within calls (length es) ≡ true → (length es < length (tries t) → affords t octets calls (length es + 1) ≡ false) → paid t octets calls ≡ es
  unfolding paid
  paid_is es rest e w c h =
      let n = longest (affords t octets calls) (length (tries t)) (length es) (omega (arith, ap length e, length-append es rest)) (affords_less es rest e w c) h in
      rw n (ap (take (length es)) e ∙ take_at es rest (length es) refl)

  -- all tries are paid, and nothing stops the run
  pub paid_all : (es : List Try) → es ≡ tries t → work es ≤ octets → is_within calls (length es) ≡ true → (paid t octets calls ≡ es) × (stop t octets calls ≡ None)
  unfolding stop
  paid_all es e w c =
      let all : tries t ≡ es ++ [] = sym e ∙ sym (append-nil es) in
      let same : length (tries t) ≡ length es = ap length (sym e) in
      let p : paid t octets calls ≡ es = paid_is es [] all w c (λ l. absurd (omega arith)) in
      (p, rw p (slice_get_past (tries t) (length es) (omega arith)))

  -- the next try is not within a ceiling
  pub paid_stop : (es rest : List Try) (e : Try) → tries t ≡ es ++ e ∷ rest → work es ≤ octets → is_within calls (length es) ≡ true → (octets < work es + e.cost) ⊎ (is_within calls (length es + 1) ≡ false) → (paid t octets calls ≡ es) × (stop t octets calls ≡ Some e)
  unfolding stop affords
  paid_stop es rest e split w c over =
      let front : take (length es + 1) (tries t) ≡ es ++ e ∷ [] =
      ap (take (length es + 1)) (split ∙ sym (append_assoc es (e ∷ []) rest)) ∙ take_at (es ++ e ∷ []) rest (length es + 1) (length-append es (e ∷ [])) in
      let p : paid t octets calls ≡ es = paid_is es (e ∷ rest) split w c (λ l. rw (front, work-push es e) (too_much es e over)) in
      (p, rw p (ap (λ ys. slice_get ys (length es)) split ∙ slice_get_at es e rest))

  fits_number : ℕ
  fits_number = prefix_len (affords t octets calls) (range_with_len 1 (length (tries t)))

  -- what is within the ceilings is a prefix of what is paid
  pub paid_front : (es rest : List Try) → tries t ≡ es ++ rest → work es ≤ octets → is_within calls (length es) ≡ true → (more : List Try) × (paid t octets calls ≡ es ++ more)
  unfolding paid fits_number
  paid_front es rest e w c =
      let n = length es in
      let len = length (tries t) in
      let m = fits_number in
      let numbers = length-range_with_len 1 len in
      let inside : n ≤ len = omega (arith, ap length e, length-append es rest) in
      let most : m ≤ len = omega (arith, numbers, prefix_len-le-length (affords t octets calls) (range_with_len 1 len)) in
      let reaches : n ≤ m = elim (cases_lt m n) [
        | inl l ↦ absurd (false≢true (sym (prefix_len_stops (affords t octets calls) (range_with_len 1 len) 0 (omega (arith, numbers))) ∙ get_or_affords m len l inside ∙ affords_less es rest e w c (1 + m) (omega arith)))
        | inr h ↦ h
      ] in
      let front : take n (take m (tries t)) ≡ es = take-take n m (tries t) reaches ∙ ap (take n) e ∙ take_at es rest n refl in
      (drop n (take m (tries t)), sym (take-append-drop n (take m (tries t))) ∙ ap (λ ys. ys ++ drop n (take m (tries t))) front)
    where
      get_or_affords : (m len : ℕ) → m < length es → length es ≤ len → affords t octets calls (get_or (range_with_len 1 len) m 0) ≡ affords t octets calls (1 + m)
      get_or_affords m len l k = ap (affords t octets calls) (get_or-range_with_len 1 len m 0 (omega arith))

  -- what is paid is a prefix of the tries, within both ceilings
  pub paid_rest : (rest : List Try) × (tries t ≡ paid t octets calls ++ rest)
  unfolding paid fits_number
  paid_rest = (drop fits_number (tries t), sym (take-append-drop fits_number (tries t)))

within_none : (calls : Option ℕ) → is_within calls 0 ≡ true
unfolding is_within
within_none None = refl
within_none (Some c) = le-leb 0 c (omega arith)

and_both : (a b : Bool) → (a && b) ≡ true → (a ≡ true) × (b ≡ true)
and_both true b h = (refl, h)
and_both false b h = (h, cc)

module _ (t : Table) (octets : ℕ) (calls : Option ℕ) where
  pub longest_number : ℕ
  longest_number = prefix_len (affords t octets calls) (range_with_len 1 (length (tries t)))

  longest_within : longest_number ≤ length (tries t)
  unfolding longest_number
  longest_within = omega (arith, length-range_with_len 1 (length (tries t)), prefix_len-le-length (affords t octets calls) (range_with_len 1 (length (tries t))))

  pub length-paid : length (paid t octets calls) ≡ longest_number
  unfolding paid longest_number
  length-paid = length-take-le longest_number (tries t) longest_within

  -- one more than the paid tries is not afforded
  pub paid_over : length (paid t octets calls) < length (tries t) → affords t octets calls (length (paid t octets calls) + 1) ≡ false
  unfolding longest_number
  paid_over l =
      let m : longest_number < length (tries t) = omega (arith, length-paid, l) in
      let stops = prefix_len_stops (affords t octets calls) (range_with_len 1 (length (tries t))) 0 (omega (arith, length-range_with_len 1 (length (tries t)), m)) in
      let e : 1 + longest_number ≡ length (paid t octets calls) + 1 = omega (arith, length-paid) in
      ap (affords t octets calls) (sym e ∙ sym (get_or-range_with_len 1 (length (tries t)) longest_number 0 m)) ∙ stops

  -- the paid tries are afforded
  afforded : (n : ℕ) → n ≡ longest_number → is_within calls n ≡ true × (work (take n (tries t)) ≤ octets)
  unfolding longest_number affords
  afforded zero e = (within_none calls, rw work-nil (omega arith))
  afforded (suc k) e =
      let l : k < longest_number = omega (arith, e) in
      let m : k < length (tries t) = omega (arith, longest_within, l) in
      let passes = prefix_len_passes (affords t octets calls) (range_with_len 1 (length (tries t))) k 0 l in
      let here : affords t octets calls (1 + k) ≡ true = ap (affords t octets calls) (sym (get_or-range_with_len 1 (length (tries t)) k 0 m)) ∙ passes in
      let f : 1 + k ≡ suc k = omega arith in
      let both = and_both (leb (work (take (suc k) (tries t))) octets) (is_within calls (suc k)) (ap (affords t octets calls) (sym f) ∙ here) in
      (both.1, leb-true (work (take (suc k) (tries t))) octets both.0)

  pub paid_fits : (work (paid t octets calls) ≤ octets) × (is_within calls (length (paid t octets calls)) ≡ true)
  unfolding paid longest_number
  paid_fits = let a = afforded longest_number refl in (a.1, ap (is_within calls) length-paid ∙ a.0)

-- one more try is paid
pub counted_push : {fed called fed' called' ceiling : ℕ} {calls : Option ℕ} {es : List Try} (e : Try) → IsCounted fed called ceiling calls es → fed' ≡ fed + e.cost → called' ≡ called + 1 → fed' ≤ ceiling → is_within calls (called + 1) ≡ true → IsCounted fed' called' ceiling calls (es ++ e ∷ [])
counted_push {es} e c f k fits within =
    let more : length (es ++ e ∷ []) ≡ length es + 1 = length-append es (e ∷ []) in
    record {
      octets = rw work-push (f ∙ ap (λ n. n + e.cost) c.octets);
      calls = k ∙ ap (λ n. n + 1) c.calls ∙ sym more;
      fits = rw work-push (omega (arith, f, c.octets));
      within = rw (more, ← c.calls) within;
    }

-- nothing is paid yet
pub counted_none : {fed called : ℕ} (ceiling : ℕ) (calls : Option ℕ) → fed ≡ 0 → called ≡ 0 → IsCounted fed called ceiling calls []
unfolding is_within
counted_none ceiling calls f k = record {
  octets = rw work-nil f;
  calls = k;
  fits = rw work-nil (omega arith);
  within = elim calls as (λ o. is_within o 0 ≡ true) [ None ↦ refl | Some c ↦ le-leb 0 c (omega arith) ];
}
