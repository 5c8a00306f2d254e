-- A line that was taken octet by octet, against the first line of the input.
use Rattle.std.proofs.Common.{◌≡◌, ◌≤◌, ◌<◌, ◌==◌, ◌||◌, ℕ, zero, suc, ◌+◌, ◌-◌, Bool, true, false, List, [], ◌∷◌, ◌++◌, length, take, drop, get_or, slice_index, MatchOption, Option, None, Some, IfSome, refl, sym, ap, subst, if◌then◌else◌, ◌∙◌, append_assoc, append-nil, length-append, drop_at, arith}
use Rattle.memchr.specs.Find.{IsFirstByte, is_byte}
use Rattle.std.specs.Io.KnownBytes.{Consumes, IsAtEnd, Keeps, prepend_known}
use Rattle.std.proofs.Math.Nat.{le-min}
use Rattle.std.proofs.lemmas.List.{drop-drop, drop-take}
use Rattle.jwt_text.specs.Intake.{TakesAtMost}
use Rattle.jwt_command.specs.TakenLines.{LineFails, TakesLine, after_line, first_line, has_line_feed, line_most}
use Rattle.jwt_command.specs.declared.input.line.LineFault.TheVariants.{TooLong}

abbrev pub HasNoFeed : List ℕ → Type 0
HasNoFeed octets = has_line_feed octets ≡ false

-- ---- the first line of octets without a line feed, and what follows

no_feed_more : (b : Bool) (rest : Bool) → (b || rest) ≡ false → (b ≡ false) × (rest ≡ false)
no_feed_more true rest e = absurd (cc e)
no_feed_more false rest e = (refl, e)

first_line_more : (octets m : List ℕ) → HasNoFeed octets → first_line (octets ++ m) ≡ octets ++ first_line m
first_line_more [] m none = refl
first_line_more (c ∷ cs) m none =
    let parts = no_feed_more (c == 10) (has_line_feed cs) none in
    rw parts.0 (ap (λ l. c ∷ l) (first_line_more cs m parts.1))

after_line_more : (octets m : List ℕ) → HasNoFeed octets → after_line (octets ++ m) ≡ after_line m
after_line_more [] m none = refl
after_line_more (c ∷ cs) m none =
    let parts = no_feed_more (c == 10) (has_line_feed cs) none in
    rw parts.0 (after_line_more cs m parts.1)

-- ---- one pull of one octet

pub one_octet : (buf : List ℕ) (n : ℕ) → length buf ≡ 1 → n ≤ length buf → (n ≡ 0 → ⊥) → take n buf ≡ get_or buf 0 0 ∷ []
one_octet [] n sized within some = absurd (omega arith)
one_octet (c ∷ []) zero sized within some = absurd (some refl)
one_octet (c ∷ []) (suc zero) sized within some = refl
one_octet (c ∷ []) (suc (suc n)) sized within some = absurd (omega arith)
one_octet (c ∷ d ∷ ds) n sized within some = absurd (omega arith)

-- ---- the ends of the loop

-- the input ended
pub line_at_end : (limit : ℕ) (told mid rest : Option (List ℕ)) (octets : List ℕ) → Keeps told (prepend_known octets mid) → Consumes mid rest [] → IsAtEnd rest
    → HasNoFeed octets → length octets ≤ limit → IfSome told (λ x. TakesLine limit x octets rest)
line_at_end limit None mid rest octets keeps consumes at_end none within = tt
line_at_end limit (Some x) None rest octets keeps consumes at_end none within = absurd keeps
line_at_end limit (Some x) (Some m) None octets keeps consumes at_end none within = absurd consumes
line_at_end limit (Some x) (Some m) (Some y) octets keeps consumes at_end none within =
    let empty : m ≡ [] = consumes ∙ at_end in
    let all : octets ++ [] ≡ x = ap (λ l. octets ++ l) (sym empty) ∙ keeps in
    let line : first_line x ≡ octets = ap first_line (sym all) ∙ first_line_more octets [] none ∙ append-nil octets in
    let after : after_line x ≡ [] = ap after_line (sym all) ∙ after_line_more octets [] none in
    record { line = sym line; unread = ap Some (at_end ∙ sym after); within = subst (λ (l : List ℕ). length l ≤ limit) (sym line) within }

-- a line feed came
pub line_at_feed : (limit : ℕ) (told mid rest : Option (List ℕ)) (octets : List ℕ) → Keeps told (prepend_known octets mid) → Consumes mid rest (10 ∷ [])
    → HasNoFeed octets → length octets ≤ limit → IfSome told (λ x. TakesLine limit x octets rest)
line_at_feed limit None mid rest octets keeps consumes none within = tt
line_at_feed limit (Some x) None rest octets keeps consumes none within = absurd keeps
line_at_feed limit (Some x) (Some m) None octets keeps consumes none within = absurd consumes
line_at_feed limit (Some x) (Some m) (Some y) octets keeps consumes none within =
    let all : octets ++ 10 ∷ y ≡ x = ap (λ l. octets ++ l) (sym consumes) ∙ keeps in
    let line : first_line x ≡ octets = ap first_line (sym all) ∙ first_line_more octets (10 ∷ y) none ∙ append-nil octets in
    let after : after_line x ≡ y = ap after_line (sym all) ∙ after_line_more octets (10 ∷ y) none in
    record { line = sym line; unread = ap Some (sym after); within = subst (λ (l : List ℕ). length l ≤ limit) (sym line) within }

-- an allocation was refused
pub line_without_memory : (limit : ℕ) (told mid rest : Option (List ℕ)) (octets : List ℕ) (c : ℕ) → Keeps told (prepend_known octets mid) → Consumes mid rest (c ∷ [])
    → HasNoFeed octets → length octets ≤ limit → IfSome told (λ x. TakesAtMost (line_most limit x) x rest)
line_without_memory limit None mid rest octets c keeps consumes none within = tt
line_without_memory limit (Some x) None rest octets c keeps consumes none within = absurd keeps
line_without_memory limit (Some x) (Some m) None octets c keeps consumes none within = absurd consumes
line_without_memory limit (Some x) (Some m) (Some y) octets c keeps consumes none within =
    let all : octets ++ c ∷ y ≡ x = ap (λ l. octets ++ l) (sym consumes) ∙ keeps in
    let line : first_line x ≡ octets ++ first_line (c ∷ y) = ap first_line (sym all) ∙ first_line_more octets (c ∷ y) none in
    let front : (octets ++ c ∷ []) ++ y ≡ x = append_assoc octets (c ∷ []) y ∙ all in
    let count : length (octets ++ c ∷ []) ≡ length octets + 1 = length-append octets (c ∷ []) in
    let dropped : drop (length octets + 1) x ≡ y = ap (drop (length octets + 1)) (sym front) ∙ drop_at (octets ++ c ∷ []) y (length octets + 1) count in
    (length octets + 1, le-min (omega arith) (omega (arith, ap length line, length-append octets (first_line (c ∷ y)))), ap Some (sym dropped))

-- one octet past the limit came
pub line_too_long : (limit : ℕ) (failed : Bool) (told mid : Option (List ℕ)) (octets : List ℕ) → Keeps told (prepend_known octets mid) → HasNoFeed octets
    → length octets ≡ limit + 1 → failed ≡ false → IfSome told (λ x. LineFails limit failed x mid TooLong)
line_too_long limit failed None mid octets keeps none sized works = tt
line_too_long limit failed (Some x) None octets keeps none sized works = absurd keeps
line_too_long limit failed (Some x) (Some m) octets keeps none sized works =
    let line : first_line x ≡ octets ++ first_line m = ap first_line (sym keeps) ∙ first_line_more octets m none in
    let dropped : drop (limit + 1) x ≡ m = ap (drop (limit + 1)) (sym keeps) ∙ drop_at octets m (limit + 1) sized in
    (omega (arith, ap length line, length-append octets (first_line m), sized), ap Some (sym dropped), works)

-- ---- what is taken

after_drops : (x : List ℕ) → (n : ℕ) × (n ≤ length (first_line x) + 1) × (after_line x ≡ drop n x)
after_drops [] = (0, omega arith, refl)
after_drops (c ∷ cs) = go (c == 10) (after_drops cs)
  where
    go : (feed : Bool) → (n : ℕ) × (n ≤ length (first_line cs) + 1) × (after_line cs ≡ drop n cs)
        → (n : ℕ) × (n ≤ length (if feed then [] else c ∷ first_line cs) + 1) × ((if feed then cs else after_line cs) ≡ drop n (c ∷ cs))
    go true h = (1, omega arith, refl)
    go false h = (suc h.0, omega (arith, h.1), h.2)

pub line_taken : (limit : ℕ) (x octets : List ℕ) (rest : Option (List ℕ)) → TakesLine limit x octets rest → TakesAtMost (line_most limit x) x rest
line_taken limit x octets rest h =
    let d = after_drops x in
    (d.0, le-min (omega (arith, d.1, h.within)) d.1, h.unread ∙ ap Some d.2)

pub too_long_taken : (limit : ℕ) (failed : Bool) (x : List ℕ) (rest : Option (List ℕ)) → LineFails limit failed x rest TooLong → TakesAtMost (line_most limit x) x rest
too_long_taken limit failed x rest h = (limit + 1, le-min (omega arith) (omega (arith, h.0)), h.1)

-- ---- the first line feed, as a search finds it

refused : (b : Bool) → ¬ (b ≡ true) → b ≡ false
refused true h = absurd (h refl)
refused false h = refl

feed_nowhere : (z : List ℕ) → ((j : ℕ) → j < length z → ¬ ((slice_index z j == 10) ≡ true)) → has_line_feed z ≡ false
feed_nowhere [] none = refl
feed_nowhere (c ∷ cs) none =
    ap (λ b. b || has_line_feed cs) (refused (c == 10) (none zero (omega arith))) ∙ feed_nowhere cs (λ j low. none (suc j) (omega arith))

feed_at : (z : List ℕ) (k : ℕ) → k < length z → (slice_index z k == 10) ≡ true → ((j : ℕ) → j < k → ¬ ((slice_index z j == 10) ≡ true))
    → (has_line_feed z ≡ true) × (first_line z ≡ take k z) × (after_line z ≡ drop (suc k) z)
feed_at [] k low here before = absurd (omega arith)
feed_at (c ∷ cs) zero low here before = rw here (refl, refl, refl)
feed_at (c ∷ cs) (suc k) low here before =
    let off : (c == 10) ≡ false = refused (c == 10) (before zero (omega arith)) in
    let more = feed_at cs k (omega arith) here (λ j l. before (suc j) (omega arith)) in
    rw off (more.0, ap (λ l. c ∷ l) more.1, more.2)

-- octets without a line feed are one line
pub one_line : (octets : List ℕ) → HasNoFeed octets → (first_line octets ≡ octets) × (after_line octets ≡ [])
one_line octets none = (
  ap first_line (sym (append-nil octets)) ∙ first_line_more octets [] none ∙ append-nil octets,
  ap after_line (sym (append-nil octets)) ∙ after_line_more octets [] none,
)

pub first_feed : (z : List ℕ) (r : Option ℕ) → IsFirstByte (is_byte 10) z r
    → MatchOption r ((has_line_feed z ≡ false) × (first_line z ≡ z) × (after_line z ≡ []))
    (λ i. (has_line_feed z ≡ true) × (i < length z) × (first_line z ≡ take i z) × (after_line z ≡ drop (i + 1) z))
first_feed z None h =
    let none : has_line_feed z ≡ false = feed_nowhere z (λ j low. h j (omega arith) low) in
    let one = one_line z none in
    (none, one.0, one.1)
first_feed z (Some k) h =
    let at = feed_at z k h.0.high h.1 (λ j low. h.0.before j (omega arith) low) in
    let next : suc k ≡ k + 1 = omega arith in
    (at.0, h.0.high, at.1, at.2 ∙ ap (λ n. drop n z) next)

-- what is behind the first octets of a part of a list
pub behind_part : (octets : List ℕ) (start end i : ℕ) → start + (i + 1) ≤ end → drop (i + 1) (take (end - start) (drop start octets)) ≡ take (end - (start + (i + 1))) (drop (start + (i + 1)) octets)
behind_part octets start end i within =
    let sized : end - start ≡ i + 1 + (end - (start + (i + 1))) = omega (arith, within) in
    ap (λ n. drop (i + 1) (take n (drop start octets))) sized ∙ drop-take (i + 1) (end - (start + (i + 1))) (drop start octets)
    ∙ ap (take (end - (start + (i + 1)))) (drop-drop (i + 1) start octets)

pub length-part : (octets : List ℕ) (n : ℕ) → length (take n octets) ≤ n
length-part octets zero = omega arith
length-part [] (suc n) = omega arith
length-part (c ∷ cs) (suc n) = omega (arith, length-part cs n)
