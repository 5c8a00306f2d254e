-- The answers to lines: those that went out, and those that are ready.
use Rattle.std.proofs.Common.{◌≡◌, ◌≤◌, ◌<◌, ◌-◌, ◌⊎◌, inl, inr, ℕ, zero, suc, ◌+◌, Bool, true, false, List, [], ◌∷◌, ◌++◌, length, take, drop, Option, None, Some, IfSome, refl, sym, ap, subst, ◌∙◌, append_assoc, append-nil, length-append, drop_at, arith, nat_lt}
use Rattle.std.proofs.lemmas.Bool.Decides.{nat_tests}
use Rattle.std.specs.Io.KnownBytes.{Appends, append_known, prepend_known}
use Rattle.jwt_command.specs.Lines.{AnswersLines, AreMoments, CutReady, Ended, GivesLines, IsMoment, LineAnswered, SendsReady, StopsBy, LineEnds, MayHaveSent, answers, lines, with_held}
use Rattle.jwt_output.specs.Printed.{Answer, Prints, out_of_memory}
use Rattle.jwt_command.specs.TakenLines.{after_line, first_line}
use Rattle.jwt_command.specs.declared.input.line.LineFault.{LineFault}
use Rattle.jwt_command.specs.declared.input.line.LineFault.TheVariants.{OutOfMemory, Read, TooLong}
use Rattle.jwt_command.proofs.WalkedLines.{Line, lines_next}

-- ---- what goes out

appends_more : (before between after : Option (List ℕ)) (first second : List ℕ) → Appends before between first → Appends between after second → Appends before after (first ++ second)
appends_more None between after first second a b = tt
appends_more (Some x) None after first second a b = absurd a
appends_more (Some x) (Some y) None first second a b = absurd b
appends_more (Some x) (Some y) (Some z) first second a b = b ∙ ap (λ l. l ++ second) a ∙ append_assoc x first second

appends_nothing : (before : Option (List ℕ)) → Appends before before []
appends_nothing None = tt
appends_nothing (Some x) = sym (append-nil x)

appends_known : (before : Option (List ℕ)) (octets : List ℕ) → Appends before (append_known before octets) octets
appends_known None octets = tt
appends_known (Some x) octets = refl

-- one answer more is ready
appends_ready : (sent : Option (List ℕ)) (ready new text : List ℕ) → new ≡ ready ++ text → Appends (append_known sent ready) (append_known sent new) text
appends_ready None ready new text is = tt
appends_ready (Some x) ready new text is = ap (λ l. x ++ l) is ∙ sym (append_assoc x ready text)

-- what was ready went out
appends_sent : (before sent after : Option (List ℕ)) (first ready text : List ℕ) → Appends before sent first → Appends sent after ready → Appends before (append_known sent ready) text → Appends before after text
appends_sent None sent after first ready text a b c = tt
appends_sent (Some x) None after first ready text a b c = absurd a
appends_sent (Some x) (Some y) None first ready text a b c = absurd b
appends_sent (Some x) (Some y) (Some z) first ready text a b c = b ∙ c

nothing_ready : (after : Option (List ℕ)) → append_known after [] ≡ after
nothing_ready None = refl
nothing_ready (Some x) = ap Some (append-nil x)

take_past : (first second : List ℕ) (n : ℕ) → take (length first + n) (first ++ second) ≡ first ++ take n second
take_past [] second n = ap (λ k. take k second) (no_more n)
  where
    no_more : (k : ℕ) → 0 + k ≡ k
    no_more k = omega arith
take_past (c ∷ cs) second n = ap (λ k. take k (c ∷ cs ++ second)) (one_more (length cs)) ∙ ap (λ l. c ∷ l) (take_past cs second n)
  where
    one_more : (k : ℕ) → suc k + n ≡ suc (k + n)
    one_more k = omega arith

take_inside : (n : ℕ) (first second : List ℕ) → n ≤ length first → take n (first ++ second) ≡ take n first
take_inside zero first second h = refl
take_inside (suc n) [] second h = absurd (omega (arith, h))
take_inside (suc n) (c ∷ cs) second h = ap (λ l. c ∷ l) (take_inside n cs second (omega (arith, h)))

same_rest : (first a b : List ℕ) → first ++ a ≡ first ++ b → a ≡ b
same_rest first a b e = sym (drop_at first a (length first) refl) ∙ ap (drop (length first)) e ∙ drop_at first b (length first) refl

-- a prefix of what was ready is one of the text of all answers
appends_cut : (before sent after : Option (List ℕ)) (first ready text : List ℕ) (n : ℕ) → Appends before sent first → Appends before (append_known sent ready) text → Appends sent after (take n ready)
    → (k : ℕ) × Appends before after (take k text)
appends_cut None sent after first ready text n a b c = (0, tt)
appends_cut (Some x) None after first ready text n a b c = absurd a
appends_cut (Some x) (Some y) None first ready text n a b c = absurd c
appends_cut (Some x) (Some y) (Some z) first ready text n a b c =
    let whole : first ++ ready ≡ text = same_rest x (first ++ ready) text (sym (append_assoc x first ready) ∙ ap (λ l. l ++ ready) (sym a) ∙ b) in
    (length first + n, c ∙ ap (λ l. l ++ take n ready) a ∙ append_assoc x first (take n ready) ∙ ap (λ l. x ++ l) (sym (take_past first ready n) ∙ ap (take (length first + n)) whole))

appends_behind : (between after : Option (List ℕ)) (text more : List ℕ) → Appends between after (text ++ more) → Appends (append_known between text) after more
appends_behind None after text more a = tt
appends_behind (Some x) None text more a = absurd a
appends_behind (Some x) (Some y) text more a = a ∙ sym (append_assoc x text more)

-- ---- the answers

answers_push : (at : ℕ → List ℕ → Answer) (ms : List ℕ) (ls : List (List ℕ)) (m : ℕ) (l : List ℕ) → length ms ≡ length ls
    → answers at (ms ++ m ∷ []) (ls ++ l ∷ []) ≡ answers at ms ls ++ (at m l).text
answers_push at [] [] m l each = append-nil (at m l).text
answers_push at [] (k ∷ ks) m l each = absurd (omega (arith, each))
answers_push at (n ∷ ns) [] m l each = absurd (omega (arith, each))
answers_push at (n ∷ ns) (k ∷ ks) m l each =
    ap (λ t. (at n k).text ++ t) (answers_push at ns ks m l (omega (arith, each))) ∙ sym (append_assoc (at n k).text (answers at ns ks) (at m l).text)

moments_push : (says : ℕ → List ℕ → ℕ → Type 0) (now : Option ℕ) (n : ℕ) (ms : List ℕ) (ls : List (List ℕ)) (m : ℕ) (l : List ℕ) → length ms ≡ length ls → AreMoments says now n ms ls
    → IsMoment (says (n + length ls) l) now m → AreMoments says now n (ms ++ m ∷ []) (ls ++ l ∷ [])
moments_push says now n [] [] m l each all p = (subst (λ k. IsMoment (says k l) now m) (omega arith) p, tt)
moments_push says now n [] (k ∷ ks) m l each all p = absurd (omega (arith, each))
moments_push says now n (i ∷ is) [] m l each all p = absurd (omega (arith, each))
moments_push says now n (i ∷ is) (k ∷ ks) m l each all p =
    (all.0, moments_push says now (suc n) is ks m l (omega (arith, each)) all.1 (subst (λ j. IsMoment (says j l) now m) (omega arith) p))

pub answers_none : (at : ℕ → List ℕ → Answer) (says : ℕ → List ℕ → ℕ → Type 0) (now : Option ℕ) (x : List ℕ) (before : Option (List ℕ)) → AnswersLines at says now x x before before
answers_none at says now x before = record { done = []; moments = []; done_are = refl; each = refl; said = tt; text = appends_nothing before }

pub answers_one_more : (at : ℕ → List ℕ → Answer) (says : ℕ → List ℕ → ℕ → Type 0) (now : Option ℕ) (x y : List ℕ) (before between after : Option (List ℕ))
    → (h : AnswersLines at says now x y before between) → 0 < length y
    → LineAnswered at (says (length h.done) (first_line y)) now (first_line y) between after → AnswersLines at says now x (after_line y) before after
answers_one_more at says now x y before between after h some (m, is_moment, text) = record {
  done = h.done ++ first_line y ∷ [];
  moments = h.moments ++ m ∷ [];
  done_are = h.done_are ∙ ap (λ l. h.done ++ l) (lines_next y some) ∙ sym (append_assoc h.done (first_line y ∷ []) (lines (after_line y)));
  each = omega (arith, h.each, length-append h.moments (m ∷ []), length-append h.done (first_line y ∷ []));
  said = moments_push says now 0 h.moments h.done m (first_line y) h.each h.said (subst (λ k. IsMoment (says k (first_line y)) now m) (omega arith) is_moment);
  text = subst (λ t. Appends before after t) (sym (answers_push at h.moments h.done m (first_line y) h.each)) (appends_more before between after (answers at h.moments h.done) (at m (first_line y)).text h.text text);
}

one_more_done : (at : ℕ → List ℕ → Answer) (says : ℕ → List ℕ → ℕ → Type 0) (now : Option ℕ) (x y : List ℕ) (before between after : Option (List ℕ))
    (h : AnswersLines at says now x y before between) (some : 0 < length y) (a : LineAnswered at (says (length h.done) (first_line y)) now (first_line y) between after)
    → length (answers_one_more at says now x y before between after h some a).done ≡ length h.done + 1
unfolding answers_one_more
one_more_done at says now x y before between after h some (m, is_moment, text) = length-append h.done (first_line y ∷ [])

-- the same answers, where as much stands behind what stood there before
answers_to : (at : ℕ → List ℕ → Answer) (says : ℕ → List ℕ → ℕ → Type 0) (now : Option ℕ) (x y : List ℕ) (before between after : Option (List ℕ))
    → (h : AnswersLines at says now x y before between) → Appends before after (answers at h.moments h.done) → AnswersLines at says now x y before after
answers_to at says now x y before between after h text = record { done = h.done; moments = h.moments; done_are = h.done_are; each = h.each; said = h.said; text = text }

-- ---- a write that failed

first_of : (a b : List ℕ) (x y : List (List ℕ)) → a ∷ x ≡ b ∷ y → (a ≡ b) × (x ≡ y)
first_of a b x y e = (cc e, cc e)

some_line : (z l : List ℕ) (ls : List (List ℕ)) → lines z ≡ l ∷ ls → 0 < length z
some_line [] l ls e = absurd (cc e)
some_line (c ∷ cs) l ls e = omega arith

-- the answer to the first line of z was cut
cut_here : (at : ℕ → List ℕ → Answer) (unread : Answer) (says : ℕ → List ℕ → ℕ → Type 0) (now : Option ℕ) (fails failed : Bool) (status m n : ℕ) (x z l : List ℕ) (before between after : Option (List ℕ))
    → (h : AnswersLines at says now x z before between) → first_line z ≡ l → IsMoment (says (length h.done) l) now m → Appends between after (take n (at m l).text) → failed ≡ true → status ≡ 3
    → Ended at unread says now x fails before after failed status
cut_here at unread says now fails failed status m n x z l before between after h is moment part is_failed three = record {
  y = z;
  between = between;
  done = h;
  by = inr (inr (inr (m, subst (λ k. IsMoment (says (length h.done) k) now m) (sym is) moment, is_failed, three, (n, subst (λ k. Appends between after (take n (at m k).text)) (sym is) part))));
}

-- what went out of the answers to lines is the answers to some of them, and a prefix of the answer to the next
cut_from : (at : ℕ → List ℕ → Answer) (unread : Answer) (says : ℕ → List ℕ → ℕ → Type 0) (now : Option ℕ) (fails failed : Bool) (status : ℕ) (ls : List (List ℕ)) (ms : List ℕ) (n : ℕ) (x z y : List ℕ) (before between after : Option (List ℕ))
    → (h : AnswersLines at says now x z before between) → lines z ≡ ls ++ lines y → length ms ≡ length ls → AreMoments says now (length h.done) ms ls → 0 < length ls
    → Appends between after (take n (answers at ms ls)) → failed ≡ true → status ≡ 3 → Ended at unread says now x fails before after failed status
cut_from at unread says now fails failed status [] ms n x z y before between after h is each said some part is_failed three = absurd (omega (arith, some))
cut_from at unread says now fails failed status (l ∷ ls) [] n x z y before between after h is each said some part is_failed three = absurd (omega (arith, each))
cut_from at unread says now fails failed status (l ∷ []) (m ∷ ms) n x z y before between after h is each said some part is_failed three =
    let here = first_of (first_line z) l (lines (after_line z)) (lines y) (sym (lines_next z (some_line z l (lines y) is)) ∙ is) in
    cut_here at unread says now fails failed status m n x z l before between after h here.0 said.0 (subst (λ t. Appends between after (take n t)) (last_text ms each) part) is_failed three
  where
    last_text : (ms : List ℕ) → length (m ∷ ms) ≡ length (l ∷ []) → (at m l).text ++ answers at ms [] ≡ (at m l).text
    last_text [] each = append-nil (at m l).text
    last_text (k ∷ ks) each = absurd (omega (arith, each))
cut_from at unread says now fails failed status (l ∷ k ∷ ks) (m ∷ []) n x z y before between after h is each said some part is_failed three = absurd (omega (arith, each))
cut_from at unread says now fails failed status (l ∷ k ∷ ks) (m ∷ i ∷ ms) n x z y before between after h is each said some part is_failed three =
    let text = (at m l).text in
    let more = append_known between text in
    let nonempty = some_line z l (k ∷ ks ++ lines y) is in
    let here = first_of (first_line z) l (lines (after_line z)) (k ∷ ks ++ lines y) (sym (lines_next z nonempty) ∙ is) in
    let answered : LineAnswered at (says (length h.done) (first_line z)) now (first_line z) between more =
    (m, subst (λ o. IsMoment (says (length h.done) o) now m) (sym here.0) said.0, subst (λ o. Appends between more (at m o).text) (sym here.0) (appends_known between text)) in
    let number = one_more_done at says now x z before between more h nonempty answered in
    cut_or (nat_lt n (length text)) refl here.0 (λ d went.
    cut_from at unread says now fails failed status (k ∷ ks) (i ∷ ms) d x (after_line z) y before more after (answers_one_more at says now x z before between more h nonempty answered) here.1 (omega (arith, each))
    (subst (λ j. AreMoments says now j (i ∷ ms) (k ∷ ks)) (next (length h.done) ∙ sym number) said.1) (omega arith) went is_failed three)
  where
    next : (j : ℕ) → suc j ≡ j + 1
    next j = omega arith

    cut_or : (b : Bool) → nat_lt n (length (at m l).text) ≡ b → first_line z ≡ l
        → ((d : ℕ) → Appends (append_known between (at m l).text) after (take d (answers at (i ∷ ms) (k ∷ ks))) → Ended at unread says now x fails before after failed status)
        → Ended at unread says now x fails before after failed status
    cut_or true e line more =
        let inside : n ≤ length (at m l).text = grind (arith, nat_tests, e) in
        cut_here at unread says now fails failed status m n x z l before between after h line said.0 (subst (λ t. Appends between after t) (take_inside n (at m l).text (answers at (i ∷ ms) (k ∷ ks)) inside) part) is_failed three
    cut_or false e line more =
        let text = (at m l).text in
        let rest = answers at (i ∷ ms) (k ∷ ks) in
        let past : length text + (n - length text) ≡ n = grind (arith, nat_tests, e) in
        let went : take n (text ++ rest) ≡ text ++ take (n - length text) rest = ap (λ j. take j (text ++ rest)) (sym past) ∙ take_past text rest (n - length text) in
        more (n - length text) (appends_behind between after text (take (n - length text) rest) (subst (λ t. Appends between after t) went part))

-- ---- a run over lines

-- an answer looks at a line no further than one octet past the limit
abbrev pub Bounded : ℕ → (ℕ → List ℕ → Answer) → Type 0
Bounded limit at = (m : ℕ) (l : List ℕ) → at m (take (limit + 1) l) ≡ at m l

-- so many lines were answered, and of the answers those that are ready haven't gone out
abbrev pub Answering : (ℕ → List ℕ → Answer) → (ℕ → List ℕ → ℕ → Type 0) → Option ℕ → ℕ → Option (List ℕ) → Option (List ℕ) → Option (List ℕ) → Option (List ℕ) → List ℕ → Type 0
Answering at says now n told left before sent ready = ((first : List ℕ) × Appends before sent first) × (0 < length ready → 0 < n)
    × IfSome told (λ x. (y : List ℕ) × (left ≡ Some y) × ((h : AnswersLines at says now x y before (append_known sent ready)) × (length h.done ≡ n)))

pub answering_none : (at : ℕ → List ℕ → Answer) (says : ℕ → List ℕ → ℕ → Type 0) (now : Option ℕ) (told : Option (List ℕ)) (ahead : List ℕ) (before : Option (List ℕ)) (ready : List ℕ) → ahead ≡ [] → ready ≡ []
    → Answering at says now 0 told (prepend_known ahead told) before before ready
unfolding answers_none answers_to
answering_none at says now told ahead before ready none empty = (([], appends_nothing before), λ some. absurd (omega (arith, ap length empty, some)), lines_from told)
  where
    lines_from : (told : Option (List ℕ)) → IfSome told (λ x. (y : List ℕ) × (prepend_known ahead told ≡ Some y) × ((h : AnswersLines at says now x y before (append_known before ready)) × (length h.done ≡ 0)))
    lines_from None = tt
    lines_from (Some x) = (
      x,
      ap (λ a. Some (a ++ x)) none,
      (
        answers_to at says now x x before before (append_known before ready) (answers_none at says now x before) (subst (λ r. Appends before (append_known before r) []) (sym empty) (appends_known before [])),
        refl,
      ),
    )

-- what the clock said of the octets that are held of a line
held_moment : (limit : ℕ) (says : ℕ → List ℕ → ℕ → Type 0) (now : Option ℕ) (n k m : ℕ) (held l : List ℕ) → held ≡ take (limit + 1) l → k ≡ n
    → IsMoment (says n held) now m → IsMoment (with_held limit says k l) now m
held_moment limit says now n k m held l is same p =
    subst (λ j. IsMoment (says j (take (limit + 1) l)) now m) (sym same) (subst (λ h. IsMoment (says n h) now m) is p)

pub answering_more : (limit : ℕ) (at : ℕ → List ℕ → Answer) (says : ℕ → List ℕ → ℕ → Type 0) (now : Option ℕ) (n : ℕ) (told left rest : Option (List ℕ)) (held : List ℕ) (before sent : Option (List ℕ)) (ready new : List ℕ)
    → Bounded limit at → Answering at (with_held limit says) now n told left before sent ready → IfSome left (λ y. Line limit y held rest) → LineAnswered at (says n held) now held (Some ready) (Some new)
    → Answering at (with_held limit says) now (n + 1) told rest before sent new
answering_more limit at says now n told left rest held before sent ready new same (first, some, run) line said = (first, λ e. omega arith, one_more told run)
  where
    one_more : (told : Option (List ℕ)) → IfSome told (λ x. (y : List ℕ) × (left ≡ Some y) × ((h : AnswersLines at (with_held limit says) now x y before (append_known sent ready)) × (length h.done ≡ n)))
        → IfSome told (λ x. (y : List ℕ) × (rest ≡ Some y) × ((h : AnswersLines at (with_held limit says) now x y before (append_known sent new)) × (length h.done ≡ n + 1)))
    one_more None run = tt
    one_more (Some x) (y, is, (done, number)) =
        let (m, moment, text) = said in
        let l = subst (λ o. IfSome o (λ y. Line limit y held rest)) is line in
        let more = subst (λ t. Appends (append_known sent ready) (append_known sent new) t) (ap (λ z. (at m z).text) l.1 ∙ ap (λ a. a.text) (same m (first_line y))) (appends_ready sent ready new (at m held).text text) in
        let answered : LineAnswered at (with_held limit says (length done.done) (first_line y)) now (first_line y) (append_known sent ready) (append_known sent new) =
        (m, held_moment limit says now n (length done.done) m held (first_line y) l.1 number moment, more) in (
          after_line y,
          l.2,
          (
            answers_one_more at (with_held limit says) now x y before (append_known sent ready) (append_known sent new) done l.0 answered,
            one_more_done at (with_held limit says) now x y before (append_known sent ready) (append_known sent new) done l.0 answered ∙ ap (λ k. k + 1) number,
          ),
        )

-- what was ready went out
pub answering_sent : (at : ℕ → List ℕ → Answer) (says : ℕ → List ℕ → ℕ → Type 0) (now : Option ℕ) (n : ℕ) (told left before sent after : Option (List ℕ)) (ready new : List ℕ)
    → Answering at says now n told left before sent ready → Appends sent after ready → new ≡ [] → Answering at says now n told left before after new
unfolding answers_to
answering_sent at says now n told left before sent after ready new ((first, begins), some, run) went empty =
    ((first ++ ready, appends_more before sent after first ready begins went), λ e. absurd (omega (arith, ap length empty, e)), all_sent told run)
  where
    all_sent : (told : Option (List ℕ)) → IfSome told (λ x. (y : List ℕ) × (left ≡ Some y) × ((h : AnswersLines at says now x y before (append_known sent ready)) × (length h.done ≡ n)))
        → IfSome told (λ x. (y : List ℕ) × (left ≡ Some y) × ((h : AnswersLines at says now x y before (append_known after new)) × (length h.done ≡ n)))
    all_sent None run = tt
    all_sent (Some x) (y, is, (done, number)) = (
      y,
      is,
      (
        answers_to at says now x y before (append_known sent ready) (append_known after new) done
            (subst (λ a. Appends before a (answers at done.moments done.done)) (sym (ap (append_known after) empty ∙ nothing_ready after)) (appends_sent before sent after first ready (answers at done.moments done.done) begins went done.text)),
        number,
      ),
    )

-- what was ready is ready still, or went out
pub answering_kept : (at : ℕ → List ℕ → Answer) (says : ℕ → List ℕ → ℕ → Type 0) (now : Option ℕ) (n : ℕ) (told left before sent after : Option (List ℕ)) (ready new : List ℕ)
    → Answering at says now n told left before sent ready → MayHaveSent ready new sent after → Answering at says now n told left before after new
answering_kept at says now n told left before sent after ready new run (inl (same, kept)) =
    subst (λ s. Answering at says now n told left before s new) (sym kept) (subst (λ r. Answering at says now n told left before sent r) (sym same) run)
answering_kept at says now n told left before sent after ready new run (inr (empty, went)) = answering_sent at says now n told left before sent after ready new run went empty

-- ---- the ends of a run

-- the answers, all of which went out
answers_sent : (at : ℕ → List ℕ → Answer) (says : ℕ → List ℕ → ℕ → Type 0) (now : Option ℕ) (x y : List ℕ) (before sent after : Option (List ℕ)) (ready : List ℕ) → ((first : List ℕ) × Appends before sent first)
    → AnswersLines at says now x y before (append_known sent ready) → Appends sent after ready → AnswersLines at says now x y before after
answers_sent at says now x y before sent after ready (first, begins) h went =
    answers_to at says now x y before (append_known sent ready) after h (appends_sent before sent after first ready (answers at h.moments h.done) begins went h.text)

pub lines_cut : (at : ℕ → List ℕ → Answer) (unread : Answer) (says : ℕ → List ℕ → ℕ → Type 0) (now : Option ℕ) (n : ℕ) (told left : Option (List ℕ)) (fails : Bool) (before sent after : Option (List ℕ)) (ready : List ℕ) (failed : Bool) (status : ℕ)
    → Answering at says now n told left before sent ready → CutReady ready sent after failed → status ≡ 3 → IfSome told (λ x. GivesLines at unread says now x fails before after failed status)
unfolding answers_none
lines_cut at unread says now n told left fails before sent after ready failed status ((first, begins), some, run) (long, is_failed, (j, part)) three = cut_in told run
  where
    cut_in : (told : Option (List ℕ)) → IfSome told (λ x. (y : List ℕ) × (left ≡ Some y) × ((h : AnswersLines at says now x y before (append_known sent ready)) × (length h.done ≡ n)))
        → IfSome told (λ x. GivesLines at unread says now x fails before after failed status)
    cut_in None run = tt
    cut_in (Some x) (y, is, (h, number)) =
        let cut = appends_cut before sent after first ready (answers at h.moments h.done) j begins h.text part in
        inr (cut_from at unread says now fails failed status h.done h.moments cut.0 x x y before before after (answers_none at says now x before) h.done_are h.each h.said (omega (arith, number, some long)) cut.1 is_failed three)

lines_sent : (at : ℕ → List ℕ → Answer) (unread : Answer) (says : ℕ → List ℕ → ℕ → Type 0) (now : Option ℕ) (n : ℕ) (told left : Option (List ℕ)) (fails : Bool) (before sent after : Option (List ℕ)) (ready : List ℕ) (failed : Bool) (status : ℕ)
    → Answering at says now n told left before sent ready → IfSome left (λ y. y ≡ []) → Appends sent after ready → status ≡ 0 → IfSome told (λ x. GivesLines at unread says now x fails before after failed status)
lines_sent at unread says now n None left fails before sent after ready failed status run empty went none = tt
lines_sent at unread says now n (Some x) left fails before sent after ready failed status (first, some, (y, is, (h, number))) empty went none =
    let end : y ≡ [] = subst (λ o. IfSome o (λ y. y ≡ [])) is empty in
    inl (subst (λ z. AnswersLines at says now x z before after) end (answers_sent at says now x y before sent after ready first h went), none)

pub lines_done : (at : ℕ → List ℕ → Answer) (unread : Answer) (says : ℕ → List ℕ → ℕ → Type 0) (now : Option ℕ) (n : ℕ) (told left : Option (List ℕ)) (fails : Bool) (before sent after : Option (List ℕ)) (ready : List ℕ) (failed : Bool) (status : ℕ)
    → Answering at says now n told left before sent ready → IfSome left (λ y. y ≡ []) → SendsReady ready (λ between. (between ≡ after) × (status ≡ 0)) sent after failed status
    → IfSome told (λ x. GivesLines at unread says now x fails before after failed status)
lines_done at unread says now n told left fails before sent after ready failed status run empty (inr (cut, three)) = lines_cut at unread says now n told left fails before sent after ready failed status run cut three
lines_done at unread says now n told left fails before sent after ready failed status run empty (inl (between, went, (same, none))) =
    lines_sent at unread says now n told left fails before sent after ready failed status run empty (subst (λ b. Appends sent b ready) same went) none

stops_by : (at : ℕ → List ℕ → Answer) (unread : Answer) (says : ℕ → Type 0) (now : Option ℕ) (l : List ℕ) (fails : Bool) (between after : Option (List ℕ)) (failed : Bool) (status : ℕ) (fault : LineFault)
    → StopsBy fault unread after failed status between → (fault ≡ Read → (fails ≡ true) ⊎ (now ≡ None))
    → ((fails ≡ true) × Prints unread between after failed status) ⊎ LineEnds at unread says now l between after failed status
stops_by at unread says now l fails between after failed status OutOfMemory stops why = inr (inr (inl stops))
stops_by at unread says now l fails between after failed status TooLong stops why = inr (inr (inl stops))
stops_by at unread says now l fails between after failed status Read (inr memory) why = inr (inr (inl memory))
stops_by at unread says now l fails between after failed status Read (inl printed) why = go (why refl)
  where
    go : (fails ≡ true) ⊎ (now ≡ None) → ((fails ≡ true) × Prints unread between after failed status) ⊎ LineEnds at unread says now l between after failed status
    go (inl source) = inl (source, printed)
    go (inr clock) = inr (inl (clock, printed))

lines_ended : (at : ℕ → List ℕ → Answer) (unread : Answer) (says : ℕ → List ℕ → ℕ → Type 0) (now : Option ℕ) (n : ℕ) (told left : Option (List ℕ)) (fails : Bool) (before sent between after : Option (List ℕ)) (ready : List ℕ) (failed : Bool) (status : ℕ) (fault : LineFault)
    → Answering at says now n told left before sent ready → (fault ≡ Read → (fails ≡ true) ⊎ (now ≡ None)) → Appends sent between ready → StopsBy fault unread after failed status between
    → IfSome told (λ x. GivesLines at unread says now x fails before after failed status)
lines_ended at unread says now n None left fails before sent between after ready failed status fault run why went stops = tt
lines_ended at unread says now n (Some x) left fails before sent between after ready failed status fault (first, some, (y, is, (h, number))) why went stops =
    let done = answers_sent at says now x y before sent between ready first h went in
    inr (record { y = y; between = between; done = done; by = stops_by at unread (says (length done.done) (first_line y)) now (first_line y) fails between after failed status fault stops why })

pub lines_stopped : (at : ℕ → List ℕ → Answer) (unread : Answer) (says : ℕ → List ℕ → ℕ → Type 0) (now : Option ℕ) (n : ℕ) (told left : Option (List ℕ)) (fails : Bool) (before sent after : Option (List ℕ)) (ready : List ℕ) (failed : Bool) (status : ℕ) (fault : LineFault)
    → Answering at says now n told left before sent ready → (fault ≡ Read → (fails ≡ true) ⊎ (now ≡ None)) → SendsReady ready (StopsBy fault unread after failed status) sent after failed status
    → IfSome told (λ x. GivesLines at unread says now x fails before after failed status)
lines_stopped at unread says now n told left fails before sent after ready failed status fault run why (inr (cut, three)) = lines_cut at unread says now n told left fails before sent after ready failed status run cut three
lines_stopped at unread says now n told left fails before sent after ready failed status fault run why (inl (between, went, stops)) =
    lines_ended at unread says now n told left fails before sent between after ready failed status fault run why went stops

-- no memory was there before the first line
pub lines_memory : (at : ℕ → List ℕ → Answer) (unread : Answer) (says : ℕ → List ℕ → ℕ → Type 0) (now : Option ℕ) (told : Option (List ℕ)) (fails : Bool) (before after : Option (List ℕ)) (failed : Bool) (status : ℕ)
    → Prints out_of_memory before after failed status → IfSome told (λ x. GivesLines at unread says now x fails before after failed status)
lines_memory at unread says now None fails before after failed status printed = tt
lines_memory at unread says now (Some x) fails before after failed status printed =
    inr (record { y = x; between = before; done = answers_none at says now x before; by = inr (inr (inl printed)) })
