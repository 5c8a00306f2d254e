-- Lines that are taken part by part.
use Rattle.std.proofs.Common.{◌≡◌, ◌≤◌, ◌<◌, ◌==◌, ◌||◌, ℕ, zero, suc, ◌+◌, Bool, true, false, List, [], ◌∷◌, ◌++◌, length, take, Option, None, Some, Err, IfSome, refl, sym, ap, if◌then◌else◌, ◌∙◌, append_assoc, length-append, arith, nat_lt}
use Rattle.std.proofs.lemmas.List.{take_all}
use Rattle.std.proofs.lemmas.List.Folds.{list_any-append}
use Rattle.std.proofs.lemmas.Bool.Decides.{nat_tests}
use Rattle.std.specs.Io.KnownBytes.{Consumes, IsAtEnd, Keeps, prepend_known}
use Rattle.jwt_command.specs.Lines.{lines, onto_first}
use Rattle.jwt_output.specs.Printed.{Answer}
use Rattle.jwt_output.specs.verdicts.Printer.{printer_for}
use Rattle.jwt_output.specs.verdicts.Verdicts.{moment_of, paid_tries, payload_of, token_answer, verdict_answer}
use Rattle.jwt_access.specs.Rules.{Rule}
use Rattle.jwt_output.specs.verdicts.Denied.{Demands}
use Rattle.jwt_settings.specs.Seen.{Expectation}
use Rattle.jwt_policy.specs.Settings.{Settings}
use Rattle.jwt_verify.specs.Verdict.{Terms, table, token_of, token_or_none, verdict_of}
use Rattle.jwt_verify.specs.Table.{states, work}
use Rattle.jwt_verify.specs.declared.report.InputFault.TheVariants.{TooLong}
use Rattle.jwt_verify.specs.declared.report.Fault.TheVariants.{Text}
use Rattle.jwt_command.specs.TakenLines.{after_line, first_line, has_line_feed}
use Rattle.jwt_command.proofs.LineLemmas.{HasNoFeed, line_at_end, line_at_feed, one_line}
use Rattle.jwt_settings.specs.declared.printing.Printing.{Printing}

-- ---- the first line

pub lines_first : (c : ℕ) (cs : List ℕ) → lines (c ∷ cs) ≡ first_line (c ∷ cs) ∷ lines (after_line (c ∷ cs))
lines_first c [] = go (c == 10)
  where
    go : (b : Bool) → (if b then [] ∷ lines [] else onto_first c (lines [])) ≡ (if b then [] else c ∷ first_line []) ∷ lines (if b then [] else after_line [])
    go true = refl
    go false = refl
lines_first c (d ∷ ds) = go (c == 10) (lines_first d ds)
  where
    go : (b : Bool) → lines (d ∷ ds) ≡ first_line (d ∷ ds) ∷ lines (after_line (d ∷ ds)) → (if b then [] ∷ lines (d ∷ ds) else onto_first c (lines (d ∷ ds))) ≡ (if b then [] else c ∷ first_line (d ∷ ds)) ∷ lines (if b then d ∷ ds else after_line (d ∷ ds))
    go true next = refl
    go false next = ap (onto_first c) next

pub lines_next : (x : List ℕ) → 0 < length x → lines x ≡ first_line x ∷ lines (after_line x)
lines_next [] some = absurd (omega arith)
lines_next (c ∷ cs) some = lines_first c cs

-- ---- the octets of a line

no_feed_more : (a b : List ℕ) → HasNoFeed a → HasNoFeed b → HasNoFeed (a ++ b)
no_feed_more a b x y = list_any-append (λ c. c == 10) a b ∙ ap (λ z. z || has_line_feed b) x ∙ y

no_feed_first : (octets : List ℕ) → HasNoFeed (first_line octets)
no_feed_first [] = refl
no_feed_first (c ∷ cs) = go (c == 10) refl (no_feed_first cs)
  where
    go : (b : Bool) → (c == 10) ≡ b → HasNoFeed (first_line cs) → HasNoFeed (if b then [] else c ∷ first_line cs)
    go true is more = refl
    go false is more = ap (λ b. b || has_line_feed (first_line cs)) is ∙ more

-- octets with a line feed are a line, that line feed, and what is behind it
line_and_feed : (octets : List ℕ) → has_line_feed octets ≡ true → octets ≡ first_line octets ++ 10 ∷ after_line octets
line_and_feed [] some = absurd (cc some)
line_and_feed (c ∷ cs) some = go (c == 10) refl some (λ h. line_and_feed cs h)
  where
    go : (b : Bool) → (c == 10) ≡ b → (b || has_line_feed cs) ≡ true → (has_line_feed cs ≡ true → cs ≡ first_line cs ++ 10 ∷ after_line cs)
        → c ∷ cs ≡ (if b then [] else c ∷ first_line cs) ++ 10 ∷ (if b then cs else after_line cs)
    go true is some more = ap (λ d. d ∷ cs) (grind (arith, nat_tests, is))
    go false is some more = ap (λ l. c ∷ l) (more some)

-- octets without a line feed were taken, of which those up to one past the limit are held
abbrev pub Walked : ℕ → Option (List ℕ) → Option (List ℕ) → List ℕ → Bool → Type 0
Walked limit told left held any = IfSome told (λ x. (walked : List ℕ) × Keeps (Some x) (prepend_known walked left) × HasNoFeed walked
    × (held ≡ take (limit + 1) walked) × (any ≡ false → walked ≡ []) × (any ≡ true → 0 < length walked))

pub length-take-all : (l : List ℕ) (n : ℕ) → n ≤ length l → length (take n l) ≡ n
length-take-all l zero h = refl
length-take-all [] (suc n) h = absurd (omega (arith, h))
length-take-all (d ∷ ds) (suc n) h = ap suc (length-take-all ds n (omega (arith, h)))

take_twice : (n : ℕ) (walked part : List ℕ) → take n (take n walked ++ part) ≡ take n (walked ++ part)
take_twice zero walked part = refl
take_twice (suc n) [] part = refl
take_twice (suc n) (c ∷ cs) part = ap (λ l. c ∷ l) (take_twice n cs part)

held_part : (limit : ℕ) (held new walked part : List ℕ) → held ≡ take (limit + 1) walked → new ≡ take (limit + 1) (held ++ part) → new ≡ take (limit + 1) (walked ++ part)
held_part limit held new walked part is more = more ∙ ap (λ h. take (limit + 1) (h ++ part)) is ∙ take_twice (limit + 1) walked part

-- all that was pulled was taken, without a line feed among it
pub walked_part : (limit : ℕ) (told left source : Option (List ℕ)) (held new ahead after : List ℕ) (any : Bool) → Walked limit told left held any → Keeps left (prepend_known ahead source)
    → has_line_feed ahead ≡ false → 0 < length ahead → after ≡ after_line ahead → new ≡ take (limit + 1) (held ++ first_line ahead)
    → Walked limit told (prepend_known after source) new true
walked_part limit None left source held new ahead after any w kept none some after_is new_is = tt
walked_part limit (Some x) None source held new ahead after any (walked, keeps, before, is, empty, longer) kept none some after_is new_is = absurd keeps
walked_part limit (Some x) (Some y) None held new ahead after any (walked, keeps, before, is, empty, longer) kept none some after_is new_is = absurd kept
walked_part limit (Some x) (Some y) (Some z) held new ahead after any (walked, keeps, before, is, empty, longer) kept none some after_is new_is =
    let one = one_line ahead none in (
      walked ++ ahead,
      ap (λ a. (walked ++ ahead) ++ (a ++ z)) (after_is ∙ one.1) ∙ append_assoc walked ahead z ∙ ap (λ l. walked ++ l) kept ∙ keeps,
      no_feed_more walked ahead before none,
      held_part limit held new walked ahead is (new_is ∙ ap (λ l. take (limit + 1) (held ++ l)) one.0),
      λ e. absurd (cc e),
      λ e. omega (arith, some, length-append walked ahead),
    )

-- ---- the ends of the loop

abbrev pub Line : ℕ → List ℕ → List ℕ → Option (List ℕ) → Type 0
Line limit x held rest = (0 < length x) × (held ≡ take (limit + 1) (first_line x)) × (rest ≡ Some (after_line x))

length_keeps : (x walked : List ℕ) (left : Option (List ℕ)) → Keeps (Some x) (prepend_known walked left) → length walked ≤ length x
length_keeps x walked None keeps = absurd keeps
length_keeps x walked (Some y) keeps = omega (arith, ap length keeps, length-append walked y)

keeps_nothing : (left rest : Option (List ℕ)) → Keeps left rest → Consumes left rest []
keeps_nothing None rest kept = tt
keeps_nothing (Some x) None kept = absurd kept
keeps_nothing (Some x) (Some y) kept = sym kept

pub walked_end : (limit : ℕ) (told left rest : Option (List ℕ)) (held : List ℕ) (any : Bool) → Walked limit told left held any → Keeps left rest → IsAtEnd rest → IfSome told (λ x. any ≡ true → Line limit x held rest)
walked_end limit None left rest held any w kept at_end = tt
walked_end limit (Some x) left rest held any (walked, keeps, none, is, empty, some) kept at_end = λ is_any.
    let line = line_at_end (length walked) (Some x) left rest walked keeps (keeps_nothing left rest kept) at_end none (omega arith) in
    (omega (arith, some is_any, length_keeps x walked left keeps), is ∙ ap (take (limit + 1)) line.line, line.unread)

-- a line feed is among what was pulled
pub walked_feed : (limit : ℕ) (told left source : Option (List ℕ)) (held new ahead after : List ℕ) (any : Bool) → Walked limit told left held any → Keeps left (prepend_known ahead source)
    → has_line_feed ahead ≡ true → after ≡ after_line ahead → new ≡ take (limit + 1) (held ++ first_line ahead)
    → IfSome told (λ x. Line limit x new (prepend_known after source))
walked_feed limit None left source held new ahead after any w kept feed after_is new_is = tt
walked_feed limit (Some x) None source held new ahead after any (walked, keeps, before, is, empty, longer) kept feed after_is new_is = absurd keeps
walked_feed limit (Some x) (Some y) None held new ahead after any (walked, keeps, before, is, empty, longer) kept feed after_is new_is = absurd kept
walked_feed limit (Some x) (Some y) (Some z) held new ahead after any (walked, keeps, before, is, empty, longer) kept feed after_is new_is =
    let line = first_line ahead in
    let rest = after_line ahead ++ z in
    let all : (walked ++ line) ++ 10 ∷ rest ≡ x =
    append_assoc walked line (10 ∷ rest) ∙ ap (λ l. walked ++ l) (sym (append_assoc line (10 ∷ after_line ahead) z) ∙ ap (λ l. l ++ z) (sym (line_and_feed ahead feed)) ∙ kept) ∙ keeps in
    let taken = line_at_feed (length (walked ++ line)) (Some x) (Some (10 ∷ rest)) (Some rest) (walked ++ line) all refl (no_feed_more walked line before (no_feed_first ahead)) (omega arith) in (
      omega (arith, ap length all, length-append (walked ++ line) (10 ∷ rest)),
      held_part limit held new walked line is new_is ∙ ap (take (limit + 1)) taken.line,
      ap (λ a. Some (a ++ z)) after_is ∙ taken.unread,
    )

-- ---- the answer to a token looks no further

answer_with : Printing → Demands → Terms → List ℕ → List ℕ → Answer
answer_with printing asked q payload x =
    verdict_answer printing asked (moment_of q) (verdict_of q x q.policy.run.work) payload (states (table q x) q.policy.run.work q.policy.max_calls) (paid_tries q x) (work (paid_tries q x))

answer_with_same : (printing : Printing) (asked : Demands) (q : Terms) (payload x y : List ℕ) → token_of q.policy x ≡ token_of q.policy y → answer_with printing asked q payload x ≡ answer_with printing asked q payload y
unfolding answer_with verdict_of table
answer_with_same printing asked q payload x y is = rw is refl

answer_by_token : (printing : Printing) (asked : Demands) (q : Terms) (x y : List ℕ) → token_of q.policy x ≡ token_of q.policy y → token_answer printing asked q x ≡ token_answer printing asked q y
unfolding answer_with
answer_by_token printing asked q x y is = answer_with_same printing asked q (payload_of q x) x y is ∙ ap (λ t. answer_with printing asked q (token_or_none t).payload y) is

pub token_too_long : (p : Settings) (x : List ℕ) → p.run.limit < length x → token_of p x ≡ Err (Text TooLong)
unfolding token_of
token_too_long p x long = let is : nat_lt p.run.limit (length x) ≡ true = grind (arith, nat_tests, long) in rw is refl

token_bounded : (printing : Printing) (asked : Demands) (q : Terms) (l : List ℕ) → token_answer printing asked q (take (q.policy.run.limit + 1) l) ≡ token_answer printing asked q l
token_bounded printing asked q l = go (nat_lt q.policy.run.limit (length l)) refl
  where
    go : (b : Bool) → nat_lt q.policy.run.limit (length l) ≡ b → token_answer printing asked q (take (q.policy.run.limit + 1) l) ≡ token_answer printing asked q l
    go true e = let long : q.policy.run.limit < length l = grind (arith, nat_tests, e) in
        answer_by_token printing asked q (take (q.policy.run.limit + 1) l) l
        (token_too_long q.policy (take (q.policy.run.limit + 1) l) (omega (arith, length-take-all l (q.policy.run.limit + 1) (omega (arith, long)))) ∙ sym (token_too_long q.policy l long))
    go false e = let short : length l ≤ q.policy.run.limit = grind (arith, nat_tests, e) in
        ap (token_answer printing asked q) (take_all (q.policy.run.limit + 1) l (omega (arith, short)))

-- the answer looks at a token no further than one octet past the limit
pub printed_bounded : (printing : Printing) (e : Option Expectation) (rule : Option Rule) (q : Terms) (l : List ℕ) → (printer_for printing e).token rule q (take (q.policy.run.limit + 1) l) ≡ (printer_for printing e).token rule q l
printed_bounded printing e rule q l = token_bounded printing (record { rule = rule; expected = e }) q l
