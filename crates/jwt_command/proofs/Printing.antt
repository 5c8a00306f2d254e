-- From the answer before it goes out to how the run ends.
use Rattle.std.proofs.Common.{◌≡◌, ◌∙◌, ◌⊎◌, inl, inr, refl, sym, subst, ℕ, Bool, true, false, List, [], Option, None, Some, Result, Ok, Err, IfOk, IfErr, IfSome, is_some, true≢false, arith}
use Rattle.std.proofs.lemmas.Option.{IfSome_then}
use Rattle.jwt_mac.specs.Verifying.{Meaning}
use Rattle.jwt_text.specs.Intake.{TakesAtMost}
use Rattle.jwt_words.specs.InHand.{Held}
use Rattle.jwt_words.specs.Reading.{reads}
use Rattle.jwt_words.specs.Seen.{IsWrong, command_view}
use Rattle.jwt_words.specs.Words.{Command, Issue, Jwk, Keys, LinesOrder, Mac, MacFile, NewSecret, Policy, Pretty, Show, Verify, VerifyLines, Version}
use Rattle.jwt_words.specs.declared.command.Command.{Command as CodeCommand}
use Rattle.jwt_words.specs.declared.words.WordsFault.{WordsFault}
use Rattle.jwt_words.specs.declared.words.WordsFault.TheVariants.{OutOfMemory as NoMemory, Wrong}
use Rattle.jwt_output.specs.Printed.{Answer, out_of_memory}
use Rattle.jwt_output.specs.Refused.{printed_file_fault}
use Rattle.jwt_command.specs.Answered.{IsAnswer}
use Rattle.jwt_command.specs.RunLines.{Outcome, Printed}
use Rattle.jwt_command.specs.Runs.{Drawn, IsReading, IsRun, Runs, RunsInHand, RunsNamed, fails_otherwise, may_fail_otherwise, reads_nothing}
use Rattle.jwt_command.specs.Stops.{lacking, most_in_hand, most_taken, most_unless_unread}
use Rattle.jwt_command.proofs.RunningLines.{given, where_known}

-- ---- words that were read

pub reading_of : (result : Result CodeCommand WordsFault) (asked : Option Command) → IfOk result (λ command. asked ≡ Some (command_view command)) → IfErr result (λ fault. IsWrong fault → asked ≡ None)
    → IsReading result asked
reading_of (Ok command) asked ok err = ok
reading_of (Err (Wrong text)) asked ok err = err tt
reading_of (Err NoMemory) asked ok err = tt

-- ---- where the status is 3

pub memory_three : (o : Outcome) → o.status ≡ 3 → Printed out_of_memory o → o.failed ≡ true
memory_three o three (inl printed) = let four : 4 ≡ 3 = sym printed.2 ∙ three in absurd (omega (arith, four))
memory_three o three (inr cut) = cut.0

wrong_three : (o : Outcome) (text : List ℕ) → o.status ≡ 3 → Printed (record { text = text; status = 2 }) o → o.failed ≡ true
wrong_three o text three (inl printed) = let two : 2 ≡ 3 = sym printed.2 ∙ three in absurd (omega (arith, two))
wrong_three o text three (inr cut) = cut.0

answer_three : {A E : Type 0} (view : A → Answer) (reply : Result A E) (P Q S : Type 0) (o : Outcome) → IfOk reply (λ r. (view r).status ≡ 3 → P ⊎ S)
    → IfOk reply (λ r. Printed (view r) o) → IfErr reply (λ e. Printed out_of_memory o) → o.status ≡ 3 → P ⊎ ((o.failed ≡ true) ⊎ (Q ⊎ S))
answer_three view (Ok r) P Q S o p (inl printed) lacks is = either (p (sym printed.2 ∙ is))
  where
    either : P ⊎ S → P ⊎ ((o.failed ≡ true) ⊎ (Q ⊎ S))
    either (inl h) = inl h
    either (inr h) = inr (inr (inr h))
answer_three view (Ok r) P Q S o p (inr cut) lacks is = inr (inl cut.0)
answer_three view (Err e) P Q S o p printed lacks is = inr (inl (memory_three o is lacks))

-- ---- a run that reads nothing

none_taken : (most : Option ℕ) (x : List ℕ) → IfSome most (λ n. TakesAtMost n x (Some x))
none_taken None x = tt
none_taken (Some n) x = (0, omega arith, refl)

none_drawn : (held : Held) (asked : Option Command) (known : Option (List ℕ)) (failed : Bool) → IfSome known (λ x. (failed ≡ true) ⊎ IfSome (most_taken held asked x) (λ most. TakesAtMost most x known))
none_drawn held asked None failed = tt
none_drawn held asked (Some x) failed = inr (none_taken (most_taken held asked x) x)

abbrev pub kept : Option (List ℕ) → Bool → Drawn
kept known failed = record { before = known; after = known; failed = failed }

module _ (built_in : List Meaning) (says : ℕ → List ℕ → ℕ → Type 0) (held : Held) where
  untouched_run : (asked : Option Command) (known : Option (List ℕ)) (failed : Bool) (Untouched : Type 0) (o : Outcome) → Untouched → ((x : List ℕ) (f : Bool) → Runs built_in says held asked x f o)
      → (o.status ≡ 3 → (failed ≡ true) ⊎ ((o.failed ≡ true) ⊎ ((is_some (lacking held asked) ≡ true) ⊎ (may_fail_otherwise asked ≡ true))))
      → IsRun built_in says held asked (kept known failed) Untouched o
  untouched_run asked known failed Untouched o untouched runs fails = record {
    answer = where_known known (λ x. Runs built_in says held asked x failed o) (λ x. runs x failed);
    stops = none_drawn held asked known failed;
    unread = λ nothing. untouched;
    known = λ nothing. runs [] false;
    fails = fails;
  }

  -- words that ask for nothing
  pub wrong_run : (text : List ℕ) (known : Option (List ℕ)) (failed : Bool) (Untouched : Type 0) (o : Outcome) → Untouched → Printed (record { text = text; status = 2 }) o
      → IsRun built_in says held None (kept known failed) Untouched o
  wrong_run text known failed Untouched o untouched printed =
      untouched_run None known failed Untouched o untouched (λ x f. inl (text, printed)) (λ three. inr (inl (wrong_three o text three printed)))

  lacks_memory : (asked : Option Command) (x : List ℕ) (failed : Bool) (o : Outcome) → Printed out_of_memory o → Runs built_in says held asked x failed o
  lacks_memory None x failed o printed = inr printed
  lacks_memory (Some command) x failed o printed = inl printed

  -- words that there was no memory to read
  pub memory_run : (asked : Option Command) (known : Option (List ℕ)) (failed : Bool) (Untouched : Type 0) (o : Outcome) → Untouched → Printed out_of_memory o
      → IsRun built_in says held asked (kept known failed) Untouched o
  memory_run asked known failed Untouched o untouched printed =
      untouched_run asked known failed Untouched o untouched (λ x f. lacks_memory asked x f o printed) (λ three. inr (inl (memory_three o three printed)))

  -- a file that can't be read
  pub unread_run : {A E : Type 0} (view : A → Answer) (reply : Result A E) (command : Command) (name : List ℕ) (known : Option (List ℕ)) (failed : Bool) (Untouched : Type 0) (o : Outcome)
      → Some name ≡ lacking held (Some command) → Untouched → IfOk reply (λ r. view r ≡ printed_file_fault (reads command).printing name)
      → IfOk reply (λ r. Printed (view r) o) → IfErr reply (λ e. Printed out_of_memory o) → IsRun built_in says held (Some command) (kept known failed) Untouched o
  unread_run view reply command name known failed Untouched o is untouched line printed lacks =
      untouched_run (Some command) known failed Untouched o untouched
      (λ x f. subst (λ (u : Option (List ℕ)). Printed out_of_memory o ⊎ RunsNamed u built_in says held command x f o) is (given view reply (printed_file_fault (reads command).printing name) o line printed lacks))
      (λ three. inr (inr (inl (subst (λ (u : Option (List ℕ)). is_some u ≡ true) is refl))))

  -- ---- a run whose files are in hand

  in_hand : (command : Command) (x : List ℕ) (failed : Bool) (o : Outcome) → None ≡ lacking held (Some command) → Printed out_of_memory o ⊎ RunsInHand built_in says held command x failed o
      → Runs built_in says held (Some command) x failed o
  in_hand command x failed o none runs = subst (λ (u : Option (List ℕ)). Printed out_of_memory o ⊎ RunsNamed u built_in says held command x failed o) none runs

  -- a verdict for each line
  pub lines_run : (order : LinesOrder) (source : Drawn) (Untouched : Type 0) (o : Outcome) → None ≡ lacking held (Some (VerifyLines order))
      → IfSome source.before (λ x. Printed out_of_memory o ⊎ RunsInHand built_in says held (VerifyLines order) x source.failed o)
      → IsRun built_in says held (Some (VerifyLines order)) source Untouched o
  lines_run order source Untouched o none runs = record {
    answer = IfSome_then source.before runs (λ x run. in_hand (VerifyLines order) x source.failed o none run);
    stops = subst (λ (u : Option (List ℕ)). IfSome source.before (λ x. (source.failed ≡ true) ⊎ IfSome (most_unless_unread u None) (λ most. TakesAtMost most x source.after))) none
        (where_known source.before (λ x. (source.failed ≡ true) ⊎ Unit {0}) (λ x. inr tt));
    unread = λ bad. absurd (true≢false (sym bad));
    known = λ bad. absurd (true≢false (sym bad));
    fails = λ three. inr (inr (inr refl));
  }

  -- one answer
  one_answer : (command : Command) (x : List ℕ) (failed : Bool) (o : Outcome) → ((a : Answer) × IsAnswer built_in held command failed x a × Printed a o) → RunsInHand built_in says held command x failed o
  one_answer (Mac key limit) x failed o one = one
  one_answer (MacFile name limit) x failed o one = one
  one_answer (Keys printing) x failed o one = one
  one_answer (Show printing limit) x failed o one = one
  one_answer (Verify printing now public_keys expected files) x failed o one = one
  one_answer (VerifyLines order) x failed o one = absurd one.1
  one_answer (Issue alg typ form files) x failed o one = one
  one_answer Version x failed o one = one
  one_answer (Jwk order) x failed o one = one
  one_answer (NewSecret order) x failed o one = one
  one_answer (Policy order) x failed o one = one
  one_answer (Pretty order) x failed o one = one

  one_given : {A E : Type 0} (view : A → Answer) (reply : Result A E) (command : Command) (x : List ℕ) (failed : Bool) (o : Outcome) → IfOk reply (λ r. IsAnswer built_in held command failed x (view r))
      → IfOk reply (λ r. Printed (view r) o) → IfErr reply (λ e. Printed out_of_memory o) → Printed out_of_memory o ⊎ RunsInHand built_in says held command x failed o
  one_given view (Ok r) command x failed o is printed lacks = inr (one_answer command x failed o (view r, is, printed))
  one_given view (Err e) command x failed o is printed lacks = inl lacks

  pub reply_run : {A E : Type 0} (view : A → Answer) (reply : Result A E) (command : Command) (source : Drawn) (Untouched : Type 0) (o : Outcome) → None ≡ lacking held (Some command)
      → IfSome source.before (λ x. IfOk reply (λ r. IsAnswer built_in held command source.failed x (view r)))
      → IfSome source.before (λ x. (source.failed ≡ true) ⊎ IfSome (most_in_hand held command x) (λ most. TakesAtMost most x source.after))
      → (reads_nothing (Some command) ≡ true → Untouched) → (reads_nothing (Some command) ≡ true → IfOk reply (λ r. IsAnswer built_in held command false [] (view r)))
      → IfOk reply (λ r. (view r).status ≡ 3 → (source.failed ≡ true) ⊎ (fails_otherwise command ≡ true))
      → IfOk reply (λ r. Printed (view r) o) → IfErr reply (λ e. Printed out_of_memory o) → IsRun built_in says held (Some command) source Untouched o
  reply_run view reply command source Untouched o none answer stops unread known fails printed lacks = record {
    answer = IfSome_then source.before answer (λ x is. in_hand command x source.failed o none (one_given view reply command x source.failed o is printed lacks));
    stops = subst (λ (u : Option (List ℕ)). IfSome source.before (λ x. (source.failed ≡ true) ⊎ IfSome (most_unless_unread u (most_in_hand held command x)) (λ most. TakesAtMost most x source.after))) none stops;
    unread = unread;
    known = λ nothing. in_hand command [] false o none (one_given view reply command [] false o (known nothing) printed lacks);
    fails = answer_three view reply (source.failed ≡ true) (is_some (lacking held (Some command)) ≡ true) (fails_otherwise command ≡ true) o fails printed lacks;
  }

-- the same with other documents that are these
pub run_with : (built_in : List Meaning) (says : ℕ → List ℕ → ℕ → Type 0) (held other : Held) (asked : Option Command) (source : Drawn) (Untouched : Type 0) (o : Outcome) → held ≡ other
    → IsRun built_in says held asked source Untouched o → IsRun built_in says other asked source Untouched o
run_with built_in says held other asked source Untouched o is run = subst (λ (h : Held). IsRun built_in says h asked source Untouched o) is run
