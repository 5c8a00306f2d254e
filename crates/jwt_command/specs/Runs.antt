-- The end of a run of the command.
use Rattle.std.specs.Prelude.{◌≡◌, ◌⊎◌, ℕ, Bool, ◌||◌, true, false, not, List, [], Option, Some, None, Result, Ok, Err, IfSome, is_some}
use Rattle.std.specs.Option.{is_none}
use Rattle.std.specs.String.{string_bytes}
use Rattle.jwt_mac.specs.Verifying.{Meaning}
use Rattle.jwt_text.specs.Intake.{TakesAtMost}
use Rattle.jwt_words.specs.InHand.{Held}
use Rattle.jwt_words.specs.Reading.{reads}
use Rattle.jwt_words.specs.Seen.{command_view}
use Rattle.jwt_words.specs.Words.{Command, Mac, NewSecret, Policy, VerifyLines}
use Rattle.jwt_words.specs.declared.command.Command.{Command as CodeCommand}
use Rattle.jwt_words.specs.declared.words.WordsFault.{WordsFault}
use Rattle.jwt_words.specs.declared.words.WordsFault.TheVariants.{OutOfMemory, Wrong}
use Rattle.jwt_output.specs.Printed.{Answer, GivesWrongWords, out_of_memory}
use Rattle.jwt_output.specs.Refused.{printed_file_fault}
use Rattle.jwt_output.specs.verdicts.Printer.{printer_for}
use Rattle.jwt_command.specs.Answered.{IsAnswer}
use Rattle.jwt_command.specs.Mac.{key_spelled}
use Rattle.jwt_command.specs.RunLines.{LinesInHand, Outcome, Printed}
use Rattle.jwt_command.specs.Stops.{lacking, most_taken}
use Rattle.jwt_command.specs.Verify.{verifiers_if}

-- ---- what is printed

-- where each file that is named is in hand: an answer to each line, by what a clock says, or one answer
abbrev pub RunsInHand : List Meaning → (ℕ → List ℕ → ℕ → Type 0) → Held → Command → List ℕ → Bool → Outcome → Type 0
RunsInHand built_in says held (VerifyLines order) x failed o =
    LinesInHand (printer_for order.printing order.expected) (verifiers_if order.public_keys built_in) says order.now held.policy held.keys held.access x failed o
RunsInHand built_in says held command x failed o = (a : Answer) × IsAnswer built_in held command failed x a × Printed a o

-- or the first that isn't can't be read
abbrev pub RunsNamed : Option (List ℕ) → List Meaning → (ℕ → List ℕ → ℕ → Type 0) → Held → Command → List ℕ → Bool → Outcome → Type 0
RunsNamed (Some name) built_in says held command x failed o = Printed (printed_file_fault (reads command).printing name) o
RunsNamed None built_in says held command x failed o = RunsInHand built_in says held command x failed o

-- What the words ask for is answered; or an allocation was refused, with `verify --lines` before the first line. Where they ask for nothing, some
-- text says so. With these verifiers at hand, a clock and documents in hand, of an input x, by a reader that has failed or not.
abbrev pub Runs : List Meaning → (ℕ → List ℕ → ℕ → Type 0) → Held → Option Command → List ℕ → Bool → Outcome → Type 0
Runs built_in says held (Some command) x failed o = Printed out_of_memory o ⊎ RunsNamed (lacking held (Some command)) built_in says held command x failed o
Runs built_in says held None x failed o = GivesWrongWords o.before o.after o.failed o.status

-- ---- words that were read

-- what was read of words that ask for this, or for nothing; where memory was refused, they may ask for anything
abbrev pub IsReading : Result CodeCommand WordsFault → Option Command → Type 0
IsReading (Ok command) asked = asked ≡ Some (command_view command)
IsReading (Err (Wrong text)) asked = asked ≡ None
IsReading (Err OutOfMemory) asked = Unit {0}

-- of wrong words the very text goes out that reading them gave
abbrev pub TellsWrong : Result CodeCommand WordsFault → Outcome → Type 0
TellsWrong (Err (Wrong text)) o = Printed (record { text = string_bytes text; status = 2 }) o
TellsWrong reading o = Unit {0}

-- ---- whole runs

-- a key of `mac` that is refused
abbrev pub refuses_key : Command → Bool
refuses_key (Mac key limit) = is_none (key_spelled key)
refuses_key command = false

-- nothing is read for words that ask for nothing, for the version, for a secret, for a policy, and for a key of `mac` that is refused
abbrev pub reads_nothing : Option Command → Bool
reads_nothing (Some command) = not (reads command).input || refuses_key command
reads_nothing None = true

-- the commands that end with the status 3 for more than a read, a write and a file: where the clock of `verify --lines` can't be read, and where the
-- random source fails `jwk --new`; of them, and of `policy`, what is printed says where
abbrev pub fails_otherwise : Command → Bool
fails_otherwise (VerifyLines order) = true
fails_otherwise (NewSecret order) = true
fails_otherwise (Policy order) = true
fails_otherwise command = false

abbrev pub may_fail_otherwise : Option Command → Bool
may_fail_otherwise (Some command) = fails_otherwise command
may_fail_otherwise None = false

-- what was still to come of a source before and after, where that is known, and whether it has failed
pub record Drawn : Type 0 where
  pub before : Option (List ℕ)
  pub after : Option (List ℕ)
  pub failed : Bool

abbrev pub draws : (before after : Option (List ℕ)) → Bool → Drawn
draws before after failed = record { before = before; after = after; failed = failed }

-- a run of words that ask for this, or for nothing, on a source that may be untouched
pub record IsRun (built_in : List Meaning) (says : ℕ → List ℕ → ℕ → Type 0) (held : Held) (asked : Option Command) (source : Drawn) (Untouched : Type 0) (o : Outcome) : Type 0 where
  -- what is asked is answered
  pub answer : IfSome source.before (λ x. Runs built_in says held asked x source.failed o)
  -- at most one octet past a limit is taken, and nothing behind a line that is refused, unless the source has failed
  pub stops : IfSome source.before (λ x. (source.failed ≡ true) ⊎ IfSome (most_taken held asked x) (λ most. TakesAtMost most x source.after))
  -- of every source: what is answered without reading
  pub unread : reads_nothing asked ≡ true → Untouched
  pub known : reads_nothing asked ≡ true → Runs built_in says held asked [] false o
  -- and where the status is 3
  pub fails : o.status ≡ 3 → (source.failed ≡ true) ⊎ ((o.failed ≡ true) ⊎ ((is_some (lacking held asked) ≡ true) ⊎ (may_fail_otherwise asked ≡ true)))

-- ---- Cited by contracts of private functions alone

abbrev pub is_lines : Command → Bool
is_lines (VerifyLines order) = true
is_lines command = false
