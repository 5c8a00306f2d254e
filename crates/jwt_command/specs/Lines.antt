-- The lines of an input, and the answers to them.
use Rattle.std.specs.Prelude.{◌≡◌, ◌≤◌, ◌<◌, ◌⊎◌, ◌==◌, ◌+◌, ℕ, suc, Bool, true, List, [], ◌∷◌, ◌++◌, length, take, Option, Some, None, if◌then◌else◌}
use Rattle.std.specs.Io.KnownBytes.{Appends}
use Rattle.jwt_command.specs.TakenLines.{first_line}
use Rattle.jwt_command.specs.declared.input.line.LineFault.{LineFault}
use Rattle.jwt_command.specs.declared.input.line.LineFault.TheVariants.{Read}
use Rattle.jwt_settings.specs.Moments.{last_moment}
use Rattle.jwt_output.specs.Printed.{Answer, Prints, out_of_memory}

-- ---- the lines

-- an octet before the first of some lines
abbrev pub onto_first : ℕ → List (List ℕ) → List (List ℕ)
onto_first c [] = (c ∷ []) ∷ []
onto_first c (l ∷ ls) = (c ∷ l) ∷ ls

-- what stands before each line feed, and what stands behind the last one, where that isn't empty
abbrev pub lines : List ℕ → List (List ℕ)
lines [] = []
lines (c ∷ cs) = if c == 10 then [] ∷ lines cs else onto_first c (lines cs)

-- ---- the answers

-- What a clock says: of the line with a number, from 0, and these octets, that it came at this moment.

-- the moment of an answer: the one that `--now` names, else one that the clock says for that line
abbrev pub IsMoment : (ℕ → Type 0) → Option ℕ → ℕ → Type 0
IsMoment says (Some now) m = m ≡ now
IsMoment says None m = says m × (m ≤ last_moment)

-- the moments of lines, the first of which has this number
abbrev pub AreMoments : (ℕ → List ℕ → ℕ → Type 0) → Option ℕ → ℕ → List ℕ → List (List ℕ) → Type 0
AreMoments says now n (m ∷ ms) (l ∷ ls) = IsMoment (says n l) now m × AreMoments says now (suc n) ms ls
AreMoments says now n ms ls = Unit {0}

-- The clock is asked with the line in hand, of which the octets up to one past a limit are held.
abbrev pub with_held : ℕ → (ℕ → List ℕ → ℕ → Type 0) → ℕ → List ℕ → ℕ → Type 0
with_held limit says n l = says n (take (limit + 1) l)

-- the answers to lines, one each, in order, at the moments that stand beside them
abbrev pub answers : (ℕ → List ℕ → Answer) → List ℕ → List (List ℕ) → List ℕ
answers at (m ∷ ms) (l ∷ ls) = (at m l).text ++ answers at ms ls
answers at ms ls = []

-- From x still to come to y: the lines between them are answered, each at a moment of its own, and nothing else went out.
pub record AnswersLines (at : ℕ → List ℕ → Answer) (says : ℕ → List ℕ → ℕ → Type 0) (now : Option ℕ) (x y : List ℕ) (before after : Option (List ℕ)) : Type 0 where
  pub done : List (List ℕ)
  pub moments : List ℕ
  pub done_are : lines x ≡ done ++ lines y
  pub each : length moments ≡ length done
  pub said : AreMoments says now 0 moments done
  pub text : Appends before after (answers at moments done)

-- a write failed, and a prefix of the answer to a line went out
abbrev pub LineCut : (ℕ → List ℕ → Answer) → (ℕ → Type 0) → Option ℕ → List ℕ → Option (List ℕ) → Option (List ℕ) → Bool → ℕ → Type 0
LineCut at says now l before after failed status = (m : ℕ) × IsMoment says now m × (failed ≡ true) × (status ≡ 3) × ((n : ℕ) × Appends before after (take n (at m l).text))

-- What ends a run at a line: the clock couldn't be read, which is answered as a failed read is; or an allocation was refused; or a
-- write failed.
abbrev pub LineEnds : (ℕ → List ℕ → Answer) → Answer → (ℕ → Type 0) → Option ℕ → List ℕ → Option (List ℕ) → Option (List ℕ) → Bool → ℕ → Type 0
LineEnds at unread says now l before after failed status = ((now ≡ None) × Prints unread before after failed status)
    ⊎ (Prints out_of_memory before after failed status ⊎ LineCut at says now l before after failed status)

-- What ends a run before x is at its end: a read failed; or else what ends it at the first line of x.
pub record Ended (at : ℕ → List ℕ → Answer) (unread : Answer) (says : ℕ → List ℕ → ℕ → Type 0) (now : Option ℕ) (x : List ℕ) (fails : Bool) (before after : Option (List ℕ)) (failed : Bool) (status : ℕ) : Type 0 where
  pub y : List ℕ
  pub between : Option (List ℕ)
  pub done : AnswersLines at says now x y before between
  pub by : ((fails ≡ true) × Prints unread between after failed status)
      ⊎ LineEnds at unread (says (length done.done) (first_line y)) now (first_line y) between after failed status

-- each line is answered, and the status is 0; or something ended the run behind some of the answers
abbrev pub GivesLines : (ℕ → List ℕ → Answer) → Answer → (ℕ → List ℕ → ℕ → Type 0) → Option ℕ → List ℕ → Bool → Option (List ℕ) → Option (List ℕ) → Bool → ℕ → Type 0
GivesLines at unread says now x fails before after failed status = (AnswersLines at says now x [] before after × (status ≡ 0))
    ⊎ Ended at unread says now x fails before after failed status

-- ---- Cited by contracts of private functions alone

-- the answer to a line went out
abbrev pub LineAnswered : (ℕ → List ℕ → Answer) → (ℕ → Type 0) → Option ℕ → List ℕ → Option (List ℕ) → Option (List ℕ) → Type 0
LineAnswered at says now l before after = (m : ℕ) × IsMoment says now m × Appends before after (at m l).text

-- a write failed, and a prefix of the answers that were ready went out
abbrev pub CutReady : List ℕ → Option (List ℕ) → Option (List ℕ) → Bool → Type 0
CutReady ready before after failed = (0 < length ready) × (failed ≡ true) × ((n : ℕ) × Appends before after (take n ready))

-- the answers that were ready are ready still; or they went out, and none is ready
abbrev pub MayHaveSent : List ℕ → List ℕ → Option (List ℕ) → Option (List ℕ) → Type 0
MayHaveSent ready left before after = ((left ≡ ready) × (after ≡ before)) ⊎ ((left ≡ []) × Appends before after ready)

-- the answers that were ready went out, and what followed is so; or a write failed
abbrev pub SendsReady : List ℕ → (Option (List ℕ) → Type 0) → Option (List ℕ) → Option (List ℕ) → Bool → ℕ → Type 0
SendsReady ready follows before after failed status = ((between : Option (List ℕ)) × Appends before between ready × follows between)
    ⊎ (CutReady ready before after failed × (status ≡ 3))

-- a read failed, or an allocation was refused: that is answered
abbrev pub StopsBy : LineFault → Answer → Option (List ℕ) → Bool → ℕ → Option (List ℕ) → Type 0
StopsBy Read unread after failed status between = Prints unread between after failed status ⊎ Prints out_of_memory between after failed status
StopsBy fault unread after failed status between = Prints out_of_memory between after failed status
