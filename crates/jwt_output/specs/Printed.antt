-- The output of a command, and its status.
use Rattle.std.specs.Prelude.{◌≡◌, ◌<◌, ◌⊎◌, ℕ, Bool, true, false, length, List, [], ◌∷◌, ◌++◌, Option, take, codes}
use Rattle.std.specs.Io.KnownBytes.{Appends}

pub record Answer : Type 0 where
  pub text : List ℕ
  pub status : ℕ

-- the parts of a line, in order, and its line feed
abbrev pub line_text : List (List ℕ) → List ℕ
line_text [] = 10 ∷ []
line_text (part ∷ parts) = part ++ line_text parts

abbrev pub line : List (List ℕ) → ℕ → Answer
line parts status = record { text = line_text parts; status = status }

abbrev pub out_of_memory : Answer
out_of_memory = line (codes "failed OutOfMemory" ∷ []) 4

-- From what had gone out to what has gone out: the whole text went out, the writer hasn't failed, unless there was nothing to be
-- written, and the status is the answer's; or the writer has failed, a prefix of the text went out, and the status is 3.
abbrev pub Prints : Answer → Option (List ℕ) → Option (List ℕ) → Bool → ℕ → Type 0
Prints a before after failed status = (Appends before after a.text × (0 < length a.text → failed ≡ false) × (status ≡ a.status))
    ⊎ ((failed ≡ true) × ((n : ℕ) × Appends before after (take n a.text)) × (status ≡ 3))

-- wrong words: some text with the status 2, or an allocation was refused
abbrev pub GivesWrongWords : Option (List ℕ) → Option (List ℕ) → Bool → ℕ → Type 0
GivesWrongWords before after failed status = ((text : List ℕ) × Prints (record { text = text; status = 2 }) before after failed status)
    ⊎ Prints out_of_memory before after failed status
