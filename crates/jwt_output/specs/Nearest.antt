-- The member of a policy that is near to a name.
use Rattle.std.specs.Prelude.{ℕ, List, ◌==◌, length, nat_eq, Option}
use Rattle.std.specs.List.{find}
use Rattle.std.specs.Option.{option_or}
use Rattle.std.specs.Str.{chars}
use Rattle.strsim.specs.Edits.{levenshtein_row}
use Rattle.jwt_policy.specs.Document.{names_of_version_one}

-- the least number of characters to be put in, left out or replaced, by `strsim`'s definition
abbrev pub edits : List ℕ → List ℕ → ℕ
edits a b = levenshtein_row nat_eq (chars a) (chars b) (length (chars b))

-- the first of some names to which so many edits lead
abbrev pub at_edits : ℕ → List ℕ → List (List ℕ) → Option (List ℕ)
at_edits n name known = find (λ k. edits name k == n) known

-- the member of every version of the policy that is one edit away, else two
abbrev pub nearest_member : List ℕ → Option (List ℕ)
nearest_member name = option_or (at_edits 1 name names_of_version_one) (at_edits 2 name names_of_version_one)
