-- One line of an input.
use Rattle.std.specs.Prelude.{◌≡◌, ◌<◌, ◌≤◌, ◌+◌, ◌==◌, ℕ, Bool, true, false, List, [], ◌∷◌, length, drop, min, Option, Some, if◌then◌else◌}
use Rattle.std.specs.List.{list_any}
use Rattle.jwt_text.specs.Intake.{TakesAtMost}
use Rattle.jwt_command.specs.declared.input.line.LineFault.{LineFault}
use Rattle.jwt_command.specs.declared.input.line.LineFault.TheVariants.{OutOfMemory, Read, TooLong}

-- the octets before the first line feed, or all where there is none
abbrev pub first_line : List ℕ → List ℕ
first_line [] = []
first_line (c ∷ cs) = if c == 10 then [] else c ∷ first_line cs

-- the octets behind the first line feed
abbrev pub after_line : List ℕ → List ℕ
after_line [] = []
after_line (c ∷ cs) = if c == 10 then cs else after_line cs

-- the line is within the limit, and what follows it is still to come
pub record TakesLine (limit : ℕ) (x octets : List ℕ) (rest : Option (List ℕ)) : Type 0 where
  pub line : octets ≡ first_line x
  pub unread : rest ≡ Some (after_line x)
  pub within : length (first_line x) ≤ limit

-- how many octets of a line are taken at most: as far as its line feed, or one past the limit
abbrev pub line_most : ℕ → List ℕ → ℕ
line_most limit x = min (limit + 1) (length (first_line x) + 1)

-- one octet past the limit was taken; or a read failed; or an allocation was refused
abbrev pub LineFails : ℕ → Bool → List ℕ → Option (List ℕ) → LineFault → Type 0
LineFails limit failed x rest TooLong = (limit < length (first_line x)) × (rest ≡ Some (drop (limit + 1) x)) × (failed ≡ false)
LineFails limit failed x rest Read = failed ≡ true
LineFails limit failed x rest OutOfMemory = TakesAtMost (line_most limit x) x rest

-- ---- Cited by contracts of private functions alone

-- a line feed is among the octets
abbrev pub has_line_feed : List ℕ → Bool
has_line_feed octets = list_any (λ c. c == 10) octets
