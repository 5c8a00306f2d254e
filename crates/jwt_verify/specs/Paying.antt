-- The tries that are paid, in words.
use Rattle.std.specs.Prelude.{ℕ, ◌≡◌, ◌≤◌, List, ◌++◌, ◌∷◌, length, Option, Some}
use Rattle.jwt_verify.specs.declared.report.Try.{Try}
use Rattle.jwt_verify.specs.Table.{Table, tries, work}

-- these are a prefix of the tries
abbrev pub IsFront : Table → List Try → Type 0
IsFront table made = (rest : List Try) × (tries table ≡ made ++ rest)

-- so many calls are within the ceiling on calls, where there is one
abbrev pub IsWithin : Option ℕ → ℕ → Type 0
IsWithin calls count = (most : ℕ) → calls ≡ Some most → count ≤ most

-- both ceilings allow these tries
abbrev pub AreAllowed : ℕ → Option ℕ → List Try → Type 0
AreAllowed octets calls made = (work made ≤ octets) × IsWithin calls (length made)

-- the paid tries: the longest prefix of the tries that both ceilings allow
pub record ArePaid (table : Table) (octets : ℕ) (calls : Option ℕ) (made : List Try) : Type 0 where
  pub front : IsFront table made
  pub allowed : AreAllowed octets calls made
  pub longest : (others : List Try) → IsFront table others → AreAllowed octets calls others → length others ≤ length made

-- ---- Cited by contracts of private functions alone

-- the entry is the try after these
abbrev pub IsNext : Table → List Try → Try → Type 0
IsNext table made entry = (rest : List Try) × (tries table ≡ made ++ entry ∷ rest)
