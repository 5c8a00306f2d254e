-- The first expectation that claims don't meet.
use Rattle.std.specs.Prelude.{ℕ, ◌≡◌, ◌≢◌, ◌<◌, List, Some, slice_get}
use Rattle.serde_json.specs.Data.{Data, string, Members}
use Rattle.jwt_mac.specs.declared.algorithm.Alg.{Alg}
use Rattle.jwt_access.specs.Granted.{IsClaim}
use Rattle.jwt_access.specs.expected.Expected.{expected_text, IsMet}
use Rattle.jwt_access.specs.declared.expected.expected.Expected.{Expected}
use Rattle.jwt_access.specs.declared.expected.expected.Unmet.{Unmet}
use Rattle.jwt_access.specs.declared.expected.expected.Unmet.TheVariants.{Absent, Other}

-- the claim is absent: it has no value
abbrev pub IsAbsent : Members → Expected → Type 0
IsAbsent members expected = (value : Data) → ¬ IsClaim expected.claim.now members value

-- the claim is there, and isn't the text that it has to be
abbrev pub IsOther : Alg → Members → Expected → Type 0
IsOther alg members expected = (value : Data) × IsClaim expected.claim.now members value × (value ≢ string (expected_text alg expected.wanted))

-- the expectation at this place is this one, and each before it is met
pub record IsReached (alg : Alg) (members : Members) (list : List Expected) (place : ℕ) (expected : Expected) : Type 0 where
  pub is : slice_get list place ≡ Some expected
  pub before : (at : ℕ) (earlier : Expected) → at < place → slice_get list at ≡ Some earlier → IsMet alg members earlier

-- the first that isn't met, by its place from 0, and whether its claim is absent or another
abbrev pub IsFirstUnmet : Alg → Members → List Expected → Unmet → Type 0
IsFirstUnmet alg members list (Absent place) = (expected : Expected) × IsReached alg members list place expected × IsAbsent members expected
IsFirstUnmet alg members list (Other place) = (expected : Expected) × IsReached alg members list place expected × IsOther alg members expected
