-- A run that asks for a pair next.
use Rattle.std.specs.Prelude.{ℕ, ◌<◌, ◌≡◌, true, List}
use Rattle.jwt_verify.specs.declared.report.Try.{Try}
use Rattle.jwt_verify.specs.Table.{Table}
use Rattle.jwt_verify.specs.Walk.{HasComeTo}

-- these tries were made, and the run asks for this pair next
pub record IsPending (table : Table) (signature key : ℕ) (made : List Try) : Type 0 where
  pub at : HasComeTo table signature key made
  pub within : key < table.keys
  pub eligible : table.eligible signature key ≡ true
