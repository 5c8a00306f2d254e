use Rattle.jwt_keys.proofs.SkipTable.{skips_by_the_table}
use Rattle.jwt_keys.proofs.laws.skips_by_the_table.Goals as goal

pub returns : goal.returns
returns c = skips_by_the_table
