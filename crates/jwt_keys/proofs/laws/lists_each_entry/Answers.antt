use Rattle.jwt_keys.proofs.EachEntry.{lists_each_entry}
use Rattle.jwt_keys.proofs.laws.lists_each_entry.Goals as goal

pub returns : goal.returns
returns c = lists_each_entry
