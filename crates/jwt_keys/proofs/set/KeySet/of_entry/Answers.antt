use Rattle.jwt_keys.proofs.OneEntry.{one_entry}
use Rattle.jwt_keys.proofs.set.KeySet.of_entry.Goals as goal

pub returns : goal.returns
returns c = one_entry c.args.entry c.in_ok-set.set c.new-keys.result.items c.add_entry.new.keys.items c.new-skipped.result.items c.add_entry.new.skipped.items c.new-keys.ensures.items c.new-skipped.ensures.items c.in_ok-set.ensures.keys c.in_ok-set.ensures.skipped c.in_ok-add_entry.ensures.keys c.in_ok-add_entry.ensures.skipped
