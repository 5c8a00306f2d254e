use Rattle.jwt_text.specs.Flat.{most}
use Rattle.jwt_text.proofs.ObjectLemmas.{no_entries}
use Rattle.jwt_text.proofs.owned.Object.empty.Goals as goal

pub invariant_of-result : goal.invariant_of-result
invariant_of-result c = no_entries most c.new.result c.new-2.result.items c.new-2.ensures.items
