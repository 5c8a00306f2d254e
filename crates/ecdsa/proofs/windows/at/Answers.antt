use Rattle.std.proofs.Common.{◌∙◌}
use Rattle.ecdsa.proofs.Doublings.{at_place}
use Rattle.ecdsa.proofs.windows.at.Goals as goal

pub returns : goal.returns
returns g c = c.index-xs-k.is ∙ at_place c.args.xs.now c.args.k c.index-xs-k.result c.requires
