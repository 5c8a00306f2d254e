use Rattle.std.proofs.lemmas.Bool.Decides.{Decides-eqb}
use Rattle.std.proofs.lemmas.Slice.Eq.{strip_prefix_is}
use Rattle.jwt_jwk.proofs.text_blocks.block.behind.Goals as goal

pub returns : goal.returns
returns c = strip_prefix_is Decides-eqb c.args.octets.now c.args.start.now _ c.strip_prefix.ensures.cases
