use Rattle.jwt_command.proofs.LineLemmas.{first_feed}
use Rattle.jwt_command.proofs.input.buffered.first_line_feed.Goals as goal

pub returns : goal.returns
returns c = first_feed c.args.octets.now c.memchr.result c.memchr.ensures
