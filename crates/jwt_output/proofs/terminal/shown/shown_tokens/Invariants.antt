use Rattle.std.proofs.Common.{length}
use Rattle.jwt_output.proofs.terminal.shown.shown_tokens.Given as goal

abbrev pub decreases-tokens : goal.decreases-tokens
decreases-tokens l = length l.reader
