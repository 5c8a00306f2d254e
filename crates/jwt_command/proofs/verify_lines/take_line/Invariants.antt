use Rattle.std.proofs.Common.{◌≤◌, ◌+◌, length}
use Rattle.std.specs.Io.KnownBytes.{prepend_known}
use Rattle.jwt_command.proofs.WalkedLines.{Walked}
use Rattle.jwt_command.proofs.verify_lines.take_line.Given as goal

-- what was taken of the line, of which the octets up to one past the limit are held
abbrev pub invariant-parts : goal.invariant-parts
invariant-parts g l = record {
  walked : Walked l.fn.limit (prepend_known l.fn.ahead (g.R.Source.remaining l.fn.r)) (prepend_known l.ahead (g.R.Source.remaining l.r)) l.line.items l.any;
  fits : length l.line.items ≤ l.fn.limit + 1;
}
