use Rattle.std.proofs.Common.{◌≡◌, ◌<◌, ◌==◌, length, false}
use Rattle.std.specs.List.{list_any}
use Rattle.std.specs.Io.KnownBytes.{Keeps, prepend_known}
use Rattle.jwt_command.proofs.input.line.line.Given as goal

-- what was taken, and behind it what is still to come, stays the same; and no line feed was taken
abbrev pub invariant-octets : goal.invariant-octets
invariant-octets g l = record {
  unread : Keeps (g.R.Source.remaining l.fn.r) (prepend_known l.octets.items (g.R.Source.remaining l.r));
  count : length l.octets.items ≡ l.counter;
  works : 0 < l.counter → g.R.Source.failed l.r ≡ false;
  no_feed : list_any (λ octet. octet == 10) l.octets.items ≡ false;
}
