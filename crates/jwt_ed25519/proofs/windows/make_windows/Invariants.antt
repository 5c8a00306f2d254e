use Rattle.std.proofs.Common.{◌≡◌, length}
use Rattle.numbers.specs.Digits.{doublings}
use Rattle.jwt_ed25519.specs.Elements.{coordinates}
use Rattle.jwt_ed25519.specs.Points.{doubled}
use Rattle.jwt_ed25519.specs.Windows.{AreWindows}
use Rattle.jwt_ed25519.proofs.windows.make_windows.Given as goal

abbrev pub invariant-rows : goal.invariant-rows
invariant-rows l = record {
  long : length l.table.items ≡ l.k;
  double : coordinates l.double ≡ doubled (doublings l.k) (coordinates l.fn.p);
  windows : AreWindows l.k (coordinates l.fn.p) l.table.items;
}
