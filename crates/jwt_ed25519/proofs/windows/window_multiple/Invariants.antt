use Rattle.std.proofs.Common.{◌≡◌, ◌/◌, ◌^◌}
use Rattle.jwt_ed25519.specs.Elements.{summed}
use Rattle.jwt_ed25519.specs.Limbs.{number}
use Rattle.jwt_ed25519.specs.Points.{Coordinates, multiple_by}
use Rattle.jwt_ed25519.specs.Windows.{AreWindows}
use Rattle.jwt_ed25519.proofs.windows.window_multiple.Given as goal

abbrev pub invariant-digits : goal.invariant-digits
invariant-digits l = record {
  rest : number l.rest ≡ number l.fn.scalar / 16 ^ l.place;
  sum : (P : Coordinates) → AreWindows 1024 P l.windows.table.items → summed l.total ≡ multiple_by l.place (number l.fn.scalar) P;
}
