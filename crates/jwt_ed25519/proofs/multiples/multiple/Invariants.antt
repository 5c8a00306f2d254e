use Rattle.std.proofs.Common.{◌≡◌, ◌*◌, ◌/◌, ◌^◌}
use Rattle.jwt_ed25519.specs.Elements.{coordinates, summed}
use Rattle.jwt_ed25519.specs.Limbs.{number}
use Rattle.jwt_ed25519.specs.Points.{doubled, multiple_by}
use Rattle.jwt_ed25519.proofs.multiples.multiple.Given as goal

abbrev pub invariant-digits : goal.invariant-digits
invariant-digits l = record {
  rest : number l.rest ≡ number l.fn.scalar / 16 ^ l._place;
  point : coordinates l.point ≡ doubled (4 * l._place) (coordinates l.fn.p);
  sum : summed l.total ≡ multiple_by l._place (number l.fn.scalar) (coordinates l.fn.p);
}
