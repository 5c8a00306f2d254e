use Rattle.std.proofs.Common.{refl}
use Rattle.jwt_ed25519.specs.Elements.{element}
use Rattle.jwt_ed25519.specs.Field.{times}
use Rattle.jwt_ed25519.proofs.point.base_y_element.Goals as goal

pub returns : goal.returns
unfolding element times
returns c = refl
