use Rattle.std.proofs.Common.{refl}
use Rattle.jwt_possession.specs.Uris.{normal_uri}
use Rattle.jwt_possession.proofs.laws.examples_of_normal_uris.Goals as goal

pub returns : goal.returns
unfolding normal_uri
returns c = record { formed = refl; unformed = refl; capitals = refl; no_path = refl; root = refl; empty_port = refl; own_port = refl; dots = refl; dots_of_a_segment = refl }
