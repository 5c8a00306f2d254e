use Rattle.jwt_possession.proofs.NormalPaths.{normal_paths}
use Rattle.jwt_possession.proofs.laws.normal_paths.Goals as goal

pub returns : goal.returns
returns c = normal_paths
