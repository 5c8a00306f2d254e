use Rattle.std.proofs.Common.{arith}
use Rattle.std.proofs.lemmas.Grind.{text_groups}
use Rattle.jwt_keys.proofs.index.add_number.Goals as goal

pub returns : goal.returns
returns c = λ q. grind (arith, text_groups)
