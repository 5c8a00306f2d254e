use Rattle.jwt_text.proofs.WrittenColons.{colons-names}
use Rattle.jwt_text.proofs.laws.colons_are_names.Goals as goal

pub returns : goal.returns
returns c text depth j e = colons-names text depth j e
