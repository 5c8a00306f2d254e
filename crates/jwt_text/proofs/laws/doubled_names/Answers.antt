use Rattle.jwt_text.proofs.DoubledLemmas.{object_iff, name_twice_iff}
use Rattle.jwt_text.proofs.laws.doubled_names.Goals as goal

pub returns : goal.returns
returns c = record { object = object_iff; name_twice = name_twice_iff }
