use Rattle.jwt_keys.proofs.ThumbprintJson as json
use Rattle.jwt_keys.proofs.laws.thumbprints_are_of_json.Goals as goal

pub returns : goal.returns
returns c = json.thumbprints c.octets_are_spelled.ensures.octets c.spellings_are_plain.ensures
