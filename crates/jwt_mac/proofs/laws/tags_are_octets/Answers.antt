use Rattle.jwt_mac.proofs.TagOctets.{tag_is_octets}
use Rattle.jwt_mac.proofs.laws.tags_are_octets.Goals as goal

pub returns : goal.returns
returns c = tag_is_octets
