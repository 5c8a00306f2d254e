use Rattle.jwt_mac.proofs.TagSizes.{length-tag_of}
use Rattle.jwt_mac.proofs.laws.tags_are_digests.Goals as goal

pub returns : goal.returns
returns c = length-tag_of
