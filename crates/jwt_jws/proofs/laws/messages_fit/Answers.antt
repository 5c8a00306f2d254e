use Rattle.jwt_jws.proofs.MessageLengths as lengths
use Rattle.jwt_jws.proofs.laws.messages_fit.Goals as goal

pub returns : goal.returns
returns c = record {
  length = lengths.messages_fit c.texts_fit.ensures.text c.texts_fit.ensures.member c.texts_fit.ensures.members;
  count = lengths.signatures_are_few;
}
