use Rattle.jwt_text.proofs.TextLengthLemmas.{texts_fit, member_fits, members_fit}
use Rattle.jwt_text.proofs.laws.texts_fit.Goals as goal

pub returns : goal.returns
returns c = record { text = texts_fit; member = member_fits; members = members_fit }
